-- What the reader's functions answer and leave.
--   tables_of d       the reader's tables that hold the deck d
--   DeckRead          what a whole text was, as an outcome, with what it left in the tables where it was not refused: DeckStored
-- Assumes nothing.
use Rattle.std.specs.Prelude.{◌≡◌, map, ℕ, ◌≤◌, length, Result}
use Rattle.whole.specs.Lists.{zeros}
use Rattle.problem.specs.declared.Refusal.{Refusal}
use Rattle.sections.specs.Rules.{Outcome}
use Rattle.sections.specs.Sections.{deck_columns, deck_rows}
use Rattle.sections.specs.SectionsRead.{Told}
use Rattle.sections.specs.StatedColumns.{right_of, coefficient_rows, padded, padded_by, no_interval}
use Rattle.sections.specs.declared.Cursor.{Cursor}
use Rattle.sections.specs.declared.Tables.{Tables}
use Rattle.deck.specs.Posing.{Deck, all_lines, columns_of}

abbrev pub tables_of : Deck → Tables
tables_of d = record {
  columns = padded_by no_interval deck_columns (columns_of d);
  rights = padded deck_rows (map right_of (all_lines d));
  rows = padded_by (zeros deck_columns) deck_rows (coefficient_rows deck_columns (length d.intervals) (all_lines d));
}

pub record DeckStored (c : Cursor) (T : Tables) (d : Deck) (e : ℕ) : Type 0 where
  pub at : c.at ≡ e
  pub columns : c.columns ≡ length (columns_of d)
  pub rows : c.rows ≡ length (all_lines d)
  pub intervals : c.intervals ≡ length d.intervals
  pub few : c.columns ≤ deck_columns
  pub few_rows : c.rows ≤ deck_rows
  pub tables : T ≡ tables_of d

abbrev pub DeckRead : Outcome Deck → Result Cursor Refusal → Tables → Type 0
DeckRead o r T = Told o (λ d e c. DeckStored c T d e) r
