-- What the reader's functions answer, as outcomes, and what they leave in what they are lent.
--   slack_is                 the y of a row, as its kind has it
--   Told o P r               r answers what o read, of which P says the rest (WasRead); or its refusal
--   TermsRead, LineRead, OneRead   what was read of a row, as an outcome, with what it left where it was not refused: OneStored
--   with_row r c v T         the tables T once a row is stored at the cursor c, whose terms are in the line v
--   with_rows n ls T         the tables T once the rows ls are stored behind n intervals: the y's, right sides and coefficients
--   Cursor                   where reading has come to (declared in src/); `cursor` makes one of the place, the intervals, the columns and the rows
--   intervals_left o         what the section of intervals answers and leaves of the outcome o, in a blank table: its columns, or blank again
--   rows_left n T o          what the section of rows does, after n intervals in the tables T: the rows stored, or all blank
--   left, LeftOpen           what both are made by; the latter where what a refused section left is open
-- Assumes nothing.
use Rattle.std.specs.Prelude.{◌≡◌, List, map, ℕ, ◌+◌, ◌≤◌, ℤ, length, set, Option, Some, None, Result, Ok, Err}
use Rattle.text.specs.Overwriting.{overwritten}
use Rattle.problem.specs.Kinds.{none, slack, slack_of, slack_count}
use Rattle.problem.specs.Kinds as kinds
use Rattle.problem.specs.declared.Refusal.{Refusal}
use Rattle.problem.specs.declared.Row.{Row}
use Rattle.sections.specs.Rules.{Outcome}
use Rattle.sections.specs.Sections.{deck_columns, Line}
use Rattle.sections.specs.StatedColumns.{right_of, placed, with_slack, slack_column, slack_columns, coefficient_rows}
use Rattle.sections.specs.StatedColumns.{padded_by, no_interval, blank_line, blank_tables}
use Rattle.sections.specs.declared.Interval.{Interval}
use Rattle.sections.specs.declared.Tables.{Tables}
use Rattle.sections.specs.declared.Term.{Term}
use Rattle.sections.specs.declared.Cursor.{Cursor}
use Rattle.sections.specs.declared.rows.Slack.{Slack}

abbrev pub slack_is : Option Slack → kinds.Slack
slack_is None = none
slack_is (Some y) = slack y.coefficient y.least

pub record WasRead {A : Type 0} (o : Outcome A) (P : A → ℕ → Type 0) : Type 0 where
  pub what : A
  pub end : ℕ
  pub read : o ≡ Ok (what, end)
  pub rest : P what end

abbrev pub Told : {A R : Type 0} → Outcome A → (A → ℕ → R → Type 0) → Result R Refusal → Type 0
Told o P (Ok r) = WasRead o (λ a e. P a e r)
Told o P (Err why) = o ≡ Err why

-- ---- a row: its line holds its terms
abbrev pub TermsRead : Outcome (List Term) → Result ℕ Refusal → List ℤ → List ℤ → Type 0
TermsRead o r u v = Told o (λ ts e p. (p ≡ e) × (v ≡ placed ts u)) r

abbrev pub LineRead : Outcome Line → Outcome Row → List ℤ → Type 0
LineRead o r v = Told o (λ l e x. (x ≡ (l.row, e)) × (v ≡ placed l.terms blank_line)) r

-- ---- rows in the tables
abbrev pub with_row : Row → Cursor → List ℤ → Tables → Tables
with_row r c v T = record {
  columns = overwritten T.columns c.columns (slack_column (slack_of r.kind));
  rights = set T.rights c.rows r.right;
  rows = set T.rows c.rows (with_slack (slack_of r.kind) c.columns v);
}

abbrev pub with_rows : ℕ → List Line → Tables → Tables
with_rows n ls T = record {
  columns = overwritten T.columns n (slack_columns ls);
  rights = overwritten T.rights 0 (map right_of ls);
  rows = overwritten T.rows 0 (coefficient_rows deck_columns n ls);
}

-- a row read from the cursor c up to the cursor d, and stored
pub record OneStored (c d : Cursor) (T U : Tables) (l : Line) (e : ℕ) : Type 0 where
  pub at : d.at ≡ e
  pub intervals : d.intervals ≡ c.intervals
  pub columns : d.columns ≡ c.columns + slack_count l.row.kind
  pub rows : d.rows ≡ c.rows + 1
  pub room : d.columns ≤ deck_columns
  pub tables : U ≡ with_row l.row c (placed l.terms blank_line) T

abbrev pub OneRead : Outcome Line → Cursor → Result Cursor Refusal → Tables → Tables → Type 0
OneRead o c r T U = Told o (λ l e d. OneStored c d T U l e) r

-- ---- sections
abbrev pub cursor : ℕ → ℕ → ℕ → ℕ → Cursor
cursor at intervals columns rows = record { at = at; intervals = intervals; columns = columns; rows = rows }

-- what a section answers and leaves of an outcome: f and g of what was read, or its refusal and z
abbrev pub left : {A T : Type 0} → (A → ℕ → Cursor) → (A → T) → T → Outcome A → Result Cursor Refusal × T
left f g z (Ok (a, e)) = (Ok (f a e), g a)
left f g z (Err why) = (Err why, z)

-- the same, where what a refused section left is open
abbrev pub LeftOpen : {A T : Type 0} → (Outcome A → Result Cursor Refusal × T) → Outcome A → Result Cursor Refusal → T → Type 0
LeftOpen f o (Ok c) t = f o ≡ (Ok c, t)
LeftOpen f o (Err why) t = o ≡ Err why

abbrev pub intervals_left : Outcome (List Interval) → Result Cursor Refusal × List Interval
intervals_left = left (λ is e. cursor e (length is) (length is) 0) (λ is. padded_by no_interval deck_columns is) blank_tables.columns

abbrev pub rows_left : ℕ → Tables → Outcome (List Line) → Result Cursor Refusal × Tables
rows_left n T = left (λ ls e. cursor e n (n + length (slack_columns ls)) (length ls)) (λ ls. with_rows n ls T) blank_tables
