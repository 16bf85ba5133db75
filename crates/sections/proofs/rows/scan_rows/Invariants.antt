-- What holds at each turn of `sections::rows::scan_rows`: what is left to read, after the rows done, is what was to be read, and the tables hold the
-- rows done. Assumes nothing.
use Rattle.std.proofs.Common.{◌≡◌, ℕ, ◌+◌, ◌-◌, ◌≤◌, List, length, nat_abs}
use Rattle.sections.specs.declared.Cursor.{Cursor}
use Rattle.sections.specs.declared.Tables.{Tables}
use Rattle.sections.specs.Rules.{Outcome}
use Rattle.sections.specs.Sections.{deck_columns, deck_rows, Line, lines, row_section}
use Rattle.sections.specs.StatedColumns.{slack_columns}
use Rattle.sections.specs.SectionsRead.{with_rows}
use Rattle.sections.proofs.rows.scan_rows.Given as goal

pub record Sofar (s : List ℕ) (o : Outcome (List Line)) (m n : ℕ) (T : Tables) (i : ℕ) (c : Cursor) (U : Tables) : Type 0 where
  pub most : m ≤ deck_rows
  pub room : c.columns ≤ deck_columns
  pub intervals : c.intervals ≡ n
  pub rows : c.rows ≡ i
  pub done : List Line
  pub many : length done ≡ i
  pub rest : lines s (m - i) n c.columns done c.at ≡ o
  pub columns : c.columns ≡ n + length (slack_columns done)
  pub tables : U ≡ with_rows n done T

abbrev pub invariant-loop : goal.invariant-loop
invariant-loop l =
    Sofar l.s (row_section l.s l.fn.start.intervals l.fn.start.at) (nat_abs l.m) l.fn.start.intervals l.initial.tables l.counter l.c l.tables
