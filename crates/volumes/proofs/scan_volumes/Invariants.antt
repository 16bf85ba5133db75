-- What holds at each turn of `volumes::scan_volumes`: what is left to read, after the volumes done, is what was to be read, and their rows are in the
-- table. Assumes nothing.
use Rattle.std.proofs.Common.{◌≡◌, ℕ, ◌+◌, ◌-◌, ◌≤◌, List, length, ℤ, nat_abs}
use Rattle.text.specs.Overwriting.{overwritten}
use Rattle.sections.specs.Rules.{Outcome}
use Rattle.sections.specs.Sections.{deck_columns, deck_rows}
use Rattle.sections.specs.SectionsRead.{cursor}
use Rattle.sections.specs.StatedColumns.{coefficient_rows}
use Rattle.sections.specs.declared.Cursor.{Cursor}
use Rattle.volumes.specs.Volumes.{Volume, volumes, volume_section}
use Rattle.volumes.specs.PathLines.{swept_lines}
use Rattle.volumes.proofs.scan_volumes.Given as goal

pub record Sofar (s : List ℕ) (o : Outcome (List Volume)) (k i : ℕ) (a : Cursor) (t₀ : List (List ℤ)) (c : Cursor) (t : List (List ℤ)) : Type 0 where
  pub few : c.rows ≤ deck_rows
  pub done : List Volume
  pub cursor_is : c ≡ cursor c.at a.intervals a.columns (a.rows + length (swept_lines done))
  pub rest : volumes s (k - i) a.intervals c.rows done c.at ≡ o
  pub rows_are : t ≡ overwritten t₀ a.rows (coefficient_rows deck_columns a.columns (swept_lines done))

abbrev pub invariant-loop : goal.invariant-loop
invariant-loop l =
    Sofar l.s (volume_section l.s l.fn.start.intervals l.fn.start.rows l.fn.start.at) (nat_abs l.k) l.counter l.fn.start l.initial.rows l.c l.rows
