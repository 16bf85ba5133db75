-- What holds at each turn of `volumes::later_paths`: whatever paths came before, what is left to read after those done is what was to be read, and
-- the rows of those done are in the table. Assumes nothing.
use Rattle.std.proofs.Common.{◌≡◌, ℕ, ◌+◌, ◌-◌, List, ◌++◌, map, length, Bool, ℤ}
use Rattle.text.specs.Overwriting.{overwritten}
use Rattle.sections.specs.SectionsRead.{cursor}
use Rattle.sections.specs.declared.Cursor.{Cursor}
use Rattle.volumes.specs.Volumes.{SweepPath, Volume, paths}
use Rattle.volumes.specs.VolumesRead.{later_row}
use Rattle.volumes.proofs.later_paths.Given as goal

pub record Sofar (s : List ℕ) (k i : ℕ) (a : Cursor) (f : List Bool) (t₀ : List (List ℤ)) (c : Cursor) (t : List (List ℤ)) : Type 0 where
  pub later : List SweepPath
  pub many : length later ≡ i
  pub cursor_is : c ≡ cursor c.at a.intervals a.columns (a.rows + i)
  pub rest : (done : Volume) → paths s (k - i) a.intervals (done ++ later) c.at ≡ paths s k a.intervals done a.at
  pub rows_are : t ≡ overwritten t₀ a.rows (map (later_row f) later)

abbrev pub invariant-loop : goal.invariant-loop
invariant-loop l = Sofar l.s l.k l.counter l.fn.start l.first l.initial.rows l.c l.rows
