-- What holds at each turn of `volumes::later_row`: the first j numbers are stored. Assumes nothing.
use Rattle.std.proofs.Common.{◌≡◌, ◌<◌, ℕ, length}
use Rattle.whole.specs.Lists.{entry}
use Rattle.sections.specs.Sections.{deck_columns}
use Rattle.volumes.specs.VolumesRead.{less}
use Rattle.volumes.proofs.later_row.Given as goal

abbrev pub invariant-loop-j : goal.invariant-loop-j
invariant-loop-j l = (length l.row ≡ deck_columns) × ((k : ℕ) → k < l.j → entry k l.row ≡ entry k (less l.first l.later))
