-- What holds at each turn of `joined::columns::fill_places`. Assumes nothing.
use Rattle.std.proofs.Common.{◌≡◌, ◌++◌, ◌≤◌, ◌+◌, take, drop}
use Rattle.joined.specs.Columns.{places_from}
use Rattle.joined.proofs.columns.fill_places.Given as goal

abbrev pub invariant-loop-j : goal.invariant-loop-j
invariant-loop-j l = (l.next ≤ l.first + l.j) × (take l.j l.places ++ places_from l.next (drop l.j l.partners) ≡ places_from l.first l.partners)
