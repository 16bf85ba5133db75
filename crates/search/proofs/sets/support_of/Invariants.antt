-- What holds at each turn of `search::sets::support_of`. Assumes nothing.
use mathlib.Core.Path.{◌≡◌}
use lib.ListN.{drop}
use Rattle.search.proofs.Finding.{support_of}
use Rattle.search.proofs.sets.support_of.Given as goal

abbrev pub invariant-loop-j : goal.invariant-loop-j
invariant-loop-j l = l.set ≡ support_of (drop l.j l.row)
