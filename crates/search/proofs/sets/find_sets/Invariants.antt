-- What holds at each turn of `search::sets::find_sets`. Assumes nothing.
use Rattle.settling.specs.Views.{vectors}
use Rattle.search.proofs.Finding.{Filled}
use Rattle.search.proofs.sets.find_sets.Given as goal

abbrev pub invariant-loop-s : goal.invariant-loop-s
invariant-loop-s l = Filled (vectors l.basis) l.s l.supports l.holders
