-- What holds at each turn of `tableau::rows::negate`. Assumes nothing.
use Rattle.lattice.specs.Rows.{neg}
use Rattle.whole.proofs.Writing.{WrittenTo}
use Rattle.tableau.proofs.rows.negate.Given as goal

abbrev pub invariant-loop-x : goal.invariant-loop-x
invariant-loop-x l = WrittenTo l.fn.row (neg l.fn.row) l.x-items l.x-index
