-- What holds at each turn of `tableau::filling::fill`. Assumes nothing.
use Rattle.tableau.specs.LentTable.{matrix_of}
use Rattle.tableau.proofs.Tableaus.{Filled}
use Rattle.tableau.proofs.filling.fill.Given as goal

abbrev pub invariant-loop-j : goal.invariant-loop-j
invariant-loop-j l = Filled l.p.columns l.w (matrix_of l.p l.coefficients) l.fn.t l.t l.j
