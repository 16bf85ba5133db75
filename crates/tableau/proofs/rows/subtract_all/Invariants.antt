-- What holds at each turn of `tableau::rows::subtract_all`. Assumes nothing.
use Rattle.tableau.proofs.Written.{Subtracting}
use Rattle.tableau.proofs.rows.subtract_all.Given as goal

abbrev pub invariant-loop-i : goal.invariant-loop-i
invariant-loop-i l = Subtracting l.fn.row l.pivot l.q l.row l.bits l.i
