-- What holds at each turn of `tableau::elimination::pass_all`. Assumes nothing.
use Rattle.tableau.proofs.Columns.{Columns}
use Rattle.tableau.proofs.elimination.pass_all.Given as goal

abbrev pub invariant-loop-c : goal.invariant-loop-c
invariant-loop-c l = Columns l.fn.t l.rows l.w l.t l.count l.k l.c
