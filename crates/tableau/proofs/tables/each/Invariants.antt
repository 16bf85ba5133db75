-- What holds at each turn of `tableau::tables::each`. Assumes nothing.
use Prim.Native.Nat.{◌-◌}
use Rattle.tableau.specs.RowSteps.{row_step}
use Rattle.tableau.proofs.Walking.{Walk}
use Rattle.tableau.proofs.tables.each.Given as goal

abbrev pub invariant-loop : goal.invariant-loop
invariant-loop l = Walk (row_step l.way l.c l.pivot) l.w l.rows l.fn.t l.t l.at (l.rows - l.counter)
