-- What holds at each turn of `tableau::filling::fill_column`. Assumes nothing.
use lib.ListN.{length}
use Rattle.lattice.specs.Rows.{chop}
use Rattle.whole.proofs.Writing.{WrittenTo}
use Rattle.tableau.specs.Table.{column}
use Rattle.tableau.proofs.filling.fill_column.Given as goal

abbrev pub invariant-loop-i : goal.invariant-loop-i
invariant-loop-i l = WrittenTo l.fn.to (column l.j (chop (length l.fn.to) l.n l.coefficients)) l.to l.i
