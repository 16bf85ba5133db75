-- `tableau::filling::fill` meets its contract: the rows are filled from the top. Assumes nothing.
use mathlib.Core.Path.{◌∙◌, ap}
use Prim.Native.Nat.{◌+◌, ◌*◌}
use lib.ListN.{length}
use Rattle.lattice.proofs.LentParts.{part_is, part_back}
use Rattle.tableau.proofs.Tableaus.{starts, goes_on, ends, row_wide}
use Rattle.tableau.proofs.filling.fill.Goals as goal

pub loop-j-init : goal.loop-j-init
loop-j-init c = starts _ _ _ _

pub loop-j-preserved : goal.loop-j-preserved
loop-j-preserved c =
    let w = c.args.p.rows + c.args.p.columns in
    let l = c.loop-j in
    rw (part_back (l.j * w) w l.t c.fill_row.new.row)
    (goes_on l.invariant c.requires.table c.loop-j-test.true c.fill_row.new.row
    (c.fill_row.auto.row ∙ ap length (part_is (l.j * w) w l.t) ∙ row_wide l.invariant c.requires.table c.loop-j-test.true)
    c.fill_row.ensures)

pub returns : goal.returns
returns c = ends c.loop-j.invariant c.requires.table c.loop-j-test.false
