-- `tableau::tables::each` meets its contract: the rows are taken from the top, and each becomes its step. Assumes nothing.
use mathlib.Core.Path.{◌≡◌}
use Prim.Native.Nat.{◌+◌, ◌-◌, ◌≤◌}
use native.Mathlib.Omega.{arith}
use lib.ListN.{length}
use Rattle.lattice.proofs.LentParts.{part_is, part_back}
use Rattle.lattice.proofs.RowsAhead.{ahead}
use Rattle.tableau.specs.RowSteps.{row_step}
use Rattle.tableau.proofs.Walking.{starts, goes_on, refused, stops, ends, next_small, stepping}
use Rattle.tableau.proofs.tables.each.Goals.{In-loop}
use Rattle.tableau.proofs.tables.each.Goals as goal

pub loop-init : goal.loop-init
loop-init c =
    let a = c.args in
    let e : a.rows - 0 ≡ a.rows = omega arith in
    rw e (starts (row_step a.way a.c a.pivot.now) (length a.pivot.now) a.rows a.t.now c.requires.t_len c.requires.within)

-- the next row lies in the table
inside : (c : In-loop) → c.loop.at + length c.args.pivot.now ≤ length c.loop.t
inside c = ahead c.loop.invariant.room (omega (arith, c.loop-test.true))

pub overflow_add-next : goal.overflow_add-next
overflow_add-next c = omega (arith, inside c)

pub offset_bounds-t-at : goal.offset_bounds-t-at
offset_bounds-t-at c = omega (arith, inside c)

pub slice_bounds-step-end : goal.slice_bounds-step-end
slice_bounds-step-end c = inside c

pub step-requires-clause-within : goal.step-requires-clause-within
step-requires-clause-within c = rw (part_is c.loop.at (length c.args.pivot.now) c.loop.t) (next_small c.loop.invariant (omega arith))

pub returns-in_err-step : goal.returns-in_err-step
returns-in_err-step c =
    refused _ c.from_residual.result c.from_residual.ensures.0
    (stops c.loop.invariant (omega arith) (rw (part_is c.loop.at (length c.args.pivot.now) c.loop.t) at c.in_err-step.ensures))

pub loop-preserved : goal.loop-preserved
loop-preserved c =
    let a = c.args in
    let w = length a.pivot.now in
    let o = rw (part_is c.loop.at w c.loop.t) at c.in_ok-step.ensures in
    let e : a.rows - (c.loop.counter + 1) ≡ a.rows - c.loop.counter - 1 = omega arith in
    rw (part_back c.loop.at w c.loop.t c.step.new.row, e)
    (goes_on c.loop.invariant (omega arith) (stepping a.way a.c a.pivot.now) c.step.new.row o.0 o.1)

pub returns : goal.returns
returns c = ends c.loop.invariant (omega arith)
