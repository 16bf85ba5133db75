-- `tableau::rows::subtract_all` meets its contract: from the left, each number becomes that of the difference, and its bits are collected.
-- Assumes nothing.
use mir.Facts.{to_z-of_z}
use Rattle.tableau.proofs.Written.{subtracting, product_here, left_fits, subtracted_on, subtracted}
use Rattle.tableau.proofs.rows.subtract_all.Goals as goal

pub loop-i-init : goal.loop-i-init
loop-i-init c = subtracting _ _ _

pub overflow_mul-x : goal.overflow_mul-x
overflow_mul-x c =
    let r = c.requires in product_here c.loop-i.invariant r.row_len r.within (rw (to_z-of_z c.ranges.q) r.q_bound) c.loop-i-test.true

pub overflow_sub-x : goal.overflow_sub-x
overflow_sub-x c =
    let r = c.requires in left_fits c.loop-i.invariant r.row_len r.within (rw (to_z-of_z c.ranges.q) r.q_bound) c.loop-i-test.true

pub loop-i-preserved : goal.loop-i-preserved
loop-i-preserved c =
    let r = c.requires in
    subtracted_on c.loop-i.invariant r.row_len r.within (rw (to_z-of_z c.ranges.q) r.q_bound) c.loop-i-test.true c.unsigned_abs-bits.ensures.value

pub returns : goal.returns
returns c =
    let o = subtracted c.loop-i.invariant c.loop-i-test.false in rw (← to_z-of_z c.ranges.q) record { row_after = o.0; result_value = o.1 }
