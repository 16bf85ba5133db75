-- `rightside::leading_rows` meets its contract: the walk passes the leading rows, which stand above the others, and stops behind them.
-- Assumes nothing.
use Prim.Native.Nat.{◌+◌, ◌*◌}
use native.Mathlib.Omega.{arith}
use Rattle.lattice.proofs.LentParts.{part_is}
use Rattle.tableau.proofs.Walking.{place_first, place_next}
use Rattle.rightside.proofs.Staircase.{Counts, lead_is, count_starts, count_on, count_stops, count_ends}
use Rattle.rightside.proofs.leading_rows.Goals.{After-lead_from-lead}
use Rattle.rightside.proofs.leading_rows.Goals as goal

pub loop-i-init : goal.loop-i-init
loop-i-init c =
    let a = c.args in
    place_first (λ at left. Counts a.m a.w a.rows a.t.now at left 0) a.w a.rows
    (count_starts a.m a.w a.rows a.t.now c.requires.0 c.requires.1)

pub returns-then-m-lead : goal.returns-then-m-lead
returns-then-m-lead c =
    let a = c.args in
    let v = c.loop-i.invariant in
    let e = rw (part_is (c.loop-i.i * a.w) a.w a.t.now) at c.lead_from-lead.ensures in
    omega (arith, count_stops v (omega arith) (lead_is v.walk (omega arith) e) c.if-m-lead.true)

pub loop-i-preserved : goal.loop-i-preserved
loop-i-preserved c =
    let a = c.args in
    let v = c.loop-i.invariant in
    let e = rw (part_is (c.loop-i.i * a.w) a.w a.t.now) at c.lead_from-lead.ensures in
    place_next (λ at left. Counts a.m a.w a.rows a.t.now at left (c.lead_from-lead.result + 1)) a.w a.rows c.loop-i.i
    (count_on v (omega arith) (lead_is v.walk (omega arith) e) c.if-m-lead.false)

pub returns : goal.returns
returns c = count_ends c.loop-i.invariant (omega arith)
