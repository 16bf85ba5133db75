-- `settling::seating::add_row` meets its contract: from the lead on, each value gets its share of the row; where the row is 0 there is none.
-- Assumes nothing.
use mathlib.Core.Path.{◌∙◌, ap}
use Prim.Native.Nat.{◌+◌}
use native.Mathlib.Omega.{arith}
use lib.IntN.{ℤ, nat_abs}
use mir.Syntax.{w64}
use mir.Val.{to_z, of_z}
use mir.Facts.{to_z-of_z}
use Rattle.lattice.specs.Rows.{plus}
use Rattle.settling.specs.Seats.{within}
use Rattle.settling.proofs.Adding.{added_from, added_next, small_from, small_next, turn_makes, added_turn, small_on, far_at, within_all}
use Rattle.settling.proofs.seating.add_row.Goals as goal

pub loop-j-init : goal.loop-j-init
loop-j-init c =
    let q = to_z w64 (of_z w64 c.args.q) in (
      added_from q c.args.row.now c.args.values.now c.requires.0.long c.args.c (omega (arith, c.requires.2)),
      small_from q c.args.row.now c.args.values.now c.requires.0 c.args.c (omega (arith, c.requires.2)),
    )

pub returns-then-unsigned_abs-gt-MAX_NUMBER : goal.returns-then-unsigned_abs-gt-MAX_NUMBER
returns-then-unsigned_abs-gt-MAX_NUMBER c =
    let q = to_z w64 (of_z w64 c.args.q) in
    let l = c.loop-j in
    let a = c.requires.0 in
    let e = turn_makes q c.args.row.now c.args.values.now a.long l.values l.j l.invariant.0 c.args.q (to_z-of_z c.ranges.q) (omega arith)
    (omega (arith, c.requires.1)) (omega (arith, a.values_small l.j)) (a.row_small l.j) in
    far_at q c.args.row.now c.args.values.now a l.j (omega arith) (omega (arith, c.unsigned_abs.ensures.value, ap nat_abs e))
    ∙ ap (λ (q : ℤ). within (plus q c.args.row.now c.args.values.now)) (to_z-of_z c.ranges.q)

pub loop-j-smaller : goal.loop-j-smaller
loop-j-smaller c = omega (arith, c.lead_from-j.ensures)

pub loop-j-preserved : goal.loop-j-preserved
loop-j-preserved c =
    let q = to_z w64 (of_z w64 c.args.q) in
    let l = c.loop-j in
    let a = c.requires.0 in
    let e = turn_makes q c.args.row.now c.args.values.now a.long l.values l.j l.invariant.0 c.args.q (to_z-of_z c.ranges.q) (omega arith)
    (omega (arith, c.requires.1)) (omega (arith, a.values_small l.j)) (a.row_small l.j) in (
      added_next q c.args.row.now c.args.values.now a.long _ (l.j + 1) c.lead_from-j.result (omega arith) c.lead_from-j.ensures
          (added_turn q c.args.row.now c.args.values.now a.long l.values l.j l.invariant.0 c.args.q (to_z-of_z c.ranges.q) (omega arith)
          (omega (arith, c.requires.1)) (omega (arith, a.values_small l.j)) (a.row_small l.j)),
      small_next q c.args.row.now c.args.values.now a (l.j + 1) c.lead_from-j.result (omega arith) c.lead_from-j.ensures
          (small_on q c.args.row.now c.args.values.now a l.j _ l.invariant.1 (omega arith) e (omega (arith, c.unsigned_abs.ensures.value))),
    )

pub returns : goal.returns
returns c =
    let q = to_z w64 (of_z w64 c.args.q) in
    let l = c.loop-j in
    within_all q c.args.row.now c.args.values.now c.requires.0 l.values l.j l.invariant.0 l.invariant.1 (omega arith)
    ∙ ap (λ (q : ℤ). within (plus q c.args.row.now c.args.values.now)) (to_z-of_z c.ranges.q)
