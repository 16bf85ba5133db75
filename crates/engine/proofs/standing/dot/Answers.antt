-- `engine::standing::dot` meets its contract. The invariant: s is the sum from column j on. Assumes nothing.
use Rattle.std.proofs.Common.{arith, ℤ, ◌-◌, ◌≤◌, nat_abs, to_z, w64}
use mir.Facts.{to_z-of_z}
use Rattle.whole.specs.Lists.{entry}
use Rattle.problem.specs.Limits.{M, max_coefficient}
use Rattle.engine.specs.Standing.{max_sum}
use Rattle.engine.proofs.Dots.{summed_none, summed_more, room, product_fits, sum_fits, small_back}
use Rattle.engine.proofs.standing.dot.Goals as goal

pub loop-j-init : goal.loop-j-init
loop-j-init c = summed_none c.args.row.now c.args.values.now

pub overflow_mul-s : goal.overflow_mul-s
overflow_mul-s c =
    let x : ℤ = entry (c.loop-j.j - 1) c.args.values.now in
    let y : ℤ = entry (c.loop-j.j - 1) c.args.row.now in
    let h : nat_abs x ≤ M = c.requires.values (c.loop-j.j - 1) in
    let k : nat_abs y ≤ max_coefficient = c.requires.coefficients (c.loop-j.j - 1) in
    rw (small_back x h, small_back y (omega arith)) (product_fits x y h k)

pub overflow_add-s : goal.overflow_add-s
overflow_add-s c =
    let x : ℤ = entry (c.loop-j.j - 1) c.args.values.now in
    let y : ℤ = entry (c.loop-j.j - 1) c.args.row.now in
    let h : nat_abs x ≤ M = c.requires.values (c.loop-j.j - 1) in
    let k : nat_abs y ≤ max_coefficient = c.requires.coefficients (c.loop-j.j - 1) in
    let s : ℤ = to_z w64 c.loop-j.s-bits in
    let r : nat_abs s ≤ max_sum = room c.args.row.now c.args.values.now c.loop-j.j s c.requires c.loop-j.invariant in
    rw (small_back x h, small_back y (omega arith), to_z-of_z (product_fits x y h k)) (sum_fits s x y r h k)

pub loop-j-preserved : goal.loop-j-preserved
loop-j-preserved c =
    let x : ℤ = entry (c.loop-j.j - 1) c.args.values.now in
    let y : ℤ = entry (c.loop-j.j - 1) c.args.row.now in
    let h : nat_abs x ≤ M = c.requires.values (c.loop-j.j - 1) in
    let k : nat_abs y ≤ max_coefficient = c.requires.coefficients (c.loop-j.j - 1) in
    let s : ℤ = to_z w64 c.loop-j.s-bits in
    let r : nat_abs s ≤ max_sum = room c.args.row.now c.args.values.now c.loop-j.j s c.requires c.loop-j.invariant in
    rw (small_back x h, small_back y (omega arith), to_z-of_z (product_fits x y h k), to_z-of_z (sum_fits s x y r h k))
    (summed_more c.args.row.now c.args.values.now c.loop-j.j s c.requires (omega arith) c.loop-j.invariant)
