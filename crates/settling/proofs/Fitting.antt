-- Which products and sums are i64s.
--   share_fits, added_fits   a number of a row, taken as often as seating does, and its sum with a value
--   unit_small               a number of the basis, taken once or not at all
--   both_fit                 the sum of two numbers of the basis, each taken once or not at all; both_small, how large it is
--   products                 these
-- Assumes nothing.
use mathlib.Core.Path.{◌≡◌}
use Prim.Native.Nat.{◌+◌, ◌*◌, ◌≤◌}
use native.Mathlib.Nat.{mul-le-mul}
use native.Mathlib.Omega.{arith}
use lib.IntN.{ℤ, nat_abs, ◌+ℤ◌, ◌*ℤ◌}
use mir.Syntax.{w64}
use mir.Val.{SFits, to_z, of_z}
use Rattle.std.proofs.lemmas.Int.{to_z-of_z}
use Rattle.whole.proofs.Signed.{abs_add, abs_mul, sfits_abs}
use Rattle.problem.specs.Limits.{M, max_bound}

share_small : (q y : ℤ) → nat_abs q ≤ M + max_bound + 1 → nat_abs y ≤ M → nat_abs (q *ℤ y) ≤ (M + max_bound + 1) * M
share_small q y a b = rw abs_mul (mul-le-mul a b)

pub share_fits : (q y : ℤ) → nat_abs q ≤ M + max_bound + 1 → nat_abs y ≤ M → SFits w64 (q *ℤ y)
share_fits q y a b = sfits_abs (q *ℤ y) (omega (arith, share_small q y a b))

pub added_fits : (x q y : ℤ) → nat_abs x ≤ 2 * M → nat_abs q ≤ M + max_bound + 1 → nat_abs y ≤ M → SFits w64 (x +ℤ q *ℤ y)
added_fits x q y h a b = sfits_abs (x +ℤ q *ℤ y) (omega (arith, abs_add x (q *ℤ y), share_small q y a b))

pub unit_small : (a x : ℤ) → nat_abs a ≤ 1 → nat_abs x ≤ M → nat_abs (a *ℤ x) ≤ M
unit_small a x h k = rw abs_mul (omega (arith, mul-le-mul h k))

pub both_small : (a x b y : ℤ) → nat_abs a ≤ 1 → nat_abs b ≤ 1 → nat_abs x ≤ M → nat_abs y ≤ M → nat_abs (a *ℤ x +ℤ b *ℤ y) ≤ 2 * M
both_small a x b y h k p q = omega (arith, unit_small a x h p, unit_small b y k q, abs_add (a *ℤ x) (b *ℤ y))

pub both_fit : (a x b y : ℤ) → nat_abs a ≤ 1 → nat_abs b ≤ 1 → nat_abs x ≤ M → nat_abs y ≤ M → SFits w64 (a *ℤ x +ℤ b *ℤ y)
both_fit a x b y h k p q = sfits_abs (a *ℤ x +ℤ b *ℤ y) (omega (arith, both_small a x b y h k p q))

-- what the machine makes of them
pub both_read :
    (a x b y : ℤ) → nat_abs a ≤ 1 → nat_abs b ≤ 1 → nat_abs x ≤ M → nat_abs y ≤ M
    → to_z w64 (of_z w64 (to_z w64 (of_z w64 (to_z w64 (of_z w64 a) *ℤ to_z w64 (of_z w64 x)))
    +ℤ to_z w64 (of_z w64 (to_z w64 (of_z w64 b) *ℤ to_z w64 (of_z w64 y))))) ≡ a *ℤ x +ℤ b *ℤ y
both_read a x b y h k p q =
    let fa : SFits w64 a = sfits_abs a (omega arith) in
    let fb : SFits w64 b = sfits_abs b (omega arith) in
    let fx : SFits w64 x = sfits_abs x (omega arith) in
    let fy : SFits w64 y = sfits_abs y (omega arith) in
    let fax : SFits w64 (a *ℤ x) = share_fits a x (omega arith) p in
    let fby : SFits w64 (b *ℤ y) = share_fits b y (omega arith) q in
    let f : SFits w64 (a *ℤ x +ℤ b *ℤ y) = both_fit a x b y h k p q in
    simp to_z-of_z

pub added_read :
    (x q y : ℤ) → nat_abs x ≤ 2 * M → nat_abs q ≤ M + max_bound + 1 → nat_abs y ≤ M
    → to_z w64 (of_z w64 (to_z w64 (of_z w64 x) +ℤ to_z w64 (of_z w64 (to_z w64 (of_z w64 q) *ℤ to_z w64 (of_z w64 y))))) ≡ x +ℤ q *ℤ y
added_read x q y h a b =
    let fx : SFits w64 x = sfits_abs x (omega arith) in
    let fq : SFits w64 q = sfits_abs q (omega arith) in
    let fy : SFits w64 y = sfits_abs y (omega arith) in
    let fqy : SFits w64 (q *ℤ y) = share_fits q y a b in
    let f : SFits w64 (x +ℤ q *ℤ y) = added_fits x q y h a b in
    simp to_z-of_z

pub ruleset products = (to_z-of_z, share_fits, added_fits, both_fit, both_small)

pub ruleset reads = (both_read, both_small, added_read)
