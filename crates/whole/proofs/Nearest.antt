-- Laws of the quotient of document 02, (vii), "the nearest quotient, floor((2 × entry + p) / 2p)", for p above 0.
--   nearest_left e p     what the nearest quotient leaves of e, e − q p
--   halves               quotients of halves, computed: a half is rounded upwards
--   nearest_low, -high   twice what it leaves lies in −p to p − 1
--   nearest_half         so that twice the magnitude of what it leaves is at most p
--   nearest_left_lem     and that magnitude is below p, which is all that the steps of elimination ask of a quotient
--   quotient_small       a quotient that leaves less than p is no larger than the entry
--   nearest_small        so is the nearest
--   nearest_one          by 1 it is the entry
-- Assumes nothing.
use mathlib.Core.Path.{◌≡◌, refl, ap}
use Prim.Native.Nat.{ℕ, suc, ◌+◌, ◌*◌, ◌≤◌, ◌<◌}
use native.Mathlib.Nat.{mul-le-mul_right, lt_of_not-le, le_of_suc-le-suc}
use native.Mathlib.Omega.{arith}
use lib.IntN.{ℤ, pos, negsuc, neg_ℤ, nat_abs, ◌+ℤ◌, ◌*ℤ◌}
use lib.Signed.{◌≤ℤ◌, ◌<ℤ◌}
use Rattle.whole.specs.Quotient.{nearest_quotient}
use Rattle.whole.specs.Tests.{Positive, positive}
use Rattle.whole.proofs.Integers.{nat_abs_zero, positive_of, ◌⊖◌, ⊖_pos, ⊖_negsuc, rep, diff_rel, floor_quotient_low, floor_quotient_high}
use Rattle.whole.proofs.Signed.{abs_add, abs_mul, abs_neg}

abbrev pub nearest_left : ℤ → ℤ → ℤ
nearest_left e p = e +ℤ neg_ℤ (nearest_quotient e p) *ℤ p

-- 1 / 2, −1 / 2, 3 / 2, −3 / 2
halves : (nearest_quotient (pos 1) (pos 2) ≡ pos 1) × (nearest_quotient (negsuc 0) (pos 2) ≡ pos 0)
    × (nearest_quotient (pos 3) (pos 2) ≡ pos 2) × (nearest_quotient (negsuc 2) (pos 2) ≡ negsuc 0)
halves = (refl, refl, refl, refl)

twice : {p : ℤ} → Positive p → Positive (pos 2 *ℤ p)
twice (positive k) = positive_of (2 * suc k) (omega arith)

-- over variables: 2e + p − q 2p is 2(e − q p) + p
doubled : (e q p : ℤ) → (pos 2 *ℤ e +ℤ p) +ℤ neg_ℤ q *ℤ (pos 2 *ℤ p) ≡ pos 2 *ℤ (e +ℤ neg_ℤ q *ℤ p) +ℤ p
doubled e q p = rw (rep e, rep q, rep p) (simp diff_rel (omega arith))

low_from : (y p : ℤ) → pos 0 ≤ℤ (pos 2 *ℤ y +ℤ p) → neg_ℤ p ≤ℤ (pos 2 *ℤ y)
low_from y p = rw (rep y, rep p) (simp diff_rel (omega arith))

high_from_lem : (y p : ℤ) → (pos 2 *ℤ y +ℤ p) <ℤ (pos 2 *ℤ p) → (pos 2 *ℤ y) <ℤ p
high_from_lem y p = rw (rep y, rep p) (simp diff_rel (omega arith))

pub nearest_low : {p : ℤ} (e : ℤ) → Positive p → neg_ℤ p ≤ℤ (pos 2 *ℤ nearest_left e p)
nearest_low {p} e h =
    low_from (nearest_left e p) p (rw (doubled e (nearest_quotient e p) p) at (floor_quotient_low (pos 2 *ℤ e +ℤ p) (twice h)))

pub nearest_high : {p : ℤ} (e : ℤ) → Positive p → (pos 2 *ℤ nearest_left e p) <ℤ p
nearest_high {p} e h =
    high_from_lem (nearest_left e p) p (rw (doubled e (nearest_quotient e p) p) at (floor_quotient_high (pos 2 *ℤ e +ℤ p) (twice h)))

-- over variables, as the sum computes at constructors
half_above : (n k : ℕ) (y p : ℤ) → y ≡ n ⊖ 0 → p ≡ k ⊖ 0 → (pos 2 *ℤ y) <ℤ p → 2 * n ≤ k
half_above n k y p ey ep = rw (ey, ep) (simp diff_rel (omega arith))

half_below : (n k : ℕ) (y p : ℤ) → y ≡ 0 ⊖ n → p ≡ k ⊖ 0 → neg_ℤ p ≤ℤ (pos 2 *ℤ y) → 2 * n ≤ k
half_below n k y p ey ep = rw (ey, ep) (simp diff_rel (omega arith))

half_abs : (y : ℤ) (k : ℕ) → neg_ℤ (pos k) ≤ℤ (pos 2 *ℤ y) → (pos 2 *ℤ y) <ℤ pos k → 2 * nat_abs y ≤ k
half_abs (pos n) k l h = half_above n k (pos n) (pos k) (⊖_pos n) (⊖_pos k) h
half_abs (negsuc n) k l h = half_below (suc n) k (negsuc n) (pos k) (⊖_negsuc n) (⊖_pos k) l

pub nearest_half : {p : ℤ} (e : ℤ) → Positive p → 2 * nat_abs (nearest_left e p) ≤ nat_abs p
nearest_half e (positive k) = half_abs (nearest_left e (pos (suc k))) (suc k) (nearest_low e (positive k)) (nearest_high e (positive k))

pub nearest_left_lem : {p : ℤ} (e : ℤ) → Positive p → nat_abs (nearest_left e p) < nat_abs p
nearest_left_lem e (positive k) = omega (arith, nearest_half e (positive k))

-- ---- how large a quotient is that leaves less than p
part : (x q p : ℤ) → q *ℤ p ≡ x +ℤ neg_ℤ (x +ℤ neg_ℤ q *ℤ p)
part x q p = rw (rep x, rep q, rep p) (simp diff_rel (omega arith))

small : (a b k : ℕ) → a * suc k < b + suc k → a ≤ b
small a b k h = le_of_suc-le-suc (lt_of_not-le (λ (g : b < a). omega (arith, mul-le-mul_right (suc k) g)))

pub quotient_small : {p : ℤ} (x q : ℤ) → Positive p → nat_abs (x +ℤ neg_ℤ q *ℤ p) < nat_abs p → nat_abs q ≤ nat_abs x
quotient_small x q (positive k) h =
    let y : ℤ = x +ℤ neg_ℤ q *ℤ pos (suc k) in
    small (nat_abs q) (nat_abs x) k
    (omega (arith, abs_mul q (pos (suc k)), ap nat_abs (part x q (pos (suc k))), abs_add x (neg_ℤ y), abs_neg y))

pub nearest_small : {p : ℤ} (e : ℤ) → Positive p → nat_abs (nearest_quotient e p) ≤ nat_abs e
nearest_small {p} e h = quotient_small e (nearest_quotient e p) h (nearest_left_lem e h)

-- ---- by 1
whole : (x q : ℤ) → x +ℤ neg_ℤ q *ℤ pos 1 ≡ pos 0 → q ≡ x
whole x q = rw (rep x, rep q) (simp diff_rel (omega arith))

pub nearest_one : (x : ℤ) → nearest_quotient x (pos 1) ≡ x
nearest_one x = whole x (nearest_quotient x (pos 1)) (nat_abs_zero _ (omega (arith, nearest_half x (positive 0))))
