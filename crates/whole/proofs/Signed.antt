-- Laws of signed numbers. A bound on a signed number is a bound on its `nat_abs`.
--   sub_ge, sub_lt        a difference of two naturals, where the test is known
--   abs_neg, -add, -mul   magnitudes of the operations
--   sfits_abs             a number of magnitude below 2 to the 63rd is an i64
--   back                  what the machine reads back is what was stored
--   flip, flip-..         −1 − z, which is an i64 where z is
--   over                  what the machine's division by a number above 0 asks for
--   rem_fits, floor_fits the remainder and the floor quotient are i64s where the number divided is
--   lt_zero               what a test against 0 says of the sign
-- Assumes nothing.
use mathlib.Core.Path.{◌≡◌, refl, ap, ◌∙◌}
use mathlib.Core.Bool.{Bool, true, false, not}
use Prim.Native.Nat.{ℕ, zero, suc, ◌+◌, ◌-◌, ◌*◌, ◌/◌, ◌^◌, ◌≤◌, ◌<◌, zero-le}
use native.Mathlib.Nat.{zero-add, div-le_self, lt_of_le_of_lt, le_refl, zero-lt-suc}
use native.Mathlib.Omega.{arith}
use borrow.Author.Tests.{ltb-true, ltb-false, lt-ltb, le-ltb}
use lib.Dec.{ltb}
use lib.IntN.{ℤ, pos, negsuc, neg_ℤ, nat_abs, ◌+ℤ◌, ◌-ℤ◌, ◌*ℤ◌, sub_ℕ}
use lib.Signed.{lt_z, non_neg, quot_z, rem_z, mag, mag_rem}
use mir.Syntax.{w64}
use mir.Val.{to_z, of_z, SFits}
use mir.Facts.{to_z-of_z}
use Rattle.whole.specs.Quotient.{floor_quotient}
use Rattle.whole.specs.Tests.{positive, Positive}

-- ---- a difference of two naturals, where the test is known
pub sub_ge : (a b : ℕ) → b ≤ a → sub_ℕ a b ≡ pos (a - b)
sub_ge a b h = rw (le-ltb a b h)

pub sub_lt : (a b : ℕ) → a < b → sub_ℕ a b ≡ negsuc (b - suc a)
sub_lt a b h = rw (lt-ltb a b h)

-- ---- nat_abs of the operations
pub abs_neg : (z : ℤ) → nat_abs (neg_ℤ z) ≡ nat_abs z
abs_neg (pos zero) = refl
abs_neg (pos (suc n)) = refl
abs_neg (negsuc n) = refl

abs_sub : (a b : ℕ) (t : Bool) → ltb a b ≡ t → nat_abs (sub_ℕ a b) ≤ a + b
abs_sub a b true e = let h : a < b = ltb-true a b e in rw (sub_lt a b h) (omega arith)
abs_sub a b false e = let h : b ≤ a = ltb-false a b e in rw (sub_ge a b h) (omega arith)

pub abs_add : (x y : ℤ) → nat_abs (x +ℤ y) ≤ nat_abs x + nat_abs y
abs_add (pos a) (pos b) = le_refl (a + b)
abs_add (pos a) (negsuc b) = abs_sub a (suc b) (ltb a (suc b)) refl
abs_add (negsuc a) (pos b) = let h : nat_abs (sub_ℕ b (suc a)) ≤ b + suc a = abs_sub b (suc a) (ltb b (suc a)) refl in omega arith
abs_add (negsuc a) (negsuc b) = omega arith

pub abs_mul : (x y : ℤ) → nat_abs (x *ℤ y) ≡ nat_abs x * nat_abs y
abs_mul (pos a) (pos b) = refl
abs_mul (pos a) (negsuc b) = abs_neg (pos (a * suc b))
abs_mul (negsuc a) (pos b) = abs_neg (pos (suc a * b))
abs_mul (negsuc a) (negsuc b) = refl

mag_le : (z : ℤ) → mag z ≤ nat_abs z
mag_le (pos n) = le_refl n
mag_le (negsuc n) = omega arith

pub sfits_abs : (z : ℤ) → nat_abs z < 2 ^ 63 → SFits w64 z
sfits_abs z h = record { sfits = lt_of_le_of_lt (mag_le z) h }

pub back : (z : ℤ) → mag z < 2 ^ 63 → to_z w64 (of_z w64 z) ≡ z
back z h = to_z-of_z {w = w64} (record { sfits = h })

-- ---- −1 − z, the other sign's number at the same place
abbrev pub flip : ℤ → ℤ
flip (pos n) = negsuc n
flip (negsuc n) = pos n

pub flip_is : (z : ℤ) → negsuc 0 -ℤ z ≡ flip z
flip_is (pos zero) = refl
flip_is (pos (suc n)) = ap (λ (m : ℕ). negsuc (suc m)) (zero-add n)
flip_is (negsuc n) = sub_ge (suc n) 1 (omega arith) ∙ ap pos (omega arith)

mag_flip : (z : ℤ) → mag (flip z) ≡ mag z
mag_flip (pos n) = refl
mag_flip (negsuc n) = refl

pub flip_fits : {z : ℤ} → SFits w64 z → SFits w64 (flip z)
flip_fits {z} f = record { sfits = rw mag_flip f.sfits }

-- ---- division by a number above 0
mag_neg : (r a : ℕ) → r ≤ suc a → mag (neg_ℤ (pos r)) ≤ a
mag_neg zero a h = zero-le
mag_neg (suc r) a h = omega arith

mag_quot : {p : ℤ} (a : ℤ) → Positive p → mag (quot_z a p) ≤ mag a
mag_quot (pos a) (positive k) = div-le_self a (suc k)
mag_quot (negsuc a) (positive k) = mag_neg (suc a / suc k) a (div-le_self (suc a) (suc k))

pub over : {p : ℤ} (a : ℤ) → SFits w64 a → Positive p → (0 < of_z w64 p) × SFits w64 (quot_z a p)
over a f (positive k) = (zero-lt-suc k, record { sfits = lt_of_le_of_lt (mag_quot a (positive k)) f.sfits })

pub rem_fits : (a p : ℤ) → SFits w64 a → SFits w64 (rem_z a p)
rem_fits a p f = record { sfits = lt_of_le_of_lt (mag_rem a p) f.sfits }

mag_floor : {p : ℤ} (a : ℤ) → Positive p → mag (floor_quotient a p) ≤ mag a
mag_floor (pos a) (positive k) = div-le_self a (suc k)
mag_floor (negsuc a) (positive k) = div-le_self a (suc k)

pub floor_fits : {p : ℤ} (a : ℤ) → SFits w64 a → Positive p → SFits w64 (floor_quotient a p)
floor_fits a f h = record { sfits = lt_of_le_of_lt (mag_floor a h) f.sfits }

pub lt_zero : (z : ℤ) → lt_z z (pos 0) ≡ not (non_neg z)
lt_zero (pos n) = le-ltb n 0 zero-le
lt_zero (negsuc n) = refl
