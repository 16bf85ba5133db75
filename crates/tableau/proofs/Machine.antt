-- Laws of the machine's signed numbers within ±M: what a step of a row computes fits, and is what the definition says.
--   read                  what is stored is read back
--   stored_zero, stored_other   whether it is 0
--   turned, turned_fits   −x, which the machine has as 0 − x
--   product_fits          q y
--   less_is, less_fits    x − q y
-- Assumes nothing.
use Rattle.std.proofs.Common.{◌≡◌, sym, ◌∙◌, ap, ◌≤◌, ◌*◌, arith, ℤ, pos, nat_abs, neg_ℤ, ◌+ℤ◌, ◌-ℤ◌, ◌*ℤ◌, FitsSigned, w64, to_z, of_z}
use Rattle.std.proofs.lemmas.Int.{ints, to_z-of_z}
use Rattle.whole.proofs.Integers.{rep, diff_rel, nat_abs_zero}
use Rattle.whole.proofs.Signed.{abs_add, abs_mul, abs_neg, sfits_abs}
use Rattle.problem.specs.Limits.{M}
use native.Mathlib.Nat.{mul-le-mul}

pub read : (x : ℤ) → nat_abs x ≤ M → to_z w64 (of_z w64 x) ≡ x
read x h = to_z-of_z w64 x (sfits_abs x (omega arith))

pub stored_zero : (x : ℤ) → nat_abs x ≤ M → of_z w64 x ≡ 0 → nat_abs x ≡ 0
stored_zero x h e = ap nat_abs (sym (read x h) ∙ ap (to_z w64) e)

pub stored_other : (x : ℤ) → (of_z w64 x ≡ 0 → ⊥) → nat_abs x ≡ 0 → ⊥
stored_other x f e = f (ap (of_z w64) (nat_abs_zero x e))

pub turned : (x : ℤ) → pos 0 -ℤ x ≡ neg_ℤ x
turned x = omega (arith, ints)

pub turned_fits : (x : ℤ) → nat_abs x ≤ M → FitsSigned w64 (pos 0 -ℤ x)
turned_fits x h = rw turned (sfits_abs (neg_ℤ x) (omega (arith, abs_neg x)))

product : (q y : ℤ) → nat_abs q ≤ M → nat_abs y ≤ M → nat_abs (q *ℤ y) ≤ M * M
product q y h k = rw abs_mul (mul-le-mul h k)

pub product_fits : (q y : ℤ) → nat_abs q ≤ M → nat_abs y ≤ M → FitsSigned w64 (q *ℤ y)
product_fits q y h k = sfits_abs (q *ℤ y) (omega (arith, product q y h k))

pub less_is : (x q y : ℤ) → x -ℤ q *ℤ y ≡ x +ℤ neg_ℤ q *ℤ y
less_is x q y = rw (rep x, rep q, rep y) (simp diff_rel (omega arith))

pub less_fits : (x q y : ℤ) → nat_abs x ≤ M → nat_abs q ≤ M → nat_abs y ≤ M → FitsSigned w64 (x -ℤ q *ℤ y)
less_fits x q y h k l =
    sfits_abs (x -ℤ q *ℤ y) (omega (arith, product q y k l, abs_add x (neg_ℤ (q *ℤ y)), abs_neg (q *ℤ y)))
