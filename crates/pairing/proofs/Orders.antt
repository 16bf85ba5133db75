-- Laws of the larger and the smaller of two numbers.
--   le_trans                   the order as a test
--   larger_is, smaller_is      what holds of both numbers holds of the larger and of the smaller
--   larger_le, smaller_ge      "the larger lower and the smaller upper bound": a number keeps both exactly when it keeps each
--   le_larger, smaller_le      each number is at most the larger and at least the smaller
--   in_both                    so for two pairs of bounds
-- Assumes nothing.
use mathlib.Core.Path.{◌≡◌, ap₂}
use mathlib.Core.Logic.{◌↔◌}
use mathlib.Core.Bool.{Bool, true, false, cond, ◌&&◌}
use native.Mathlib.Omega.{arith}
use lib.IntN.{ℤ}
use lib.Signed.{le_z, lt_z}
use Rattle.std.proofs.lemmas.Int.{ints}
use Rattle.whole.specs.Tests.{in_range}
use Rattle.whole.proofs.Tests.{both_true}
use Rattle.pairing.specs.Pairs.{larger, smaller}

pub le_trans : (a b c : ℤ) → le_z a b ≡ true → le_z b c ≡ true → le_z a c ≡ true
le_trans a b c h k = grind (arith, ints)

-- ---- the larger and the smaller one
one_of : (Q : ℤ → Type 0) (t : Bool) (a b : ℤ) → Q a → Q b → Q (cond t a b)
one_of Q true a b x y = x
one_of Q false a b x y = y

pub larger_is : (Q : ℤ → Type 0) (a b : ℤ) → Q a → Q b → Q (larger a b)
larger_is Q a b x y = one_of Q (lt_z b a) a b x y

pub smaller_is : (Q : ℤ → Type 0) (a b : ℤ) → Q a → Q b → Q (smaller a b)
smaller_is Q a b x y = one_of Q (lt_z b a) b a y x

pub larger_le : (a b v : ℤ) → (le_z (larger a b) v ≡ true) ↔ ((le_z a v ≡ true) × (le_z b v ≡ true))
larger_le a b v = ((λ h. (grind (arith, ints), grind (arith, ints))), (λ h. larger_is (λ (z : ℤ). le_z z v ≡ true) a b h.0 h.1))

pub smaller_ge : (a b v : ℤ) → (le_z v (smaller a b) ≡ true) ↔ ((le_z v a ≡ true) × (le_z v b ≡ true))
smaller_ge a b v = ((λ h. (grind (arith, ints), grind (arith, ints))), (λ h. smaller_is (λ (z : ℤ). le_z v z ≡ true) a b h.0 h.1))

pub le_larger : (a b : ℤ) → (le_z a (larger a b) ≡ true) × (le_z b (larger a b) ≡ true)
le_larger a b = (grind (arith, ints), grind (arith, ints))

pub smaller_le : (a b : ℤ) → (le_z (smaller a b) a ≡ true) × (le_z (smaller a b) b ≡ true)
smaller_le a b = (grind (arith, ints), grind (arith, ints))

pub in_both : (a b c d v : ℤ) → (in_range (larger a b) (smaller c d) v ≡ true) ↔ ((in_range a c v ≡ true) × (in_range b d v ≡ true))
in_both a b c d v = (
  (λ h.
      let s : (le_z (larger a b) v ≡ true) × (le_z v (smaller c d) ≡ true) = both_true (le_z (larger a b) v) (le_z v (smaller c d)) h in
      let l : (le_z a v ≡ true) × (le_z b v ≡ true) = (larger_le a b v).0 s.0 in
      let u : (le_z v c ≡ true) × (le_z v d ≡ true) = (smaller_ge c d v).0 s.1 in
      (ap₂ ◌&&◌ l.0 u.0, ap₂ ◌&&◌ l.1 u.1)),
  (λ h.
      let p : (le_z a v ≡ true) × (le_z v c ≡ true) = both_true (le_z a v) (le_z v c) h.0 in
      let q : (le_z b v ≡ true) × (le_z v d ≡ true) = both_true (le_z b v) (le_z v d) h.1 in
      ap₂ ◌&&◌ ((larger_le a b v).1 (p.0, q.0)) ((smaller_ge c d v).1 (p.1, q.1))),
)
