-- Laws of the whole root and of the ideal of two goals.
--   root_alone       only one number is the whole root of a product
--   root_is          and `whole_root` is it
--   root_small       it is at most 1,000,000
--   product_small    the product of two goals is at most `max_product`
--   root_room        the product of a whole root with the next number
--   ideal_sizes      those of an ideal's products
--   ideal_small      the ideal of two goals is at most 1,000,001
-- Assumes nothing.
use mathlib.Core.Path.{◌≡◌, refl, subst}
use mathlib.Core.Bool.{Bool, true, false, cond}
use Prim.Native.Nat.{ℕ, zero, suc, ◌+◌, ◌*◌, ◌^◌, ◌≤◌, ◌<◌}
use native.Mathlib.Nat.{mul-le-mul, pow-suc, le_antisymm, lt_of_not-le, le_of_suc-le-suc}
use native.Mathlib.Omega.{arith}
use borrow.Author.Tests.{leb-true, leb-false}
use lib.Dec.{leb, ltb}
use Rattle.problem.specs.Limits.{max_goal}
use Rattle.goals.specs.Ideals.{raised, root_bits, whole_root, ideal_from, goal_ideal, max_product, IsRoot, RootIs, RootAlone}

-- ---- one root
square_mono : (k j : ℕ) → k ≤ j → k * k * 1000000 ≤ j * j * 1000000
square_mono k j h = omega (arith, mul-le-mul h h)

root_le : (p k j : ℕ) → IsRoot p k → IsRoot p j → k ≤ j
root_le p k j h g = le_of_suc-le-suc (lt_of_not-le (λ (l : j < k). omega (arith, square_mono (j + 1) k (omega arith), h.low, g.high)))

pub root_alone : RootAlone
root_alone p k j h g = le_antisymm (root_le p k j h g) (root_le p j k g h)

-- ---- the bits
-- k with b bits to come
record Near (b p k : ℕ) : Type 0 where
  low : k * k * 1000000 ≤ p
  high : p < (k + 2 ^ b) * (k + 2 ^ b) * 1000000

upper_half : (b k : ℕ) → k + 2 ^ suc b ≡ k + 2 ^ b + 2 ^ b
upper_half b k = rw (pow-suc 2 b) (omega arith)

next : (b p k : ℕ) → Near (suc b) p k → Near b p (raised p k (k + 2 ^ b))
next b p k h = go (leb ((k + 2 ^ b) * (k + 2 ^ b) * 1000000) p) refl
  where
    go : (t : Bool) → leb ((k + 2 ^ b) * (k + 2 ^ b) * 1000000) p ≡ t → Near b p (cond t (k + 2 ^ b) k)
    go true e = record {
      low = leb-true _ p e;
      high = subst (λ (s : ℕ). p < s * s * 1000000) (upper_half b k) h.high;
    }
    go false e = record { low = h.low; high = leb-false _ p e }

bits_near : (b p k : ℕ) → Near b p k → IsRoot p (root_bits b p k)
unfolding root_bits
bits_near zero p k h = record { low = h.low; high = h.high }
bits_near (suc b) p k h = bits_near b p (raised p k (k + 2 ^ b)) (next b p k h)

pub root_is : RootIs
unfolding whole_root
root_is p h = bits_near 20 p 0 (record { low = omega arith; high = omega arith })

pub root_small : (p : ℕ) → p ≤ max_product → whole_root p ≤ 1000000
root_small p h =
    le_of_suc-le-suc (lt_of_not-le (λ (l : 1000000 < whole_root p). omega (arith, square_mono 1000001 (whole_root p) l, (root_is p h).low)))

-- ---- the sizes
pub product_small : (low high : ℕ) → low ≤ max_goal → high ≤ max_goal → low * high ≤ max_product
product_small low high h k = mul-le-mul h k

from_small : (p k : ℕ) → ideal_from p k ≤ k + 1
from_small p zero = omega arith
from_small p (suc k) = go (ltb (suc k * (suc k + 1) * 1000000) p)
  where
    go : (t : Bool) → cond t (suc k + 1) (suc k) ≤ suc k + 1
    go true = omega arith
    go false = omega arith

pub ideal_small : (low high : ℕ) → low ≤ max_goal → high ≤ max_goal → goal_ideal low high ≤ 1000001
unfolding goal_ideal
ideal_small low high h g =
    let p = low * high in
    omega (arith, from_small p (whole_root p), root_small p (product_small low high h g))

pub root_room : (k : ℕ) → k ≤ 1000000 → k * (k + 1) ≤ 1000001000000
root_room k h =
    let k1 : k + 1 ≤ 1000001 = omega arith in
    mul-le-mul h k1

pub ruleset ideal_sizes = (root_small, product_small, root_room)
