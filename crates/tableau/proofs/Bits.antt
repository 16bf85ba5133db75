-- Laws of the bits of two numbers together.
--   or_beyond   they are beyond M exactly where one of the numbers is: M has only ones
-- Assumes nothing.
use mathlib.Core.Path.{◌≡◌, refl}
use mathlib.Core.Bool.{Bool, true, false, ◌||◌}
use Prim.Native.Nat.{ℕ, ◌≤◌}
use native.Mathlib.Omega.{arith}
use borrow.Author.Tests.{ltb-true, ltb-false, lt-ltb, le-ltb}
use lib.Bits.{bit_or, or_lt, or_add_and, and_le_r, and_le_l}
use lib.Dec.{ltb}
use Rattle.problem.specs.Limits.{M}

left_low : (a b : ℕ) → a ≤ bit_or a b
left_low a b = omega (arith, or_add_and a b, and_le_r a b)

right_low : (a b : ℕ) → b ≤ bit_or a b
right_low a b = omega (arith, or_add_and a b, and_le_l a b)

pub or_beyond : (a b : ℕ) → ltb M (bit_or a b) ≡ ltb M a || ltb M b
or_beyond a b = go (ltb M a) refl (ltb M b) refl
  where
    go : (s : Bool) → ltb M a ≡ s → (t : Bool) → ltb M b ≡ t → ltb M (bit_or a b) ≡ s || t
    go true e t f = lt-ltb M (bit_or a b) (omega (arith, ltb-true M a e, left_low a b))
    go false e true f = lt-ltb M (bit_or a b) (omega (arith, ltb-true M b f, right_low a b))
    go false e false f =
        le-ltb M (bit_or a b) (omega (arith, or_lt 31 a b (omega (arith, ltb-false M a e)) (omega (arith, ltb-false M b f))))
