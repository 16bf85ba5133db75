-- The greatest common divisor.
--   divisor_by f a b   at most f calls
--   divisor a b        "The divisor of a number and 0 is that number; otherwise it is that of the second and the remainder."
--   Greatest a b d     d is the greatest common divisor of a and b: it divides both, and whatever divides both divides it
--   DivisorGreatest    the divisor of a and b is that
-- d ∣ a is mathlib's: a is d times some natural number, so that every number divides 0 and 0 divides 0 alone.
-- The second number falls at each call, so that one call more than its value is enough.
-- Assumes nothing.
use Rattle.std.specs.Prelude.{ℕ, zero, suc, ◌%◌}
use Rattle.std.specs.Int.{◌∣◌}

unfoldable pub divisor_by : ℕ → ℕ → ℕ → ℕ
divisor_by zero a b = a
divisor_by (suc f) a zero = a
divisor_by (suc f) a (suc b) = divisor_by f (suc b) (a % suc b)

unfoldable pub divisor : ℕ → ℕ → ℕ
divisor a b = divisor_by (suc b) a b

pub record Greatest (a b d : ℕ) : Type 0 where
  pub first : d ∣ a
  pub second : d ∣ b
  pub greatest : (c : ℕ) → c ∣ a → c ∣ b → c ∣ d

-- "the greatest common divisor", of document 01's two clauses
abbrev pub DivisorGreatest : Type 0
DivisorGreatest = (a b : ℕ) → Greatest a b (divisor a b)
