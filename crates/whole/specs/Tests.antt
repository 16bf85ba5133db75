-- Tests on whole numbers and on counted places.
--   is_zero x         x is 0
--   spans k x         x lies in −k to k
--   inRange lo hi x   x lies in lo to hi
--   every k f         f holds at 0 to k − 1
--   Positive x        x is above 0
-- Assumes nothing.
use Rattle.std.specs.Prelude.{Bool, true, ◌&&◌, ℕ, zero, suc, leb, eqb, ℤ, pos, nat_abs}
use Rattle.std.specs.Int.Signed.{le_z}

abbrev pub is_zero : ℤ → Bool
is_zero x = eqb (nat_abs x) 0

abbrev pub spans : ℕ → ℤ → Bool
spans k x = leb (nat_abs x) k

abbrev pub in_range : ℤ → ℤ → ℤ → Bool
in_range lo hi x = le_z lo x && le_z x hi

unfoldable pub every : ℕ → (ℕ → Bool) → Bool
every zero f = true
every (suc k) f = every k f && f k

pub data Positive : ℤ → Type 0 where
  positive : (k : ℕ) → Positive (pos (suc k))
