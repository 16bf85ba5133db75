-- Document 02, (vii): "the bit length" of a number, the count of its binary digits.
--   bits_by d n    the digits of n, at most d of them: the lowest, and those of n / 2. 0 has none
--   bit_length n   all of them; n is enough
-- Assumes nothing.
use Rattle.std.specs.Prelude.{ℕ, zero, suc, ◌/◌}

unfoldable pub bits_by : ℕ → ℕ → ℕ
bits_by zero n = 0
bits_by (suc d) zero = 0
bits_by (suc d) (suc n) = suc (bits_by d (suc n / 2))

unfoldable pub bit_length : ℕ → ℕ
bit_length n = bits_by n n
