-- Numbers as bytes: "Files write numbers in base ten."
--   decimal k n   the digits of n, at most k of them
--   natural n     the digits of n
--   integer z     with a minus in front where z is below 0
-- Assumes nothing.
use Rattle.std.specs.Prelude.{cond, List, [], ◌∷◌, ◌++◌, ℕ, zero, suc, ◌+◌, ◌/◌, ◌%◌, ltb, ℤ, pos, negsuc}

-- below ten its one digit, else those of its tenth and then the last
unfoldable pub decimal : ℕ → ℕ → List ℕ
decimal zero n = []
decimal (suc k) n = cond (ltb n 10) ((48 + n) ∷ []) (decimal k (n / 10) ++ ((48 + n % 10) ∷ []))

-- a number has no more digits than one more than its value
abbrev pub natural : ℕ → List ℕ
natural n = decimal (suc n) n

abbrev pub integer : ℤ → List ℕ
integer (pos n) = natural n
integer (negsuc n) = 45 ∷ natural (suc n)
