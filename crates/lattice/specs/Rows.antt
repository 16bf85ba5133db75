-- Rows of whole numbers, as lists, and tables of them.
--   plus c r v    v + c r, with v's length
--   minus u v     u − v, with u's length
--   neg r         −r
--   unit n j      the j-th unit list of n numbers, j counted from 0
--   Zero v        every number of v is 0
--   ZeroTo c v    the first c numbers are 0
--   all_zero r    the test: every number is 0
--   lead_at x k   the lead's column, where x stands before a row whose lead is at k
--   lead r        the column of the first number other than 0; r's length if there is none
--   flat T        a table's rows one after the other, as they lie in a buffer
--   chop k w l    the first k rows of w numbers of a buffer
-- Assumes nothing.
use Rattle.std.specs.Prelude.{◌≡◌, Bool, true, ◌&&◌, List, [], ◌∷◌, ◌++◌, ℕ, zero, suc, ℤ, pos, negsuc, neg_ℤ, ◌+ℤ◌, ◌*ℤ◌, take, drop}
use Rattle.whole.specs.Lists.{zeros}
use Rattle.whole.specs.Tests.{is_zero}

unfoldable pub plus : ℤ → List ℤ → List ℤ → List ℤ
plus c [] v = v
plus c (y ∷ r) [] = []
plus c (y ∷ r) (x ∷ v) = (x +ℤ c *ℤ y) ∷ plus c r v

abbrev pub minus : List ℤ → List ℤ → List ℤ
minus u v = plus (negsuc 0) v u

unfoldable pub neg : List ℤ → List ℤ
neg [] = []
neg (x ∷ v) = neg_ℤ x ∷ neg v

abbrev pub unit : ℕ → ℕ → List ℤ
unit zero j = []
unit (suc n) zero = pos 1 ∷ zeros n
unit (suc n) (suc j) = pos 0 ∷ unit n j

abbrev pub Zero : List ℤ → Type 0
Zero [] = Unit {0}
Zero (x ∷ v) = (x ≡ pos 0) × Zero v

abbrev pub ZeroTo : ℕ → List ℤ → Type 0
ZeroTo c v = Zero (take c v)

unfoldable pub all_zero : List ℤ → Bool
all_zero [] = true
all_zero (x ∷ r) = is_zero x && all_zero r

abbrev pub lead_at : ℤ → ℕ → ℕ
lead_at (pos zero) k = suc k
lead_at (pos (suc n)) k = 0
lead_at (negsuc n) k = 0

unfoldable pub lead : List ℤ → ℕ
lead [] = 0
lead (x ∷ r) = lead_at x (lead r)

abbrev pub flat : List (List ℤ) → List ℤ
flat [] = []
flat (r ∷ T) = r ++ flat T

abbrev pub chop : ℕ → ℕ → List ℤ → List (List ℤ)
chop zero w l = []
chop (suc k) w l = take w l ∷ chop k w (drop w l)
