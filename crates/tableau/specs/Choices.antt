-- The code's choice of a row, as the definition has it.
--   choice_of z     the definition's choice
--   count_of z      how many entries are other than 0, where the choice is among them
--   below z i k     the choice z with an entry of magnitude k put below, in row i
--   counted k       1 for an entry other than 0
--   nonzeros c B    how many of the rows B have an entry other than 0 at c
--   Chooses c B z   z is the choice among the rows B
-- Assumes nothing.
use Rattle.std.specs.Prelude.{◌≡◌, cond, List, [], ◌∷◌, ℕ, zero, suc, ◌+◌, ltb, ℤ, nat_abs, Option, Some, None}
use Rattle.whole.specs.Lists.{entry}
use Rattle.tableau.specs.Elimination as E
use Rattle.tableau.specs.declared.gathering.Choice.{Choice}

abbrev pub choice_of : Option Choice → E.Choice
choice_of None = E.none
choice_of (Some z) = E.at z.row z.size

abbrev pub count_of : Option Choice → ℕ
count_of None = 0
count_of (Some z) = z.count

abbrev pub below : E.Choice → ℕ → ℕ → E.Choice
below z i zero = z
below E.none i (suc k) = E.at i (suc k)
below (E.at j p) i (suc k) = cond (ltb (suc k) p) (E.at i (suc k)) (E.at j p)

abbrev pub counted : ℕ → ℕ
counted zero = 0
counted (suc k) = 1

unfoldable pub nonzeros : ℕ → List (List ℤ) → ℕ
nonzeros c [] = 0
nonzeros c (r ∷ B) = counted (nat_abs (entry c r)) + nonzeros c B

pub record Chooses (c : ℕ) (B : List (List ℤ)) (z : Option Choice) : Type 0 where
  pub is : choice_of z ≡ E.choose c B
  pub count : count_of z ≡ nonzeros c B
