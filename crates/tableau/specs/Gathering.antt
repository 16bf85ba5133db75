-- What gathering starts from, and what it leaves.
--   Chosen n c b B j p   column c is one of n, the rows b and B have n numbers, and the choice among them is row j with the magnitude p
--   Alone c b B          b's entry at c is above 0, and those of B are 0
--   Shrinks quotient     of each entry the quotient by a pivot above 0 leaves a magnitude below the pivot. No more is asked of a quotient for the
--                        steps to end in the Hermite form
--   magnitude z          the magnitude that a choice has; 0 where there is none
--   gathering c b B      the rounds of column c, with no count of rounds in sight; gathering_rounds, how many they are
-- Assumes nothing.
use Rattle.std.specs.Prelude.{◌≡◌, List, ◌∷◌, ℕ, ◌<◌, ℤ, pos, neg_ℤ, nat_abs, ◌+ℤ◌, ◌*ℤ◌}
use Rattle.whole.specs.Lists.{entry}
use Rattle.whole.specs.Tests.{Positive}
use Rattle.lattice.specs.Span.{All, Len}
use Rattle.tableau.specs.Elimination.{Choice, none, at, choose, Gathered, gather}
use Rattle.tableau.specs.RoundCount.{gather_rounds}

pub record Chosen (n c : ℕ) (b : List ℤ) (B : List (List ℤ)) (j p : ℕ) : Type 0 where
  pub within : c < n
  pub wide : All (Len n) (b ∷ B)
  pub choice : choose c (b ∷ B) ≡ at j p

pub record Alone (c : ℕ) (b : List ℤ) (B : List (List ℤ)) : Type 0 where
  pub lead : Positive (entry c b)
  pub lower : All (λ (s : List ℤ). entry c s ≡ pos 0) B

pub record Shrinks (quotient : ℤ → ℤ → ℤ) : Type 0 where
  pub left : {p : ℤ} (x : ℤ) → Positive p → nat_abs (x +ℤ neg_ℤ (quotient x p) *ℤ p) < nat_abs p

abbrev pub magnitude : Choice → ℕ
magnitude none = 0
magnitude (at j p) = p

unfoldable pub gathering : ℕ → List ℤ → List (List ℤ) → Gathered
gathering c b B = gather (magnitude (choose c (b ∷ B))) c (choose c (b ∷ B)) b B

unfoldable pub gathering_rounds : ℕ → List ℤ → List (List ℤ) → ℕ
gathering_rounds c b B = gather_rounds (magnitude (choose c (b ∷ B))) c (choose c (b ∷ B)) b B
