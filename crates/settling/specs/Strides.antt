-- Document 01, "Moves and settling", **Stride** of a column, its own term: by how much the basis can change it.
--   stride N j         "the greatest common divisor of its entries' magnitudes in the basis, 0 if all are 0"
--   strides n N        of the columns 0 to n − 1; strides_from N k j, of k columns from j on
--   GreatestOf N j d   d divides the magnitude of entry j of every row of N, whatever divides all of these divides d, and d is 0 if all are 0
--   StrideGreatest     the stride of a column is that
-- Assumes nothing.
use Rattle.std.specs.Prelude.{◌≡◌, List, [], ◌∷◌, ℕ, zero, suc, ℤ, pos, nat_abs}
use Rattle.std.specs.Int.{◌∣◌}
use Rattle.whole.specs.Lists.{entry}
use Rattle.whole.specs.Divisor.{divisor}
use Rattle.lattice.specs.Span.{All}

unfoldable pub stride : List (List ℤ) → ℕ → ℕ
stride [] j = 0
stride (r ∷ N) j = divisor (nat_abs (entry j r)) (stride N j)

unfoldable pub strides_from : List (List ℤ) → ℕ → ℕ → List ℕ
strides_from N zero j = []
strides_from N (suc k) j = stride N j ∷ strides_from N k (suc j)

abbrev pub strides : ℕ → List (List ℤ) → List ℕ
strides n N = strides_from N n 0

pub record GreatestOf (N : List (List ℤ)) (j d : ℕ) : Type 0 where
  pub divides : All (λ (r : List ℤ). d ∣ nat_abs (entry j r)) N
  pub greatest : (c : ℕ) → All (λ (r : List ℤ). c ∣ nat_abs (entry j r)) N → c ∣ d
  pub none : All (λ (r : List ℤ). entry j r ≡ pos 0) N → d ≡ 0

abbrev pub StrideGreatest : Type 0
StrideGreatest = (N : List (List ℤ)) (j : ℕ) → GreatestOf N j (stride N j)
