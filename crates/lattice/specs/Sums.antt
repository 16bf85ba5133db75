-- What the rows of a problem say of a list.
--   dot a x             the coefficients a times the numbers x, added up
--   sums A x            that of each row of A
--   Satisfies n A b x   document 01, "The words of demand 3": "A list satisfies the rows if it has n whole numbers, of any size, in bounds or
--                       not, and in each row the coefficients times these numbers add up to the right side."
-- Assumes nothing.
use Rattle.std.specs.Prelude.{◌≡◌, List, [], ◌∷◌, map, ℕ, ℤ, pos, ◌+ℤ◌, ◌*ℤ◌, length}

unfoldable pub dot : List ℤ → List ℤ → ℤ
dot [] x = pos 0
dot (a ∷ r) [] = pos 0
dot (a ∷ r) (x ∷ v) = dot r v +ℤ x *ℤ a

unfoldable pub sums : List (List ℤ) → List ℤ → List ℤ
sums A x = map (λ a. dot a x) A

pub record Satisfies (n : ℕ) (A : List (List ℤ)) (b x : List ℤ) : Type 0 where
  pub wide : length x ≡ n
  pub keeps : sums A x ≡ b
