-- Refusal 10 in the terms of a call's buffers: a list "beyond ±M or failing a row".
--   max_sum             no more can a row add up to
--   Summable a v        a row of coefficients within the limits, and as many values within ±M
--   keeps_row n a b v i   row i of the coefficients a, n to a row, adds up to its right side in b
--   stands_in p a b v   no value lies beyond ±M, and every row is kept
--   Standable ..        what the checks leave of these lists
-- Assumes nothing.
use Rattle.std.specs.Prelude.{◌≡◌, Bool, not, ◌&&◌, List, ℕ, ◌*◌, ◌≤◌, ℤ, nat_abs, ◌-ℤ◌, length, take, drop}
use Rattle.whole.specs.Lists.{entry}
use Rattle.whole.specs.Tests.{is_zero, every}
use Rattle.lattice.specs.Sums.{dot}
use Rattle.problem.specs.Limits.{M, max_columns, max_rows, max_coefficient, max_right, any_beyond}
use Rattle.problem.specs.declared.Problem.{Problem}

abbrev pub max_sum : ℕ
max_sum = max_columns * (M * max_coefficient)

pub record Summable (a v : List ℤ) : Type 0 where
  pub few : length a ≤ max_columns
  pub same : length v ≡ length a
  pub coefficients : (i : ℕ) → nat_abs (entry i a) ≤ max_coefficient
  pub values : (i : ℕ) → nat_abs (entry i v) ≤ M

abbrev pub keeps_row : ℕ → List ℤ → List ℤ → List ℤ → ℕ → Bool
keeps_row n a b v i = is_zero (dot (take n (drop (i * n) a)) v -ℤ entry i b)

abbrev pub stands_in : Problem → List ℤ → List ℤ → List ℤ → Bool
stands_in p a b v = not (any_beyond v) && every p.rows (keeps_row p.columns a b v)

pub record Standable (p : Problem) (a b v : List ℤ) : Type 0 where
  pub few_columns : p.columns ≤ max_columns
  pub few_rows : p.rows ≤ max_rows
  pub coefficients_long : length a ≡ p.rows * p.columns
  pub rights_long : length b ≡ p.rows
  pub values_long : length v ≡ p.columns
  pub coefficients_small : (i : ℕ) → nat_abs (entry i a) ≤ max_coefficient
  pub rights_small : (i : ℕ) → nat_abs (entry i b) ≤ max_right
