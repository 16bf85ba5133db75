-- What seating, a step and settling need of the lists that they are handed.
--   FitColumn c       bounds and goals lie within the limits, and a column with a goal has a lower bound of 1 or more
--   Ready B v t       the values v and the table t have a number and a column for each column of the basis B, and each column fits; the values lie
--                     within ±M, as the basis does, and a problem has room for as many columns as there are vectors
-- Assumes nothing.
use Rattle.std.specs.Prelude.{◌≡◌, true, ◌||◌, List, ℕ, ◌≤◌, ℤ, pos, nat_abs, length}
use Rattle.std.specs.Int.Signed.{le_z}
use Rattle.whole.specs.Lists.{entry}
use Rattle.whole.specs.Tests.{is_zero}
use Rattle.problem.specs.Limits.{M, max_columns, max_bound, max_goal}
use Rattle.settling.specs.declared.Basis.{Basis}
use Rattle.settling.specs.declared.Column.{Column}
use Rattle.settling.specs.Columns.{column_at}

pub record FitColumn (c : Column) : Type 0 where
  pub lower : nat_abs c.lower ≤ max_bound
  pub upper : nat_abs c.upper ≤ max_bound
  pub low : nat_abs c.low ≤ max_goal
  pub high : nat_abs c.high ≤ max_goal
  pub above : is_zero c.low || le_z (pos 1) c.lower ≡ true

pub record Ready (B : Basis) (v : List ℤ) (t : List Column) : Type 0 where
  pub few : B.columns ≤ max_columns
  pub few_vectors : B.vectors ≤ max_columns
  pub values_long : length v ≡ B.columns
  pub values_small : (j : ℕ) → nat_abs (entry j v) ≤ M
  pub table_long : length t ≡ B.columns
  pub columns : (j : ℕ) → FitColumn (column_at t j)
