-- What the reader's ideals need of the lists that they are made from.
--   LongEnough n m k c lo hi gs hs   lists with a number for each column, and coefficients for each row; the intervals are columns
--   SmallColumns k lo hi gs hs   bounds and goals of the first k columns lie within the limits
-- Assumes nothing.
use Rattle.std.specs.Prelude.{List, ℕ, ◌*◌, ◌<◌, ◌≤◌, ℤ, nat_abs, length}
use Rattle.whole.specs.Lists.{entry}
use Rattle.problem.specs.Limits.{max_columns, max_rows, max_bound, max_goal}

pub record LongEnough (n m k : ℕ) (c lo hi gs hs : List ℤ) : Type 0 where
  pub few : n ≤ max_columns
  pub few_rows : m ≤ max_rows
  pub intervals : k ≤ n
  pub coefficients : m * n ≤ length c
  pub lower : n ≤ length lo
  pub upper : n ≤ length hi
  pub low : n ≤ length gs
  pub high : n ≤ length hs

pub record SmallColumns (k : ℕ) (lo hi gs hs : List ℤ) : Type 0 where
  pub lower : (j : ℕ) → j < k → nat_abs (entry j lo) ≤ max_bound
  pub upper : (j : ℕ) → j < k → nat_abs (entry j hi) ≤ max_bound
  pub low : (j : ℕ) → j < k → nat_abs (entry j gs) ≤ max_goal
  pub high : (j : ℕ) → j < k → nat_abs (entry j hs) ≤ max_goal
