-- A table of columns while it is packed.
--   Packable t L     the table t has room for each column of the lists L, these have a number for each, and no goal lies beyond its limit
-- Assumes nothing.
use Rattle.std.specs.Prelude.{◌≡◌, List, ℕ, ◌≤◌, nat_abs, length}
use Rattle.whole.specs.Lists.{entry}
use Rattle.problem.specs.Limits.{max_goal}
use Rattle.problem.specs.declared.Lists.{Lists}
use Rattle.settling.specs.declared.Column.{Column}

pub record Packable (t : List Column) (L : Lists) : Type 0 where
  pub room : length t ≡ length L.lower.now
  pub upper_long : length L.upper.now ≡ length L.lower.now
  pub low_long : length L.low.now ≡ length L.lower.now
  pub high_long : length L.high.now ≡ length L.lower.now
  pub given_long : length L.given.now ≡ length L.lower.now
  pub ideals_long : length L.ideals.now ≡ length L.lower.now
  pub low_small : (j : ℕ) → nat_abs (entry j L.low.now) ≤ max_goal
  pub high_small : (j : ℕ) → nat_abs (entry j L.high.now) ≤ max_goal
