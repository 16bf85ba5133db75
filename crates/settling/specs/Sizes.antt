-- How large the numbers of settling are, so that no machine number overflows.
--   Near x              a value after a move: two vectors may each add M to a value within ±M
--   reach p             how large a value may be that is measured in part p
--   FitCell p c         the column c has bounds and goals within the limits, and a value that the measure of part p can take
--   Crossable q         a measure whose cross products with another one fit
-- Assumes nothing.
use Rattle.std.specs.Prelude.{ℕ, ◌*◌, ◌≤◌, ℤ, nat_abs}
use Rattle.problem.specs.Limits.{M, max_bound, max_goal}
use Rattle.settling.specs.declared.Cell.{Cell}
use Rattle.settling.specs.declared.Measure.{Measure}
use Rattle.settling.specs.declared.Part.{Part}
use Rattle.settling.specs.declared.Part.TheVariants.{Bounds, Goals}

abbrev pub Near : ℤ → Type 0
Near x = nat_abs x ≤ 3 * M

-- in the goals part a value lies in bounds
abbrev pub reach : Part → ℕ
reach Bounds = 3 * M
reach Goals = max_bound

pub record FitCell (p : Part) (c : Cell) : Type 0 where
  pub lower : nat_abs c.lower ≤ max_bound
  pub upper : nat_abs c.upper ≤ max_bound
  pub low : nat_abs c.low ≤ max_goal
  pub high : nat_abs c.high ≤ max_goal
  pub value : nat_abs c.value ≤ reach p

pub record Crossable (q : Measure) : Type 0 where
  pub top : q.top ≤ 8589934592
  pub bottom : q.bottom ≤ 1073741824
