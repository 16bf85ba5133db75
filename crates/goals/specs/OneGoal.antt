-- Document 02, (v): "Older cases have both equal." What document 01 says of one goal, beside what is said of two that are equal.
--   one_goal_ideal g     document 01's ideal: "k is floor(g/1000); take 1 if k = 0, k + 1 if k(k + 1) × 1,000,000 < g × g, else k"; one_from g k, so
--   one_goal_fits lo g   document 01's cause 5 does not hold: "goal outside, or goal with lower below 1"
--   IdealKept            a goal written twice keeps its ideal
--   FitKept              and it is refused as 5 where it was
-- The theorems are `ideal_kept` and `fit_kept`, in proofs/OneGoal. Of the ratio there is nothing to show: settling's is document 01's, letter for
-- letter, where low and high are g.
-- Assumes nothing.
use Rattle.std.specs.Prelude.{◌≡◌, Bool, cond, ◌&&◌, ◌||◌, ℕ, zero, suc, ◌+◌, ◌*◌, ◌/◌, ◌≤◌, ltb, ℤ, pos}
use Rattle.std.specs.Int.Signed.{le_z}
use Rattle.whole.specs.Tests.{is_zero, in_range}
use Rattle.problem.specs.Limits.{max_goal}
use Rattle.problem.specs.Checks.{goal_fits}
use Rattle.goals.specs.Ideals.{goal_ideal}

abbrev pub one_from : ℕ → ℕ → ℕ
one_from g zero = 1
one_from g (suc k) = cond (ltb (suc k * (suc k + 1) * 1000000) (g * g)) (suc k + 1) (suc k)

abbrev pub one_goal_ideal : ℕ → ℕ
one_goal_ideal g = one_from g (g / 1000)

abbrev pub one_goal_fits : ℤ → ℤ → Bool
one_goal_fits lower g = in_range (pos 0) (pos max_goal) g && (is_zero g || le_z (pos 1) lower)

abbrev pub IdealKept : Type 0
IdealKept = (g : ℕ) → g ≤ max_goal → goal_ideal g g ≡ one_goal_ideal g

abbrev pub FitKept : Type 0
FitKept = (lower g : ℤ) → goal_fits lower g g ≡ one_goal_fits lower g
