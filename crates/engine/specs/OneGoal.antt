-- Document 02, (v): "Older cases have both equal." A problem whose low and high goals are the same list is what document 01 makes of that one list of
-- goals. The engine's calls look at goals through the test of cause 5, the columns and the ratio alone, so that every older result of theirs is kept;
-- what the reader made of goals is said in neighbours/specs/OneGoal and deck/specs/Older.
--   one_goals_fit lo gs   document 01's cause 5 holds of no column
--   one_goal_column ..    a column with one goal, whose wish is document 01's ideal; one_goal_columns P, those of the problem P by its low goals
--   one_goal_ratio g v    document 01: "Its ratio, for goal g and value v of 1 or more, is the larger of 1000v/g and g/1000v"
--   OneGoalKept           all three are kept
-- The theorem is `one_goal_kept`, in proofs/OneGoal. Document 01's ideal and its cause 5 of one column stand in the room goals.
-- Assumes nothing.
use Rattle.std.specs.Prelude.{◌≡◌, Bool, cond, List, ℕ, ◌*◌, ℤ, pos, nat_abs, length, Some}
use Rattle.whole.specs.Lists.{entry}
use Rattle.whole.specs.Tests.{is_zero, every}
use Rattle.problem.specs.Checks.{Posed, goals_fit}
use Rattle.goals.specs.OneGoal.{one_goal_ideal, one_goal_fits}
use Rattle.settling.specs.declared.Measure.{Measure}
use Rattle.goals.specs.Wishes.{Wish}
use Rattle.settling.specs.declared.Column.{Column}
use Rattle.settling.specs.Columns.{Columns}
use Rattle.settling.specs.Measures.{fraction, larger, ratio}
use Rattle.engine.specs.Assign.{Buffers, n, columns}
use Rattle.engine.specs.Demand.{WithinLimits, handed_in}

abbrev pub one_goals_fit : List ℤ → List ℤ → Bool
one_goals_fit lower gs = every (length lower) (λ j. one_goal_fits (entry j lower) (entry j gs))

abbrev pub one_goal_column : ℤ → ℤ → ℤ → Wish → Column
one_goal_column lo hi g w =
    record { lower = lo; upper = hi; low = g; high = g; wish = cond (is_zero g) w (Some (pos (one_goal_ideal (nat_abs g)))) }

abbrev pub one_goal_columns : Posed → Columns
one_goal_columns P = record {
  count = n P;
  column = λ j. one_goal_column (entry j P.lower) (entry j P.upper) (entry j P.low) (handed_in P j);
}

abbrev pub one_goal_ratio : ℕ → ℕ → Measure
one_goal_ratio g v = larger (fraction (1000 * v) g) (fraction g (1000 * v))

pub record OneGoalKept : Type 0 where
  pub fits : (lower gs : List ℤ) → goals_fit lower gs gs ≡ one_goals_fit lower gs
  pub columns : (P : Posed) (B : Buffers) → P.low ≡ P.high → WithinLimits P B → columns P ≡ one_goal_columns P
  pub ratios : (g v : ℕ) → ratio g g v ≡ one_goal_ratio g v
