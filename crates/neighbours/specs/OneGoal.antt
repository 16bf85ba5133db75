-- Document 02, (v): "Older cases have both equal." The ideals that the reader hands in are then made of document 01's.
--   one_goal_ideal_of S h   the ideal of a column with one goal, document 01's: after its bounds
--   one_goal_wish S j       what the reader hands in for column j by these
--   OneGoalWishes           so it is where each column's goals are the same, and within the limit
-- The theorem is `one_goal_wishes`, in proofs/OneGoal.
-- Assumes nothing.
use Rattle.std.specs.Prelude.{◌≡◌, cond, ℕ, ◌≤◌, ℤ, pos, nat_abs, None}
use Rattle.problem.specs.Limits.{max_goal}
use Rattle.goals.specs.OneGoal.{one_goal_ideal}
use Rattle.goals.specs.Wishes.{Wish, into}
use Rattle.neighbours.specs.Neighbours.{Stated, is_neighbour, chosen, mean, is_plain_interval, neighbour_wish}

abbrev pub one_goal_ideal_of : Stated → ℕ → ℤ
one_goal_ideal_of S h = into (S.lower h) (S.upper h) (pos (one_goal_ideal (nat_abs (S.low h))))

abbrev pub one_goal_wish : Stated → ℕ → Wish
one_goal_wish S j = cond (is_plain_interval S j) (mean (chosen (is_neighbour S j) (one_goal_ideal_of S) S.intervals 0)) None

abbrev pub OneGoalWishes : Type 0
OneGoalWishes = (S : Stated) → S.low ≡ S.high → ((h : ℕ) → nat_abs (S.low h) ≤ max_goal) → (j : ℕ) → neighbour_wish S j ≡ one_goal_wish S j
