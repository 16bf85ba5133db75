-- Where both goals are the same, the reader's ideals are made of document 01's. Assumes nothing.
use Rattle.std.specs.Prelude.{None}
use mathlib.Core.Path.{◌≡◌, sym, ◌∙◌}
use mathlib.Core.Bool.{cond}
use Prim.Native.Nat.{ℕ, ◌≤◌}
use lib.IntN.{pos, nat_abs}
use Rattle.problem.specs.Limits.{max_goal}
use Rattle.goals.specs.Ideals.{goal_ideal}
use Rattle.goals.specs.Wishes.{into}
use Rattle.goals.proofs.OneGoal.{ideal_kept}
use Rattle.neighbours.specs.Neighbours.{Stated, ideal_of, is_neighbour, chosen, mean, is_plain_interval, neighbour_wish}
use Rattle.neighbours.specs.OneGoal.{one_goal_ideal_of, OneGoalWishes}

module _ (S : Stated) (e : S.low ≡ S.high) (b : (h : ℕ) → nat_abs (S.low h) ≤ max_goal) where
  same : (h : ℕ) → ideal_of S h ≡ one_goal_ideal_of S h
  same h =
      (λ i. into (S.lower h) (S.upper h) (pos (goal_ideal (nat_abs (S.low h)) (nat_abs (sym e i h)))))
      ∙ (λ i. into (S.lower h) (S.upper h) (pos (ideal_kept (nat_abs (S.low h)) (b h) i)))

pub one_goal_wishes : OneGoalWishes
unfolding neighbour_wish
one_goal_wishes S e b j = λ i.
    cond (is_plain_interval S j) (mean (chosen (is_neighbour S j) (λ h. same S e b h i) S.intervals 0)) None
