-- Computed cases of the ideal of two goals. Assumes nothing.
use mathlib.Core.Path.{◌≡◌, refl}
use Prim.Native.Nat.{◌*◌}
use Rattle.problem.specs.Limits.{max_goal}
use Rattle.goals.specs.Ideals.{root_bits, whole_root, goal_ideal}

-- the largest goals
most : whole_root (max_goal * max_goal) ≡ 1000000
unfolding whole_root root_bits
most = refl

-- 1 for k = 0, however far apart the goals are
least : (goal_ideal 1 1 ≡ 1) × (goal_ideal 1 999999 ≡ 1)
unfolding goal_ideal whole_root root_bits
least = (refl, refl)

-- the root of 1,000 × 4,000 is 2,000: neither the low goal, nor the high one, nor their plain mean
apart : (goal_ideal 1000 4000 ≡ 2) × (goal_ideal 1000 9000 ≡ 3)
unfolding goal_ideal whole_root root_bits
apart = (refl, refl)

-- at 2 × 3 × 1,000,000 itself it is 2, and one above it is 3
edge : (goal_ideal 2000 3000 ≡ 2) × (goal_ideal 1 6000001 ≡ 3)
unfolding goal_ideal whole_root root_bits
edge = (refl, refl)
