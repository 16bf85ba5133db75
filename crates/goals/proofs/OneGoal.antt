-- A goal written twice is as document 01 has it: `ideal_kept` and `fit_kept`; `root_square`, its whole root is the goal's thousands. Assumes nothing.
use mathlib.Core.Path.{◌≡◌, refl, ◌∙◌, ap}
use mathlib.Core.Bool.{Bool, true, false, cond, not, ◌&&◌, ◌||◌}
use Prim.Native.Nat.{ℕ, zero, suc, ◌+◌, ◌*◌, ◌/◌, ◌≤◌}
use native.Mathlib.Nat.{mul-le-mul}
use native.Mathlib.Omega.{arith}
use borrow.Author.Tests.{le-leb}
use lib.IntN.{ℤ, pos, negsuc}
use lib.Signed.{le_z}
use Rattle.whole.specs.Tests.{is_zero}
use Rattle.problem.specs.Limits.{max_goal}
use Rattle.problem.specs.Checks.{goal_inside}
use Rattle.goals.specs.Ideals.{whole_root, ideal_from, goal_ideal, IsRoot}
use Rattle.goals.specs.OneGoal.{one_from, IdealKept, FitKept}
use Rattle.goals.proofs.Roots.{root_alone, root_is, product_small}

thousands : (g : ℕ) → IsRoot (g * g) (g / 1000)
thousands g = record {
  low = omega (arith, mul-le-mul below below);
  high = omega (arith, mul-le-mul above above);
}
  where
    below : g / 1000 * 1000 ≤ g
    below = omega arith

    above : g + 1 ≤ (g / 1000 + 1) * 1000
    above = omega arith

pub root_square : (g : ℕ) → g ≤ max_goal → whole_root (g * g) ≡ g / 1000
root_square g h = root_alone (g * g) _ _ (root_is (g * g) (product_small g g h h)) (thousands g)

same : (g k : ℕ) → ideal_from (g * g) k ≡ one_from g k
same g zero = refl
same g (suc k) = refl

pub ideal_kept : IdealKept
unfolding goal_ideal
ideal_kept g h = ap (ideal_from (g * g)) (root_square g h) ∙ same g (g / 1000)

-- ---- refused as 5 where it was
equal_pair : (t : Bool) → cond t t (not t) ≡ true
equal_pair true = refl
equal_pair false = refl

at_most_itself : (g : ℤ) → le_z g g ≡ true
at_most_itself (pos k) = le-leb k k (omega arith)
at_most_itself (negsuc k) = le-leb k k (omega arith)

twice : (a b : Bool) → a && (a && b) ≡ a && b
twice true b = refl
twice false b = refl

pub fit_kept : FitKept
fit_kept lower g =
    ap (λ (t : Bool). goal_inside g && (goal_inside g && (t && (le_z g g && (is_zero g || le_z (pos 1) lower))))) (equal_pair (is_zero g))
    ∙ ap (λ (t : Bool). goal_inside g && (goal_inside g && (t && (is_zero g || le_z (pos 1) lower)))) (at_most_itself g)
    ∙ twice (goal_inside g) (is_zero g || le_z (pos 1) lower)
