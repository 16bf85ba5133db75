-- A problem whose low and high goals are the same is document 01's of that one list of goals. Assumes nothing.
use mathlib.Core.Path.{◌≡◌, refl, sym, ◌∙◌}
use mathlib.Core.Bool.{cond}
use lib.IntN.{pos, nat_abs}
use lib.ListN.{length}
use Rattle.whole.specs.Lists.{entry}
use Rattle.whole.specs.Tests.{is_zero, every}
use Rattle.problem.specs.Checks.{Posed}
use Rattle.problem.proofs.CheckLaws.{Fits, passes, fits}
use Rattle.goals.proofs.OneGoal.{ideal_kept, fit_kept}
use Rattle.std.specs.Prelude.{Some}
use Rattle.settling.specs.Columns.{listed}
use Rattle.engine.specs.Assign.{Buffers, n, columns, lent_of}
use Rattle.engine.specs.Demand.{WithinLimits, handed_in}
use Rattle.engine.specs.OneGoal.{one_goal_columns, OneGoalKept}

columns_kept : (P : Posed) (B : Buffers) → P.low ≡ P.high → WithinLimits P B → columns P ≡ one_goal_columns P
columns_kept P B e w =
    (λ i. listed (n P) P.lower P.upper P.low (sym e i) P.given P.ideals)
    ∙ (λ i. record {
      count = n P;
      column = λ j. record {
        lower = entry j P.lower;
        upper = entry j P.upper;
        low = entry j P.low;
        high = entry j P.low;
        wish =
            cond (is_zero (entry j P.low)) (handed_in P j)
            (Some (pos (ideal_kept (nat_abs (entry j P.low)) (small.low_small j) i)));
      };
    })
  where
    small : Fits P (lent_of B)
    small = fits P (lent_of B) (passes P (lent_of B) w.passed)

pub one_goal_kept : OneGoalKept
one_goal_kept = record {
  fits = λ lower gs. λ i. every (length lower) (λ j. fit_kept (entry j lower) (entry j gs) i);
  columns = columns_kept;
  ratios = λ g v. refl;
}
