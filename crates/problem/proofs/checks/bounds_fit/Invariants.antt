-- What holds at each turn of `problem::checks::bounds_fit`. Assumes nothing.
use mathlib.Core.Bool.{Bool}
use mathlib.Core.List.{List}
use Prim.Native.Nat.{ℕ}
use lib.IntN.{ℤ}
use lib.ListN.{length}
use Rattle.whole.specs.Lists.{entry}
use Rattle.whole.proofs.Counted.{SoFar}
use Rattle.problem.specs.Checks.{bound_fits}
use Rattle.problem.proofs.checks.bounds_fit.Given as goal

abbrev pub test : List ℤ → List ℤ → ℕ → Bool
test lower upper j = bound_fits (entry j lower) (entry j upper)

abbrev pub invariant-loop-j : goal.invariant-loop-j
invariant-loop-j l = SoFar (length l.lower) (test l.lower l.upper) l.j
