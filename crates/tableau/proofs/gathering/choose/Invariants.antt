-- What holds at each turn of `tableau::gathering::choose`. Assumes nothing.
use mathlib.Core.Path.{◌≡◌}
use mathlib.Core.List.{List}
use Prim.Native.Nat.{ℕ, ◌+◌, ◌*◌}
use lib.IntN.{ℤ}
use Rattle.std.specs.Prelude.{Option}
use Rattle.lattice.specs.Rows.{chop}
use Rattle.tableau.specs.Choices.{Chooses}
use Rattle.tableau.specs.declared.gathering.Choice.{Choice}
use Rattle.tableau.proofs.gathering.choose.Given as goal

-- the choice among the i rows passed, and the place of the number that comes next
pub record Sofar (t : List ℤ) (w c : ℕ) (z : Option Choice) (i at : ℕ) : Type 0 where
  pub place : at ≡ i * w + c
  pub chooses : Chooses c (chop i w t) z

abbrev pub invariant-loop-i : goal.invariant-loop-i
invariant-loop-i l = Sofar l.t l.w l.c l.z l.i l.at
