-- What a part has that no cause of 1 to 5 turns back.
--   PartPasses P     each of the tests holds, those of the buffers that a call fills and of its limit among them, which are no cause of a part
--   PartFits P       in numbers
--   part_passes      so it is where no cause is named
--   part_fits        and the numbers
--   room_right       buffers of the right lengths are no cause
-- Assumes nothing.
use mathlib.Core.Path.{◌≡◌, refl, ap₂}
use mathlib.Core.Bool.{true, ◌&&◌}
use Prim.Native.Nat.{◌+◌, ◌*◌}
use borrow.Author.Tests.{eq-eqb}
use Rattle.problem.specs.Checks.{lent_fit}
use Rattle.problem.specs.declared.Problem.{Problem}
use Rattle.std.specs.Prelude.{Ok}
use Rattle.problem.proofs.CheckLaws.{Passes, Fits, passes, fits}
use Rattle.pairing.specs.Parts.{Part, sized, as_posed, room_for, part_cause}

abbrev pub PartPasses : Part → Type 0
PartPasses P = Passes (as_posed P 0) (room_for (sized P.columns P.rows 0))

abbrev pub PartFits : Part → Type 0
PartFits P = Fits (as_posed P 0) (room_for (sized P.columns P.rows 0))

pub part_passes : (P : Part) → part_cause P ≡ Ok tt → PartPasses P
unfolding part_cause
part_passes P e = passes (as_posed P 0) (room_for (sized P.columns P.rows 0)) e

pub part_fits : (P : Part) → PartPasses P → PartFits P
part_fits P f = fits (as_posed P 0) (room_for (sized P.columns P.rows 0)) f

pub room_right : (p : Problem) → lent_fit p (room_for p) ≡ true
room_right p =
    ap₂ ◌&&◌ (eq-eqb (p.columns * (p.rows + p.columns)) _ refl) (ap₂ ◌&&◌ (eq-eqb p.columns _ refl) (eq-eqb p.columns _ refl))
