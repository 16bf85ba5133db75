-- Lists that a call was lent to be filled, and that it lends on.
--   SameReferences before after   they are still those that were lent, so that who lent them knows what they hold
-- Assumes nothing.
use Rattle.std.specs.Prelude.{◌≡◌}
use Rattle.problem.specs.declared.ListsMut.{ListsMut}

pub record SameReferences (before after : ListsMut) : Type 0 where
  pub coefficients : after.coefficients.ghost_name ≡ before.coefficients.ghost_name
  pub rights : after.rights.ghost_name ≡ before.rights.ghost_name
  pub lower : after.lower.ghost_name ≡ before.lower.ghost_name
  pub upper : after.upper.ghost_name ≡ before.upper.ghost_name
  pub low : after.low.ghost_name ≡ before.low.ghost_name
  pub high : after.high.ghost_name ≡ before.high.ghost_name
  pub given : after.given.ghost_name ≡ before.given.ghost_name
  pub ideals : after.ideals.ghost_name ≡ before.ideals.ghost_name
