-- Two cases of `passes`, where the value is allowed.
--   passes_still      the move does not change the column
--   passes_measured   it is changed, and compared
-- Assumes nothing.
use mathlib.Core.Path.{◌≡◌}
use mathlib.Core.Bool.{true, false}
use lib.IntN.{ℤ}
use Rattle.whole.specs.Tests.{is_zero}
use Rattle.settling.specs.declared.Cell.{Cell}
use Rattle.settling.specs.declared.Measure.{Measure}
use Rattle.settling.specs.declared.Part.{Part}
use Rattle.settling.specs.Measures.{below, measure}
use Rattle.settling.specs.Steps.{is_compared, is_allowed, passes}

module _ (p : Part) (c : Cell) (e : ℤ) (q : Measure) where
  pub passes_still : is_allowed p c ≡ true → is_zero e ≡ true → passes p c e q ≡ true
  unfolding passes
  passes_still a b = rw (a, b)

  pub passes_measured : is_allowed p c ≡ true → is_zero e ≡ false → is_compared p c ≡ true → passes p c e q ≡ below (measure p c) q
  unfolding passes
  passes_measured a b d = rw (a, b, d)
