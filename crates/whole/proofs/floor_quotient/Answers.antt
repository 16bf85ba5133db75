-- `whole::floor_quotient` meets its contract, by `floor_by_machine`. One less than the machine's quotient fits where it is the rounded-down
-- one. Assumes nothing.
use mathlib.Core.Path.{◌≡◌, sym, ap, ◌∙◌, subst}
use mathlib.Core.Bool.{Bool, cond}
use Prim.Native.Nat.{◌<◌}
use lib.IntN.{ℤ, pos, ◌-ℤ◌}
use lib.Signed.{lt_z, quot_z, rem_z}
use mir.Syntax.{w64}
use mir.Val.{to_z, of_z, SFits}
use mir.Facts.{to_z-of_z}
use Rattle.whole.specs.Quotient.{floor_quotient}
use Rattle.whole.specs.Tests.{Positive}
use Rattle.whole.proofs.Integers.{above_positive, floor_by_machine}
use Rattle.whole.proofs.Signed.{over, rem_fits, floor_fits}
use Rattle.whole.proofs.floor_quotient.Goals as goal

-- z as the machine reads it back
abbrev read : ℤ → ℤ
read z = to_z w64 (of_z w64 z)

module _ (c : goal.Start) where
  abbrev e : ℤ
  e = c.args.e

  abbrev p : ℤ
  p = c.args.p

  pivot : Positive p
  pivot = above_positive p c.requires

  divides : (0 < of_z w64 p) × SFits w64 (quot_z e p)
  divides = over e c.ranges.e pivot

  quotient : read (quot_z (read e) (read p)) ≡ quot_z e p
  quotient = cc (to_z-of_z c.ranges.e, to_z-of_z c.ranges.p, to_z-of_z divides.1)

  remainder : read (rem_z (read e) (read p)) ≡ rem_z e p
  remainder = cc (to_z-of_z c.ranges.e, to_z-of_z c.ranges.p, to_z-of_z (rem_fits e p c.ranges.e))

  -- what the test of the remainder says
  tested : {b : Bool} → lt_z (read (rem_z (read e) (read p))) (pos 0) ≡ b → cond b (quot_z e p -ℤ pos 1) (quot_z e p) ≡ floor_quotient e p
  tested h = sym (floor_by_machine e pivot ∙ rw (sym remainder, h))

  fits : SFits w64 (floor_quotient e p)
  fits = floor_fits e c.ranges.e pivot

one_less :
    (c : goal.Then-rest-lt0) →
    let s = c.before in
    read (quot_z (read (e s)) (read (p s))) -ℤ pos 1 ≡ floor_quotient (e s) (p s)
one_less c = ap (λ (q : ℤ). q -ℤ pos 1) (quotient c.before) ∙ tested c.before c.if-rest-lt0.true

pub nonzero_div-q : goal.nonzero_div-q
nonzero_div-q c = rw (to_z-of_z c.ranges.e, to_z-of_z c.ranges.p) (divides c)

pub nonzero_rem-rest : goal.nonzero_rem-rest
nonzero_rem-rest c = rw (to_z-of_z c.ranges.e, to_z-of_z c.ranges.p) (divides c)

pub returns-then-rest-lt0 : goal.returns-then-rest-lt0
returns-then-rest-lt0 c = ap read (one_less c) ∙ to_z-of_z (fits c.before)

pub returns-else-rest-lt0 : goal.returns-else-rest-lt0
returns-else-rest-lt0 c = quotient c.before ∙ tested c.before c.if-rest-lt0.false

pub overflow_sub-result : goal.overflow_sub-result
overflow_sub-result c = subst (SFits w64) (sym (one_less c)) (fits c.before)
