-- `whole::divisor` meets its contract: the second number falls at each call. Assumes nothing.
use mathlib.Core.Path.{◌≡◌, sym, ◌∙◌}
use Prim.Native.Nat.{ℕ, ◌<◌}
use native.Mathlib.Omega.{arith}
use Rattle.whole.proofs.Euclid.{divisor_zero, divisor_step}
use Rattle.whole.proofs.+divisor.Goals as goal

pos_of_ne : (b : ℕ) → (b ≡ 0 → ⊥) → 0 < b
pos_of_ne b h = omega arith

pub returns-then-b-eq0 : goal.returns-then-b-eq0
returns-then-b-eq0 t c = rw c.if-b-eq0.true (sym (divisor_zero c.args.a))

pub returns-else-b-eq0 : goal.returns-else-b-eq0
returns-else-b-eq0 t c = c.divisor.ensures ∙ sym (divisor_step c.args.a c.args.b (pos_of_ne c.args.b c.if-b-eq0.false))
