-- `search::sets::find_sets` meets its contract: the sets have the vectors passed. Assumes nothing.
use mathlib.Core.Path.{◌≡◌, sym, ◌∙◌, subst}
use Prim.Native.Nat.{ℕ}
use native.Mathlib.Omega.{arith}
use Rattle.settling.specs.Moves.{vector}
use Rattle.settling.specs.Views.{vectors}
use Rattle.settling.proofs.Views.{vector_long}
use Rattle.search.proofs.Finding.{Filled, support_in, fill_starts, fill_ends}
use Rattle.search.proofs.sets.find_sets.Goals as goal

pub loop-s-init : goal.loop-s-init
loop-s-init c = fill_starts _ _ _ c.requires.2 c.requires.3

pub hold-requires : goal.hold-requires
hold-requires c =
    let a = c.args in
    let s = c.loop-s.s in
    let f = c.support_at-support.ensures in (
      omega (arith, c.loop-s-test.true, c.requires.1),
      λ j e. omega (
        arith,
        support_in (vector (vectors a.basis) s) j (sym (f j) ∙ e),
        vector_long a.basis s c.loop-s-test.true,
        c.requires.0,
        c.loop-s.invariant.holders_long,
      ),
    )

pub returns : goal.returns
returns c =
    let a = c.args in
    let l = c.loop-s in
    let e : l.s ≡ a.basis.vectors = omega arith in
    fill_ends a.basis l.supports l.holders
    (subst (λ (n : ℕ). Filled (vectors a.basis) n l.supports l.holders) e l.invariant)
