-- `search::settle::settle` meets its contract: what is left of the steps, from the present values and counts, gives the whole. Assumes nothing.
use mathlib.Core.Path.{sym, ◌∙◌, ap, subst}
use mathlib.Core.List.{List}
use Prim.Native.Nat.{◌-◌}
use native.Mathlib.Omega.{arith}
use lib.IntN.{ℤ}
use Rattle.problem.specs.declared.Verdict.{Verdict}
use Rattle.problem.specs.declared.Counts.{Counts}
use Rattle.settling.specs.declared.Turn.{Turn}
use Rattle.settling.specs.Columns.{columns_in}
use Rattle.settling.specs.Ready.{Ready}
use Rattle.settling.specs.Settle as Settle
use Rattle.settling.specs.Views.{vectors}
use Rattle.settling.proofs.Settlings.{counted_sum, taken_ready, settle_rest, settle_spent, settle_on_lem}
use Rattle.search.specs.Turning.{Arranged}
use Rattle.search.proofs.Turning.{arranged_none, arranged_next}
use Rattle.search.proofs.settle.settle.Goals as goal

pub loop-step-init : goal.loop-step-init
unfolding Settle.settle
loop-step-init c =
    let a = c.args in
    let C = columns_in a.basis.columns a.columns.now in
    let N = vectors a.basis in
    let e = c.no_steps-counts.ensures in (
      c.requires,
      omega (arith, ap (λ (k : Counts). k.bounds) e, ap (λ (k : Counts). k.goals) e),
      ap (λ (k : Counts). Settle.settle_from a.limit C N k a.values.now) e,
      record { indexing = c.begin.ensures.indexing; ranking = arranged_none _ _ _ c.begin.ensures.ranking },
    )

pub returns-in_default : goal.returns-in_default
returns-in_default c =
    let a = c.args in
    let l = c.loop-step in
    let C = columns_in a.basis.columns a.columns.now in
    let N = vectors a.basis in
    let t = c.turn-turn.ensures.0 in
    sym (sym l.invariant.2 ∙ settle_rest C N l.counts l.values l.left (sym (ap (λ (x : Turn). x.step) t) ∙ c.in_default.is)
    ∙ ap (λ (x : Verdict). Settle.ended x l.values)
    (sym (c.at_rest.ensures ∙ ap (λ (x : Turn). Settle.at_rest x.part l.counts) t)))

pub returns-then-left-eq0 : goal.returns-then-left-eq0
returns-then-left-eq0 c =
    let a = c.args in
    let l = c.loop-step in
    let C = columns_in a.basis.columns a.columns.now in
    let N = vectors a.basis in
    sym (sym l.invariant.2
    ∙ settle_spent C N l.counts l.values l.left _ _ c.if-left-eq0.true (sym (ap (λ (x : Turn). x.step) c.turn-turn.ensures.0) ∙ c.in-Some.is))

pub take_move-requires-clause-viewed : goal.take_move-requires-clause-viewed
take_move-requires-clause-viewed c =
    let a = c.args in
    let l = c.loop-step in
    let e = sym (ap (λ (x : Turn). x.step) c.turn-turn.ensures.0) ∙ c.in-Some.is in
    ((taken_ready a.basis l.values a.columns.now _ _ l.invariant.0 e).0, l.invariant.0.values_long)

pub loop-step-preserved : goal.loop-step-preserved
loop-step-preserved c =
    let a = c.args in
    let l = c.loop-step in
    let C = columns_in a.basis.columns a.columns.now in
    let N = vectors a.basis in
    let m = c.take_move in
    let t = c.turn-turn.ensures in
    let e = sym (ap (λ (x : Turn). x.step) t.0) ∙ c.in-Some.is in
    let counts = c.counted-counts.ensures ∙ ap (λ (x : Turn). Settle.counted x.part l.counts) t.0 in
    let h = c.if-left-eq0.false in (
      subst (λ (v : List ℤ). Ready a.basis v a.columns.now) (sym m.ensures)
          (taken_ready a.basis l.values a.columns.now _ _ l.invariant.0 e).1,
      rw c.counted-counts.ensures (counted_sum c.turn-turn.result.part l.counts l.left a.limit l.invariant.1 h),
      (λ x. Settle.settle_from (l.left - 1) C N (counts x) (m.ensures x))
          ∙ sym (settle_on_lem C N l.counts l.values l.left _ _ h e)
          ∙ l.invariant.2,
      record {
        indexing = t.1.indexing;
        ranking = subst (λ (v : List ℤ). Arranged a.columns.now v c.turn-turn.new.self.ranking) (sym m.ensures)
            (arranged_next l.invariant.0 t.1.ranking e);
      },
    )
