-- `joined::columns::absorb_by_rule` meets its contract: the numbers taken so far and those left make the list. Assumes nothing.
use Rattle.std.proofs.Common.{arith, rules, sym, ◌∙◌, ap₂}
use Rattle.whole.proofs.Signed.{back}
use Rattle.joined.proofs.Laying.{absorb_step, absorb_end, taken_shared, taken_alone}
use Rattle.joined.proofs.columns.absorb_by_rule.Goals.{then-is_some, else-is_some}
use Rattle.joined.proofs.columns.absorb_by_rule.Goals as goal

pub loop-j-preserved : goal.loop-j-preserved
loop-j-preserved g c =
    let a = c.args in
    let f = g.R.Rule.of_two in
    absorb_step f a.seats.partners.now a.seats.places.now a.list.now c.loop-j.out c.loop-j.j _ (omega arith) (omega arith) (omega arith)
    (elim c.if-is_some.branch [
      | then-is_some w ↦ w.out-is ∙ back w.combine.result w.combine.type_inv ∙ w.combine.ensures
          ∙ ap₂ f (back _ (search rules)) (back _ (search rules)) ∙ taken_shared f _ _ _ (sym c.is_some.ensures ∙ w.if-is_some.true)
      | else-is_some w ↦ w.out-is ∙ back _ (search rules) ∙ taken_alone f _ _ _ (sym c.is_some.ensures ∙ w.if-is_some.false)
    ])
    ∙ c.loop-j.invariant

pub returns : goal.returns
returns g c =
    let f = g.R.Rule.of_two in
    sym (absorb_end f c.args.seats.partners.now c.args.seats.places.now c.args.list.now c.loop-j.out c.loop-j.j (omega arith))
    ∙ c.loop-j.invariant
