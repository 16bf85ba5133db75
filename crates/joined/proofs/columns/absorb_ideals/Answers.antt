-- `joined::columns::absorb_ideals` meets its contract: the ideals and marks taken so far and those left make the lists. Assumes nothing.
use Rattle.std.proofs.Common.{arith, rules, sym, ◌∙◌, ◌≡◌, ◌⊎◌, inl, inr, get_or, is_some, None, true, false}
use Rattle.whole.specs.Lists.{entry}
use Rattle.whole.specs.Tests.{is_zero}
use Rattle.whole.proofs.Signed.{back}
use Rattle.joined.specs.Columns.{set_first}
use Rattle.joined.proofs.Laying.{absorb_step, absorb_end, ideals_step, ideals_kept, ideals_end, mark_comes, ideal_comes}
use Rattle.joined.proofs.columns.absorb_ideals.Goals.{else-is_some-via-then-is_some+else-given-p-ne0, else-is_some-via-else-is_some}
use Rattle.joined.proofs.columns.absorb_ideals.Goals as goal

pub loop-j-preserved-then-given-p-ne0 : goal.loop-j-preserved-then-given-p-ne0
loop-j-preserved-then-given-p-ne0 c =
    let a = c.args in
    let l = c.loop-j in
    let s =
    ideals_kept a.seats.partners.now a.seats.places.now a.given2.now a.ideals2.now l.given l.ideals l.j (omega arith) (omega arith) (omega arith)
    (omega arith) (search rules) (search rules) in (s.0 ∙ l.invariant.0, s.1 ∙ l.invariant.1)

pub loop-j-preserved : goal.loop-j-preserved
loop-j-preserved c =
    let a = c.args in
    let l = c.loop-j in
    let new : (is_some (get_or a.seats.partners.now l.j None) ≡ false) ⊎ (is_zero (entry (get_or a.seats.places.now l.j 0) l.given) ≡ true) =
    elim c.else-is_some.branch [
      | else-is_some-via-then-is_some+else-given-p-ne0 w ↦ inr (search rules)
      | else-is_some-via-else-is_some w ↦ inl (search rules)
    ] in (
      absorb_step set_first a.seats.partners.now a.seats.places.now a.given2.now l.given l.j _ (omega arith) (omega arith) (omega arith)
          (back _ (search rules) ∙ mark_comes _ _ _ new) ∙ l.invariant.0,
      ideals_step a.seats.partners.now a.seats.places.now a.given2.now a.ideals2.now l.given l.ideals l.j _ _ (omega arith) (omega arith)
          (omega arith) (omega arith) (back _ (search rules) ∙ mark_comes _ _ _ new) (back _ (search rules) ∙ ideal_comes _ _ _ _ new)
          ∙ l.invariant.1,
    )

pub returns : goal.returns
returns c = let a = c.args in let l = c.loop-j in record {
  given_after = sym (absorb_end set_first a.seats.partners.now a.seats.places.now a.given2.now l.given l.j (omega arith)) ∙ l.invariant.0;
  ideals_after = sym (ideals_end a.seats.partners.now a.seats.places.now a.given2.now a.ideals2.now l.given l.ideals l.j (omega arith))
      ∙ l.invariant.1;
}
