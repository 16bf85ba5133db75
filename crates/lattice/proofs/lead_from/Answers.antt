-- `lattice::lead_from` meets its contract: from its place on the loop passes the zeros, and what is left has its lead one place nearer each time.
-- Assumes nothing.
use Rattle.std.proofs.Common.{rules, arith, ◌≡◌, ◌∙◌, sym, nat_abs, SFits, w64}
use Rattle.std.proofs.lemmas.Int.{ints}
use Rattle.whole.specs.Lists.{entry}
use Rattle.lattice.proofs.Scanning.{lead_on, lead_at_lem, lead_past}
use Rattle.lattice.proofs.lead_from.Goals as goal

pub returns-then-row-i-ne0 : goal.returns-then-row-i-ne0
returns-then-row-i-ne0 c =
    let f : SFits w64 (entry c.loop-i.i c.args.row.now) = search rules in
    lead_at_lem _ _ c.loop-i-test.true (λ e. omega (arith, ints)) ∙ c.loop-i.invariant

pub loop-i-preserved : goal.loop-i-preserved
loop-i-preserved c =
    let f : SFits w64 (entry c.loop-i.i c.args.row.now) = search rules in
    let e : nat_abs (entry c.loop-i.i c.args.row.now) ≡ 0 = omega (arith, ints) in
    sym (lead_on _ _ c.loop-i-test.true e) ∙ c.loop-i.invariant

pub returns : goal.returns
returns c = c.max.ensures ∙ lead_past _ _ c.args.from c.loop-i-test.false c.loop-i.auto.i-end c.loop-i.invariant
