-- `joining::join` meets its contract: each test that fails names its cause, and past them what is left of the joined problem is what is left.
-- Assumes nothing.
use Rattle.std.proofs.Common.{rules, ◌≡◌, sym, ◌∙◌, ap, Ok}
use borrow.Author.Tests.{eq-eqb, ne_eqb}
use lib.Seq.{length-take-le}
use Rattle.problem.specs.Checks.{Check}
use Rattle.pairing.specs.Parts.{Part, part_of, lent_lists, mut_lists, part_cause}
use Rattle.pairing.specs.Pairs.{matched}
use Rattle.joining.proofs.Causes.{join_refused, first_fails, second_fails, odd_fails, pair_fails}
use Rattle.joining.proofs.Paired.{part_long, part_few, pairing_of, none_below, join_rest}
use Rattle.joining.proofs.join.Goals as goal

pub returns-in_err-part_cause-clause-left : goal.returns-in_err-part_cause-clause-left
returns-in_err-part_cause-clause-left c =
    let a = c.args in
    let P : Part = part_of a.first.sizes (lent_lists a.first.lists) in
    let Q : Part = part_of a.second.sizes (lent_lists a.second.lists) in
    join_refused P Q a.pairs.now (mut_lists a.out.now) (search rules)
    (first_fails P Q a.pairs.now (mut_lists a.out.now) (sym c.part_cause.ensures ∙ c.in_err-part_cause.was))

pub returns-in_err-part_cause-2-clause-left : goal.returns-in_err-part_cause-2-clause-left
returns-in_err-part_cause-2-clause-left c =
    let a = c.args in
    let P : Part = part_of a.first.sizes (lent_lists a.first.lists) in
    let Q : Part = part_of a.second.sizes (lent_lists a.second.lists) in
    join_refused P Q a.pairs.now (mut_lists a.out.now) (search rules)
    (second_fails P Q a.pairs.now (mut_lists a.out.now) (search rules) (sym c.part_cause-2.ensures ∙ c.in_err-part_cause-2.was))

pub returns-then-pairs-ne0-clause-left : goal.returns-then-pairs-ne0-clause-left
returns-then-pairs-ne0-clause-left c =
    let a = c.args in
    let P : Part = part_of a.first.sizes (lent_lists a.first.lists) in
    let Q : Part = part_of a.second.sizes (lent_lists a.second.lists) in
    join_refused P Q a.pairs.now (mut_lists a.out.now) (search rules)
    (odd_fails P Q a.pairs.now (mut_lists a.out.now) (search rules) (search rules) (ne_eqb _ _ c.if-pairs-ne0.true))

pub slice_bounds-partners-end : goal.slice_bounds-partners-end
slice_bounds-partners-end c = (part_few c.args.second.sizes (lent_lists c.args.second.lists) (search rules)).0

pub slice_bounds-partners-end-2 : goal.slice_bounds-partners-end-2
slice_bounds-partners-end-2 c = sym (length-take-le _ _ (part_few c.args.second.sizes (lent_lists c.args.second.lists) (search rules)).0)

pub pair_up-requires : goal.pair_up-requires
pair_up-requires c =
    let a = c.args in
    let f = part_long a.first.sizes (lent_lists a.first.lists) (search rules) in
    let g = part_long a.second.sizes (lent_lists a.second.lists) (search rules) in
    record {
      upper_len = (f.upper ∙ sym f.lower, g.upper ∙ sym g.lower);
      partners_len = length-take-le _ _ (part_few a.second.sizes (lent_lists a.second.lists) (search rules)).0 ∙ sym g.lower;
    }

pub returns-in_err-pair_up-clause-left : goal.returns-in_err-pair_up-clause-left
returns-in_err-pair_up-clause-left c =
    let a = c.args in
    let P : Part = part_of a.first.sizes (lent_lists a.first.lists) in
    let Q : Part = part_of a.second.sizes (lent_lists a.second.lists) in
    let e = pairing_of P Q a.pairs.now (part_few a.second.sizes (lent_lists a.second.lists) (search rules)).0 c.pair_up.ensures in
    join_refused P Q a.pairs.now (mut_lists a.out.now) (search rules)
    (pair_fails P Q a.pairs.now (mut_lists a.out.now) (search rules) (search rules) (eq-eqb _ _ c.if-pairs-ne0.false)
    ((λ i. (e i).found) ∙ c.in_err-pair_up.was))

pub join_paired-requires : goal.join_paired-requires
join_paired-requires c =
    let a = c.args in
    let P : Part = part_of a.first.sizes (lent_lists a.first.lists) in
    let Q : Part = part_of a.second.sizes (lent_lists a.second.lists) in
    let p : part_cause P ≡ Ok tt = search rules in
    let q : part_cause Q ≡ Ok tt = search rules in
    let f = part_few a.first.sizes (lent_lists a.first.lists) p in
    let g = part_few a.second.sizes (lent_lists a.second.lists) q in
    let h : c.pair_up.result ≡ Ok tt = search rules in
    let e = pairing_of P Q a.pairs.now g.0 c.pair_up.ensures in
    record {
      first_long = part_long a.first.sizes (lent_lists a.first.lists) p;
      second_long = part_long a.second.sizes (lent_lists a.second.lists) q;
      few = (f.0, g.0, f.1, g.1);
      partners_len = c.pair_up.auto.partners ∙ length-take-le _ _ g.0;
      all_below = none_below P Q a.pairs.now p q (e ∙ ap (λ (r : Check). matched r c.pair_up.new.partners) h);
    }

pub returns-clause-left : goal.returns-clause-left
returns-clause-left c =
    let a = c.args in
    let P : Part = part_of a.first.sizes (lent_lists a.first.lists) in
    let Q : Part = part_of a.second.sizes (lent_lists a.second.lists) in
    let q : part_cause Q ≡ Ok tt = search rules in
    let h : c.pair_up.result ≡ Ok tt = search rules in
    let e = pairing_of P Q a.pairs.now (part_few a.second.sizes (lent_lists a.second.lists) q).0 c.pair_up.ensures in
    c.join_paired.ensures.left ∙ join_rest P Q a.pairs.now (search rules) q (e ∙ ap (λ (r : Check). matched r c.pair_up.new.partners) h)
    (mut_lists a.out.now) (eq-eqb _ _ c.if-pairs-ne0.false)
