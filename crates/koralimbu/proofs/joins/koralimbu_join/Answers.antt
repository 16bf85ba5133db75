-- `koralimbu::joins::koralimbu_join` meets its contract: the call's numbers are those of the two parts and of the lent lists. Assumes nothing.
use Rattle.std.proofs.Common.{rules, ◌∙◌}
use Rattle.pairing.specs.Parts.{lists}
use Rattle.koralimbu.specs.Joins.{join_called}
use Rattle.koralimbu.proofs.JoinLaws.{lists_same, returned_in}
use Rattle.koralimbu.proofs.joins.koralimbu_join.Goals as goal

pub returns : goal.returns
returns c =
    let a = c.args in
    let B = lists a.a.now a.b.now a.lo.now a.hi.now a.low.now a.high.now a.given.now a.ideals.now in
    returned_in (c.join_parts.ensures.returned ∙ (λ i. join_called (c.part-first.ensures i) (c.part-second.ensures i) a.pairs.now B a.sizes.now))
    (lists_same (search rules) (search rules) (search rules) (search rules) (search rules) (search rules) (search rules) (search rules))
