-- `pairing::pairs::pair_up` meets its contract: a pair that is free sets its partner. Assumes nothing.
use Rattle.std.proofs.Common.{rules, ◌∙◌}
use Rattle.pairing.specs.Pairs.{bounds}
use Rattle.pairing.proofs.Walking.{pairs_next}
use Rattle.pairing.proofs.pairs.pair_up.Goals as goal

pub loop-rest-preserved : goal.loop-rest-preserved
loop-rest-preserved c =
    pairs_next (bounds c.args.first.lower.now c.args.first.upper.now) (bounds c.args.second.lower.now c.args.second.upper.now) c.loop-rest.rest.now
    c.loop-rest.partners (search rules) (search rules) (search rules) ∙ c.loop-rest.invariant
