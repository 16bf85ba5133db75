-- What holds at each turn of `pairing::pairs::pair_up`: the pairs left, with the partners so far, end as all of them do. Assumes nothing.
use Rattle.std.proofs.Common.{◌≡◌, length}
use Rattle.pairing.specs.Pairs.{bounds, pair_up}
use Rattle.pairing.proofs.pairs.pair_up.Given as goal

abbrev pub invariant-loop-rest : goal.invariant-loop-rest
invariant-loop-rest l =
    pair_up (bounds l.first.lower.now l.first.upper.now) (bounds l.second.lower.now l.second.upper.now) l.rest l.partners
    ≡ pair_up (bounds l.first.lower.now l.first.upper.now) (bounds l.second.lower.now l.second.upper.now) l.fn.pairs l.initial.partners

abbrev pub decreases-loop-rest : goal.decreases-loop-rest
decreases-loop-rest l = length l.rest
