-- What falls at each call of `whole::divisor`. Assumes nothing.
use Rattle.whole.proofs.+divisor.Given as goal

abbrev pub decreases-divisor : goal.decreases-divisor
decreases-divisor l = l.b
