-- What holds at each turn of `whole::buffers::copy`. Assumes nothing.
use Rattle.whole.proofs.Writing.{WrittenTo}
use Rattle.whole.proofs.buffers.copy.Given as goal

abbrev pub invariant-loop-i : goal.invariant-loop-i
invariant-loop-i l = WrittenTo l.initial.to l.from l.to l.i
