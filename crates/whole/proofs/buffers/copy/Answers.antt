-- `whole::buffers::copy` meets its contract: from the left, each number of the one row is stored in the other. Assumes nothing.
use Rattle.std.proofs.Common.{rules}
use Rattle.whole.proofs.Writing.{goes_on}
use Rattle.whole.proofs.buffers.copy.Goals as goal

pub loop-i-preserved : goal.loop-i-preserved
loop-i-preserved c = goes_on c.loop-i.invariant c.loop-i-test.true (search rules)
