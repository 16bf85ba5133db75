-- `goals::whole_root` meets its contract: the next bit is below the ones before. Assumes nothing.
use native.Mathlib.Omega.{arith}
use Rattle.goals.proofs.Bits.{bits_trial}
use Rattle.goals.proofs.whole_root.Goals as goal

pub with_bit-k-requires : goal.with_bit-k-requires
with_bit-k-requires c = (omega arith, bits_trial c.loop-b.b c.loop-b.k (omega arith) c.loop-b.invariant.1)
