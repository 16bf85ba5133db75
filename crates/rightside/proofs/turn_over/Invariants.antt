-- What holds at each turn of `rightside::turn_over`. Assumes nothing.
use mathlib.Core.List.{◌++◌}
use lib.ListN.{length, drop}
use Rattle.lattice.specs.Rows.{neg}
use Rattle.whole.proofs.Writing.{WrittenTo}
use Rattle.rightside.proofs.turn_over.Given as goal

abbrev pub invariant-loop-i : goal.invariant-loop-i
invariant-loop-i l = WrittenTo l.fn.v (neg l.rights ++ drop (length l.rights) l.fn.v) l.v l.i
