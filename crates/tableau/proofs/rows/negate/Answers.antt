-- `tableau::rows::negate` meets its contract: from the left, each number is replaced by its negative. Assumes nothing.
use Rattle.std.proofs.Common.{sym, arith}
use Rattle.lattice.proofs.RowLaws.{length_neg}
use Rattle.whole.proofs.Writing.{starts, ends}
use Rattle.tableau.proofs.Written.{negated_fits, negated_on}
use Rattle.tableau.proofs.rows.negate.Goals as goal

pub loop-x-init : goal.loop-x-init
loop-x-init c = starts (sym (length_neg _))

pub overflow_sub-x : goal.overflow_sub-x
overflow_sub-x c = negated_fits c.loop-x.invariant c.requires c.loop-x-test.true

pub loop-x-preserved : goal.loop-x-preserved
loop-x-preserved c = negated_on c.loop-x.invariant c.requires c.loop-x-test.true

pub returns : goal.returns
returns c = ends c.loop-x.invariant (omega (arith, length_neg c.args.row.now))
