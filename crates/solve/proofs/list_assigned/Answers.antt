-- `solve::list_assigned` meets its contract: the parts of its blank buffers are those of the definition. Assumes nothing.
use Rattle.std.proofs.Common.{◌∙◌}
use Rattle.problem.specs.Checks.{posed}
use Rattle.sections.specs.StatedColumns.{blank}
use Rattle.solve.proofs.Laws.{clear_strides, listed_into}
use Rattle.solve.proofs.list_assigned.Goals as goal

pub returns : goal.returns
unfolding blank clear_strides
returns c = c.list_in.ensures ∙ listed_into c.args.out.now (posed c.args.p c.args.lists) c.requires.0 c.requires.1
