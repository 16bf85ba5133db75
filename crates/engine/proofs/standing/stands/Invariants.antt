-- What holds at each turn of `engine::standing::stands`: the rows passed are kept. Assumes nothing.
use Rattle.whole.proofs.Counted.{SoFar}
use Rattle.problem.specs.Limits.{M}
use Rattle.problem.specs.Checks.{all_span}
use Rattle.engine.specs.Standing.{keeps_row}
use Rattle.std.proofs.Common.{◌≡◌, true}
use Rattle.engine.proofs.standing.stands.Given as goal

abbrev pub invariant-loop-i : goal.invariant-loop-i
invariant-loop-i l =
    SoFar l.fn.p.rows (keeps_row l.fn.p.columns l.lists.coefficients.now l.lists.rights.now l.values) l.i × (all_span M l.values ≡ true)
