-- `search::sets::support_at` meets its contract: a vector without columns changes none. Assumes nothing.
use mathlib.Core.Path.{◌∙◌}
use Rattle.settling.specs.Moves.{vector}
use Rattle.settling.specs.Views.{vectors}
use Rattle.settling.proofs.Views.{vector_long}
use Rattle.search.proofs.Finding.{support_none}
use Rattle.search.proofs.sets.support_at.Goals as goal

pub returns-then-basis-eq0 : goal.returns-then-basis-eq0
returns-then-basis-eq0 c =
    support_none (vector (vectors c.args.basis) c.args.s) (vector_long c.args.basis c.args.s c.requires.0 ∙ c.if-basis-eq0.true)
