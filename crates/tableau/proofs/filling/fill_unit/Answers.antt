-- `tableau::filling::fill_unit` meets its contract: zeros, with a 1 at j. Assumes nothing.
use mathlib.Core.Path.{◌∙◌, ap}
use mathlib.Core.List.{List}
use lib.IntN.{ℤ, pos}
use lib.ListN.{length, set}
use Rattle.tableau.proofs.Tableaus.{unit_set}
use Rattle.tableau.proofs.filling.fill_unit.Goals as goal

pub returns : goal.returns
returns c =
    ap (λ (l : List ℤ). set l c.args.j (pos 1)) (c.fill.ensures.after (λ y e. e))
    ∙ unit_set (length c.args.to.now) c.args.j c.requires
