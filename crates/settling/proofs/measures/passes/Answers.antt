-- `settling::measures::passes` meets its contract: a column that is measured has a value that can be. Assumes nothing.
use mathlib.Core.Path.{sym, ◌∙◌}
use Rattle.settling.proofs.Sizes.{allowed_sized, measure_room}
use Rattle.settling.proofs.measures.passes.Goals as goal

pub below-requires : goal.below-requires
below-requires c =
    let a = c.args in
    let sized = allowed_sized a.part a.c c.requires.0 (sym c.is_allowed.ensures ∙ c.if-is_allowed.true) in
    (rw c.measure.ensures (measure_room a.part a.c sized), c.requires.1)
