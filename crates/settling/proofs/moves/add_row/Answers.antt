-- `settling::moves::add_row` meets its contract: each value gets its share of the row. Assumes nothing.
use native.Mathlib.Omega.{arith}
use mir.Syntax.{w64}
use mir.Val.{to_z, of_z}
use mir.Facts.{to_z-of_z}
use Rattle.settling.proofs.Adding.{added_turn}
use Rattle.settling.proofs.moves.add_row.Goals as goal

pub loop-j-preserved : goal.loop-j-preserved
loop-j-preserved c =
    added_turn (to_z w64 (of_z w64 c.args.a)) c.args.row.now c.args.values.now c.requires.0 c.loop-j.values c.loop-j.j c.loop-j.invariant c.args.a
    (to_z-of_z c.ranges.a) (omega arith) (omega (arith, c.requires.1)) (c.requires.2 c.loop-j.j) (c.requires.3 c.loop-j.j)
