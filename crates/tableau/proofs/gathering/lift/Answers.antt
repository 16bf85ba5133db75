-- `tableau::gathering::lift` meets its contract: row j is swapped to the top, raised there, and copied. Assumes nothing.
use mathlib.Core.Path.{sym, subst}
use Prim.Native.Nat.{◌*◌}
use native.Mathlib.Omega.{arith}
use lib.ListN.{length, drop}
use lib.Seq.{length-take-le}
use Rattle.tableau.specs.Within.{Within}
use Rattle.tableau.proofs.Within.{within_take, within_drop}
use Rattle.tableau.proofs.Lifting.{top_row}
use Rattle.tableau.proofs.gathering.lift.Goals as goal

pub raise-requires : goal.raise-requires
raise-requires c =
    let w = length c.args.pivot.now in
    let at = c.args.j * w in (
      omega (arith, length-take-le w c.bring.new.t (omega (arith, c.bring.auto.t))),
      subst Within (sym (top_row w c.args.j c.args.t.now c.requires.c_in_bounds.1 c.bring.ensures))
          (within_take w (drop at c.args.t.now) (within_drop at c.args.t.now c.requires.within)),
    )
