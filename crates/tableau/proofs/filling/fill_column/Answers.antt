-- `tableau::filling::fill_column` meets its contract: from the left, the number of row i at column j is stored at i. Assumes nothing.
use mathlib.Core.Path.{sym}
use native.Mathlib.Omega.{arith}
use Prim.Native.Nat.{◌+◌, ◌*◌}
use lib.ListN.{length}
use mir.Syntax.{w64}
use mir.Facts.{to_z-of_z}
use Rattle.std.specs.Int.RustNames.{FitsSigned}
use Rattle.std.proofs.Common.{rules}
use Rattle.whole.specs.Lists.{entry}
use Rattle.whole.proofs.Writing.{starts, ends}
use Rattle.tableau.proofs.Tableaus.{column_length, column_on}
use Rattle.tableau.proofs.filling.fill_column.Goals as goal

pub loop-i-init : goal.loop-i-init
loop-i-init c = starts (sym (column_length _ _ _ _))

pub loop-i-preserved : goal.loop-i-preserved
loop-i-preserved c =
    let a = c.args in
    column_on a.coefficients.now c.loop-i.invariant c.loop-i-test.true c.requires.1
    (let f : FitsSigned w64 (entry (c.loop-i.i * a.n + a.j) a.coefficients.now) = search rules in to_z-of_z f)

pub returns : goal.returns
returns c = let a = c.args in ends c.loop-i.invariant (omega (arith, column_length a.j (length a.to.now) a.n a.coefficients.now))
