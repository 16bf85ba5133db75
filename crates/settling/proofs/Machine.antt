-- What the machine reads back of a number that is far below its limit.
--   read      the number itself
-- Assumes nothing.
use mathlib.Core.Path.{◌≡◌}
use Prim.Native.Nat.{◌≤◌}
use native.Mathlib.Omega.{arith}
use lib.IntN.{ℤ, nat_abs}
use mir.Syntax.{w64}
use mir.Val.{to_z, of_z}
use mir.Facts.{to_z-of_z}
use Rattle.whole.proofs.Signed.{sfits_abs}

pub read : (z : ℤ) → nat_abs z ≤ 8589934592 → to_z w64 (of_z w64 z) ≡ z
read z h = to_z-of_z (sfits_abs z (omega arith))
