-- `sections::rules::spanning` meets its contract: k and −k fit. Assumes nothing.
use Rattle.std.proofs.Common.{arith, ◌≡◌, ◌<◌, ◌^◌, to_z, of_z, w64, pos, neg_ℤ, ◌-ℤ◌, ℕ, zero, suc}
use Rattle.std.proofs.Math.Facts.{to_z-of_z, to_z_pos}
use mir.Val.{SFits}
use lib.IntN.{+ℤ_idl}
use Rattle.sections.proofs.rules.spanning.Goals as goal

fits : (k : ℕ) → k < 2 ^ 63 → SFits w64 (neg_ℤ (pos k))
fits zero h = record { sfits = omega arith }
fits (suc k) h = record { sfits = omega arith }

negated : (k : ℕ) → k < 2 ^ 63 → to_z w64 (of_z w64 (pos 0 -ℤ to_z w64 k)) ≡ neg_ℤ (pos k)
negated k h = let p : to_z w64 k ≡ pos k = to_z_pos w64 h in rw (p, +ℤ_idl (neg_ℤ (pos k))) (to_z-of_z (fits k h))

pub returns : goal.returns
returns c = rw (negated c.args.k c.requires, to_z_pos w64 c.requires) at c.within.ensures.read
