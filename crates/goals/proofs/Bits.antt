-- Laws of the whole root's bits, as the code's loop meets them.
--   bits_start, bits_step, bits_end    `root_bits` for a loop that counts the bits down from 20
--   bits_trial, bits_room              what is still to come keeps the trial, and the next k, below 2^20
--   trial_room                         so that the trial's product is below 2^63
--   root_turns                         those of a turn of the loop
-- Assumes nothing.
use mathlib.Core.Path.{◌≡◌, refl, ap}
use mathlib.Core.Bool.{Bool, true, false, cond}
use Prim.Native.Nat.{ℕ, zero, suc, ◌+◌, ◌*◌, ◌-◌, ◌^◌, ◌≤◌, ◌<◌}
use native.Mathlib.Nat.{mul-le-mul, pow-suc}
use native.Mathlib.Omega.{arith}
use lib.Dec.{leb}
use lib.Pow.{pow_mono}
use Rattle.goals.specs.Ideals.{raised, root_bits, whole_root}

-- ---- the bits
pub bits_start : (p : ℕ) → root_bits 20 p 0 ≡ whole_root p
unfolding whole_root
bits_start p = refl

pub bits_step : (b p k : ℕ) → 0 < b → root_bits (b - 1) p (raised p k (k + 2 ^ (b - 1))) ≡ root_bits b p k
unfolding root_bits
bits_step zero p k h = absurd (omega arith)
bits_step (suc b) p k h =
    let e : suc b - 1 ≡ b = omega arith in
    ap (λ (m : ℕ). root_bits m p (raised p k (k + 2 ^ m))) e

pub bits_end : (p b k : ℕ) → b ≤ 0 → root_bits b p k ≡ k
unfolding root_bits
bits_end p zero k h = refl
bits_end p (suc b) k h = absurd (omega arith)

-- two of the next power make this one
halves : (b : ℕ) → 0 < b → (2 ^ b ≡ 2 ^ (b - 1) + 2 ^ (b - 1)) × (0 < 2 ^ (b - 1))
halves zero h = absurd (omega arith)
halves (suc b) h =
    let e : suc b - 1 ≡ b = omega arith in
    rw e (omega (arith, pow-suc 2 b), pow_mono {i = 0} {j = b} (omega arith))

pub bits_trial : (b k : ℕ) → 0 < b → k + 2 ^ b ≤ 2 ^ 20 → k + 2 ^ (b - 1) < 2 ^ 20
bits_trial b k h l = omega (arith, (halves b h).0, (halves b h).1)

pub bits_room : (b p k : ℕ) → 0 < b → k + 2 ^ b ≤ 2 ^ 20 → raised p k (k + 2 ^ (b - 1)) + 2 ^ (b - 1) ≤ 2 ^ 20
bits_room b p k h l = go (leb ((k + 2 ^ (b - 1)) * (k + 2 ^ (b - 1)) * 1000000) p)
  where
    go : (t : Bool) → cond t (k + 2 ^ (b - 1)) k + 2 ^ (b - 1) ≤ 2 ^ 20
    go true = omega (arith, (halves b h).0)
    go false = omega (arith, (halves b h).0)

pub trial_room : (t : ℕ) → t < 2 ^ 20 → t * t * 1000000 ≤ 1099509530625000000
trial_room t h =
    let l : t ≤ 1048575 = omega arith in
    omega (arith, mul-le-mul l l)

pub ruleset root_turns = (bits_start, bits_step, bits_end, bits_room)
