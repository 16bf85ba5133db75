-- Laws of the bit length.
--   lengths            some of them, computed
--   length_above       n < 2 ^ bit_length n
--   length_below       2 ^ (bit_length n − 1) ≤ n, for n above 0
--   length_least       no fewer digits hold n: n < 2 ^ j gives bit_length n ≤ j
--   length_reach       and the other way round, 2 ^ j ≤ n gives j < bit_length n
--   bits_some          a number above 0 has a digit
--   bits_half          a number of at most half of another has fewer digits
--   length_leading     the form of the machine: 64 less the count of leading zeros
-- Assumes nothing.
use mathlib.Core.Path.{◌≡◌, refl}
use Prim.Native.Nat.{ℕ, zero, suc, ◌+◌, ◌*◌, ◌-◌, ◌/◌, ◌^◌, ◌≤◌, ◌<◌}
use native.Mathlib.Nat.{pow-suc, lt_of_not-le, le_of_suc-le-suc}
use native.Mathlib.Omega.{arith}
use lib.Pow.{pow_mono}
use lib.Count.{count_leading_zeros, leading_unique}
use Rattle.whole.specs.BitLength.{bits_by, bit_length}

lengths : (bit_length 0 ≡ 0) × (bit_length 1 ≡ 1) × (bit_length 2 ≡ 2) × (bit_length 3 ≡ 2) × (bit_length 4 ≡ 3)
    × (bit_length 255 ≡ 8) × (bit_length 256 ≡ 9) × (bit_length 2147483647 ≡ 31)
unfolding bit_length bits_by
lengths = (refl, refl, refl, refl, refl, refl, refl, refl)

above : (d n : ℕ) → n ≤ d → n < 2 ^ bits_by d n
unfolding bits_by
above zero n h = omega arith
above (suc d) zero h = omega arith
above (suc d) (suc n) h = rw (pow-suc 2 (bits_by d (suc n / 2))) (omega (arith, above d (suc n / 2) (omega arith)))

-- for 0, which has no digit, 1
below : (d n : ℕ) → n ≤ d → 2 ^ bits_by d n ≤ 2 * n + (1 - n)
unfolding bits_by
below zero n h = omega arith
below (suc d) zero h = omega arith
below (suc d) (suc n) h = rw (pow-suc 2 (bits_by d (suc n / 2))) (omega (arith, below d (suc n / 2) (omega arith)))

pub length_above : (n : ℕ) → n < 2 ^ bit_length n
unfolding bit_length
length_above n = above n n (omega arith)

pub length_below : (n : ℕ) → 0 < n → 2 ^ (bit_length n - 1) ≤ n
unfolding bit_length bits_by
length_below zero h = absurd (omega arith)
length_below (suc n) h =
    let b : ℕ = bits_by n (suc n / 2) in
    let one_less : suc b - 1 ≡ b = omega arith in
    rw one_less (omega (arith, pow-suc 2 b, below (suc n) (suc n) (omega arith)))

pub length_reach : (j n : ℕ) → 2 ^ j ≤ n → j < bit_length n
length_reach j n h = lt_of_not-le (λ (g : bit_length n ≤ j). omega (arith, pow_mono g, length_above n))

pub length_least : (j n : ℕ) → n < 2 ^ j → bit_length n ≤ j
unfolding bit_length bits_by
length_least j zero h = omega arith
length_least j (suc n) h =
    le_of_suc-le-suc (lt_of_not-le (λ (g : j < bit_length (suc n)).
    let l : j ≤ bit_length (suc n) - 1 = omega arith in
    omega (arith, pow_mono l, length_below (suc n) (omega arith))))

pub bits_some : (p : ℕ) → 0 < p → 0 < bit_length p
bits_some p h = length_reach 0 p (omega arith)

pub bits_half : (k p : ℕ) → 0 < p → 2 * k ≤ p → bit_length k < bit_length p
unfolding bit_length bits_by
bits_half zero p h l = bits_some p h
bits_half (suc k) p h l =
    let b : ℕ = bits_by k (suc k / 2) in
    length_reach (suc b) p (omega (arith, pow-suc 2 b, below (suc k) (suc k) (omega arith)))

pub length_leading : (n : ℕ) → n < 2 ^ 64 → 64 - count_leading_zeros 64 n ≡ bit_length n
unfolding bit_length
length_leading n h =
    let l : bit_length n ≤ 64 = length_least 64 n h in
    let e : 64 - bit_length n ≡ count_leading_zeros 64 n =
    leading_unique 64 n (64 - bit_length n) (bit_length n) (omega arith) (length_above n) (omega (arith, below n n (omega arith))) in
    omega arith
