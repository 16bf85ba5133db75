-- Document 02, (v): "The ideal uses k, the whole part of (square root of low times high) / 1,000: k + 1 exactly if k(k + 1) × 1,000,000 < low × high,
-- and 1 for k = 0."
--   raised p k t          t, if t × t × 1,000,000 is at most p; else k
--   root_bits b p k       k with those of the b lowest bits, the largest first, that keep k × k × 1,000,000 at most p
--   whole_root p          "k, the whole part of (square root of low times high) / 1,000", of the product p of the two, by its twenty bits
--   ideal_from p k        "k + 1 exactly if k(k + 1) × 1,000,000 < low × high, and 1 for k = 0"; else k
--   goal_ideal low high   the ideal of a low and a high goal, before it is brought into the bounds
-- What the root by its bits means:
--   max_product           the most that two goals multiply to
--   IsRoot p k            k × k × 1,000,000 ≤ p < (k + 1) × (k + 1) × 1,000,000
--   RootIs                the whole root is that number, of every product of two goals
--   RootAlone             and no other is
-- The theorems are `root_is` and `root_alone`, in proofs/Roots.
-- Assumes nothing.
use Rattle.std.specs.Prelude.{◌≡◌, cond, ℕ, zero, suc, ◌+◌, ◌*◌, ◌^◌, ◌≤◌, ◌<◌, leb, ltb}
use Rattle.problem.specs.Limits.{max_goal}

abbrev pub raised : ℕ → ℕ → ℕ → ℕ
raised p k t = cond (leb (t * t * 1000000) p) t k

unfoldable pub root_bits : ℕ → ℕ → ℕ → ℕ
root_bits zero p k = k
root_bits (suc b) p k = root_bits b p (raised p k (k + 2 ^ b))

unfoldable pub whole_root : ℕ → ℕ
whole_root p = root_bits 20 p 0

abbrev pub ideal_from : ℕ → ℕ → ℕ
ideal_from p zero = 1
ideal_from p (suc k) = cond (ltb (suc k * (suc k + 1) * 1000000) p) (suc k + 1) (suc k)

unfoldable pub goal_ideal : ℕ → ℕ → ℕ
goal_ideal low high = ideal_from (low * high) (whole_root (low * high))

-- ---- what the root means
abbrev pub max_product : ℕ
max_product = max_goal * max_goal

pub record IsRoot (p k : ℕ) : Type 0 where
  pub low : k * k * 1000000 ≤ p
  pub high : p < (k + 1) * (k + 1) * 1000000

abbrev pub RootIs : Type 0
RootIs = (p : ℕ) → p ≤ max_product → IsRoot p (whole_root p)

abbrev pub RootAlone : Type 0
RootAlone = (p k j : ℕ) → IsRoot p k → IsRoot p j → k ≡ j
