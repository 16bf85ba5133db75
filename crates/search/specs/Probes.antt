-- The tests of one move: which columns pass under it.
--   Covered n f w          the places of the set w are below n, and f fails at the others of n
--   Blocking n f r         r is a blocking column, at which f fails, or there is none and f holds at all n
-- Assumes nothing.
use Rattle.std.specs.Prelude.{◌≡◌, Bool, true, false, ℕ, ◌<◌, Option, Some, None}
use Rattle.whole.specs.Tests.{every}
use Rattle.search.specs.Sets.{has}

pub record Covered (n : ℕ) (f : ℕ → Bool) (w : ℕ) : Type 0 where
  pub inside : (j : ℕ) → has w j ≡ true → j < n
  pub outside : (j : ℕ) → j < n → has w j ≡ false → f j ≡ false

abbrev pub Blocking : ℕ → (ℕ → Bool) → Option ℕ → Type 0
Blocking n f None = every n f ≡ true
Blocking n f (Some k) = (k < n) × (f k ≡ false)
