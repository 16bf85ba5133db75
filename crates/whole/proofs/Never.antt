-- What cannot be.
--   never    what follows where two constructors are told to be equal: `cc` then has 0 equal to 1
--   untrue   what follows where a test that fails is told to hold
-- Assumes nothing.
use mathlib.Core.Path.{◌≡◌}
use mathlib.Core.Bool.{true, false, false≢true}
use Prim.Native.Nat.{ℕ}
use native.Mathlib.Omega.{arith}

pub never : {A : Type 0} → ◌≡◌ {A = ℕ} 0 1 → A
never e = absurd (omega arith)

pub untrue : {A : Type 0} → false ≡ true → A
untrue e = absurd (false≢true e)
