-- Document 01, **Stride** of a column: what the strides that a call leaves say of the lists that satisfy the rows, with no basis in it.
--   DividesAll P j c   c divides the difference in column j of any two lists that satisfy the rows of P: they differ there by a multiple of c
--   StrideOf P j d     d is the greatest such number: it divides all these differences, and whatever does divides it
--   AssignStrides      the stride of a column, as a whole assignment with a verdict leaves it, is that number
--   ContinueStrides    and so it is as a Continue with a verdict leaves it
-- Assumes nothing.
use Rattle.std.specs.Prelude.{◌≡◌, true, List, ℕ, ◌<◌, ℤ, nat_abs, ◌-ℤ◌, get_or}
use Rattle.std.specs.Int.{◌∣◌}
use Rattle.whole.specs.Lists.{entry}
use Rattle.problem.specs.Answers.{is_verdict}
use Rattle.problem.specs.Checks.{Posed}
use Rattle.engine.specs.Assign.{Buffers, n, assign, continue}
use Rattle.engine.specs.Demand.{SatisfiesRows}

abbrev pub DividesAll : Posed → ℕ → ℕ → Type 0
DividesAll P j c = (x y : List ℤ) → SatisfiesRows P x → SatisfiesRows P y → c ∣ nat_abs (entry j x -ℤ entry j y)

pub record StrideOf (P : Posed) (j d : ℕ) : Type 0 where
  pub divides : DividesAll P j d
  pub greatest : (c : ℕ) → DividesAll P j c → c ∣ d

abbrev pub AssignStrides : Type 0
AssignStrides =
    (P : Posed) (B : Buffers) → is_verdict (assign P B).answer ≡ true
    → (j : ℕ) → j < n P → StrideOf P j (get_or (assign P B).strides j 0)

abbrev pub ContinueStrides : Type 0
ContinueStrides =
    (P : Posed) (B : Buffers) → is_verdict (continue P B).answer ≡ true
    → (j : ℕ) → j < n P → StrideOf P j (get_or (continue P B).strides j 0)
