-- Generator rows with a right side, apart from the problem they come from: m columns of a head, n columns of a tail. And what is found for a set.
--   Generators n m T v   the rows of T have m + n numbers and are independent; so has the right side v
--   Reaches n m T v x    x has n numbers, and (m zeros, x) − v is a whole combination of the rows: x is one of the lists that T and v reach
--   Tells n Q a          a, what is found, tells the set Q: it is "none" where no list of n numbers has the property Q, and otherwise its starting
--                        list and basis describe those that have it
--   Sized n A b          the rows of the matrix A have n numbers, and there is one right side for each
-- Assumes nothing.
use Rattle.std.specs.Prelude.{◌≡◌, List, ◌++◌, ℕ, ◌+◌, ℤ, length}
use Rattle.whole.specs.Lists.{zeros}
use Rattle.lattice.specs.Rows.{minus}
use Rattle.lattice.specs.Span.{All, Len, Span, Independent}
use Rattle.lattice.specs.Coset.{Describes}
use Rattle.tableau.specs.RightSide.{Found, none, some}

pub record Generators (n m : ℕ) (T : List (List ℤ)) (v : List ℤ) : Type 0 where
  pub wide : All (Len (m + n)) T
  pub independent : Independent (m + n) T
  pub long : length v ≡ m + n

pub record Reaches (n m : ℕ) (T : List (List ℤ)) (v x : List ℤ) : Type 0 where
  pub long : length x ≡ n
  pub spans : Span T (minus (zeros m ++ x) v)

abbrev pub Tells : ℕ → (List ℤ → Type 0) → Found → Type 0
Tells n Q none = (x : List ℤ) → length x ≡ n → Q x → ⊥
Tells n Q (some s N) = Describes n Q s N

pub record Sized (n : ℕ) (A : List (List ℤ)) (b : List ℤ) : Type 0 where
  pub wide : All (Len n) A
  pub long : length b ≡ length A
