-- Cosets of a row span: u and v are of one coset of T if `Span T (minus u v)`.
--   Describes n Q s N  the lists of n numbers with the property Q are s and the whole combinations of N added to it; N is in Hermite form and s is
--                      reduced by it
-- Assumes nothing.
use Rattle.std.specs.Prelude.{◌≡◌, ◌↔◌, List, ℕ, length, ℤ}
use Rattle.lattice.specs.Rows.{minus}
use Rattle.lattice.specs.Span.{Span}
use Rattle.lattice.specs.Hermite.{Echelon, width, rows, Reduced, Hermite}

pub record Describes (n : ℕ) (Q : List ℤ → Type 0) (s : List ℤ) (N : List (List ℤ)) : Type 0 where
  pub form : Echelon
  pub wide : width form ≡ n
  pub hermite : Hermite form
  pub is : N ≡ rows form
  pub long : length s ≡ n
  pub reduced : Reduced form s
  pub set : (x : List ℤ) → length x ≡ n → Q x ↔ Span N (minus x s)
