-- Buffers of any element that are overwritten from a place on.
--   overwritten o at w   the buffer o with the list w in place of what stood from at on
--   Wrote o at w r p     w is written into o from the place at on: the buffer is then p, and the place after w is r
-- Assumes nothing.
use Rattle.std.specs.Prelude.{◌≡◌, List, ◌++◌, ℕ, ◌+◌, length, take, drop}

abbrev pub overwritten : {A : Type 0} → List A → ℕ → List A → List A
overwritten o at w = take at o ++ (w ++ drop (at + length w) o)

pub record Wrote (o : List ℕ) (at : ℕ) (w : List ℕ) (r : ℕ) (p : List ℕ) : Type 0 where
  pub next : r ≡ at + length w
  pub text : p ≡ overwritten o at w
