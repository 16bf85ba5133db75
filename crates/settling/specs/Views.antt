-- A basis as it lies in a slice.
--   Basis              the slice, and how: a number of vectors of `columns` numbers, each `stride` after the last (declared in src/, with the fact
--                      `laid` that they lie in the slice and that no number of it lies beyond ±M)
--   rows_of r n w l    r rows of n numbers, each w after the last
--   vectors B          the vectors of the basis B
--   OfBasis r o        the move o adds or takes away vectors of the first r
-- Assumes nothing.
use Rattle.std.specs.Prelude.{List, [], ◌∷◌, ℕ, zero, suc, ◌<◌, ◌≤◌, ℤ, nat_abs, take, drop}
use Rattle.settling.specs.declared.Basis.{Basis}
use Rattle.settling.specs.declared.Move.{Move}

unfoldable pub rows_of : ℕ → ℕ → ℕ → List ℤ → List (List ℤ)
rows_of zero n w l = []
rows_of (suc r) n w l = take n l ∷ rows_of r n w (drop w l)

abbrev pub vectors : Basis → List (List ℤ)
vectors B = rows_of B.vectors B.columns B.stride B.numbers.now

pub record OfBasis (r : ℕ) (o : Move) : Type 0 where
  pub s : o.s < r
  pub t : o.t < r
  pub a : nat_abs o.a ≤ 1
  pub b : nat_abs o.b ≤ 1
