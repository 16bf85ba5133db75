-- How the vectors of a basis lie in a slice.
--   Laid n r w l     the numbers of r vectors of n numbers, each w after the last, lie in the list l, and no number of it lies beyond ±M
-- Assumes nothing.
use Rattle.std.specs.Prelude.{List, ℕ, ◌+◌, ◌*◌, ◌<◌, ◌≤◌, ℤ, nat_abs, length}
use Rattle.whole.specs.Lists.{entry}
use Rattle.problem.specs.Limits.{M}

pub record Laid (n r w : ℕ) (l : List ℤ) : Type 0 where
  pub lies : (s j : ℕ) → s < r → j < n → s * w + j < length l
  pub small : (i : ℕ) → nat_abs (entry i l) ≤ M
