-- The basis as it lies in the tableau.
--   width p          how many numbers a row of the tableau has
--   table_of p t     the rows of a list of the tableau's length; basis_of p t, the basis among them
--   Parted p t       the list has that length, no number beyond ±M, and leads that rise, so that its leading rows stand above the others
-- Assumes nothing.
use Rattle.std.specs.Prelude.{◌≡◌, List, ℕ, ◌+◌, ◌*◌, ◌≤◌, ℤ, nat_abs, length}
use Rattle.whole.specs.Lists.{entry}
use Rattle.lattice.specs.Rows.{chop}
use Rattle.lattice.specs.Hermite.{Rising}
use Rattle.problem.specs.Limits.{M}
use Rattle.problem.specs.declared.Problem.{Problem}
use Rattle.tableau.specs.RightSide.{basis}

abbrev pub width : Problem → ℕ
width p = p.rows + p.columns

-- the rows of a list, and the basis among them
abbrev pub table_of : Problem → List ℤ → List (List ℤ)
table_of p t = chop p.columns (width p) t

abbrev pub basis_of : Problem → List ℤ → List (List ℤ)
basis_of p t = basis p.rows (table_of p t)

pub record Parted (p : Problem) (t : List ℤ) : Type 0 where
  pub long : length t ≡ p.columns * width p
  pub small : (i : ℕ) → nat_abs (entry i t) ≤ M
  pub rises : Rising 0 (table_of p t)
