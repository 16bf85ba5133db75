-- What the functions that pass columns ask and what they leave.
--   Standing n w c k t    t is a table of n rows of w numbers within ±M, of which k are done, and the others are 0 before column c
--   above_of, below_of    the rows that are done, and the others
--   passed_of n w c k t   column c of such a table; passed_rounds, its rounds
--   rejoined x            the rows above row k and those from it on, as one table
-- Assumes nothing.
use Rattle.std.specs.Prelude.{◌≡◌, List, ◌++◌, ℕ, ◌*◌, ◌-◌, ◌≤◌, ℤ, length, drop}
use Rattle.lattice.specs.Rows.{ZeroTo, chop}
use Rattle.lattice.specs.Span.{All}
use Rattle.tableau.specs.Elimination.{Run, Passed, choose, pass_column}
use Rattle.tableau.specs.RoundCount.{column_rounds}
use Rattle.tableau.specs.Within.{Within}

abbrev pub above_of : ℕ → ℕ → List ℤ → List (List ℤ)
above_of w k t = chop k w t

abbrev pub below_of : ℕ → ℕ → ℕ → List ℤ → List (List ℤ)
below_of n w k t = chop (n - k) w (drop (k * w) t)

pub record Standing (n w c k : ℕ) (t : List ℤ) : Type 0 where
  pub wide : length t ≡ n * w
  pub most : k ≤ n
  pub small : Within t
  pub front : All (ZeroTo c) (below_of n w k t)

abbrev pub passed_of : ℕ → ℕ → ℕ → ℕ → List ℤ → Passed
passed_of n w c k t = pass_column c (above_of w k t) (below_of n w k t) (choose c (below_of n w k t))

abbrev pub passed_rounds : ℕ → ℕ → ℕ → ℕ → List ℤ → ℕ
passed_rounds n w c k t = column_rounds c (below_of n w k t) (choose c (below_of n w k t))

abbrev pub rejoined : Passed → Run
rejoined x = record { table = x.above ++ x.below; over = x.over }
