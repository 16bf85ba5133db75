-- Document 01, "The tableau": the table of a problem before the first step.
--   column j A      column j of the matrix A, the list of its rows
--   tableau_from k j n A   the table rows j to j + k − 1
--   tableau n A     "One table row per column of the problem: table row j is column j of the matrix (m numbers), then the j-th unit list (n
--                   numbers)."
--   max_width       the most numbers that a row of a table can have: those of a group's table
-- Columns are counted from 0.
-- Assumes nothing.
use Rattle.std.specs.Prelude.{List, [], ◌∷◌, ◌++◌, map, ℕ, zero, suc, ◌+◌, ℤ}
use Rattle.whole.specs.Lists.{entry}
use Rattle.lattice.specs.Rows.{unit}
use Rattle.problem.specs.Limits.{group_columns, group_rows}

abbrev pub column : ℕ → List (List ℤ) → List ℤ
column j A = map (entry j) A

unfoldable pub tableau_from : ℕ → ℕ → ℕ → List (List ℤ) → List (List ℤ)
tableau_from zero j n A = []
tableau_from (suc k) j n A = (column j A ++ unit n j) ∷ tableau_from k (suc j) n A

unfoldable pub tableau : ℕ → List (List ℤ) → List (List ℤ)
tableau n A = tableau_from n 0 n A

abbrev pub max_width : ℕ
max_width = group_rows + group_columns
