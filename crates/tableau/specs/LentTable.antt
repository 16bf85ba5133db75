-- What elimination answers and leaves in a lent table. Document 01, "Turned back", 7: "tableau all 0".
--   Formable p t a   what the causes 1 to 3 leave of a problem p, the tableau's buffer t and the coefficients a
--   matrix_of p a    the matrix, its rows one after the other in the coefficients
--   form_of p a      the form of the tableau
--   form_after x t   what the buffer t of a table holds after the steps x
--   form_answer p a  what is answered of the form: its rounds, or Beyond where a number beyond ±M was left
--   eliminated_of k w t, rounds_in k w t   the elimination of the k rows of w numbers in t, and its rounds
-- Assumes nothing.
use Rattle.std.specs.Prelude.{◌≡◌, true, cond, List, ℕ, ◌+◌, ◌*◌, ◌≤◌, ℤ, length, Result}
use Rattle.whole.specs.Lists.{zeros}
use Rattle.lattice.specs.Rows.{flat, chop}
use Rattle.problem.specs.Limits.{group_rows, group_columns, max_coefficient}
use Rattle.problem.specs.Checks.{all_span}
use Rattle.problem.specs.declared.Problem.{Problem}
use Rattle.tableau.specs.Elimination.{Run, eliminate}
use Rattle.tableau.specs.RoundCount.{rounds, form_rounds}
use Rattle.tableau.specs.RightSide.{form}
use Rattle.tableau.specs.RowSteps.{unless}
use Rattle.tableau.specs.declared.Beyond.{Beyond}

pub record Formable (p : Problem) (t a : List ℤ) : Type 0 where
  pub columns : p.columns ≤ group_columns
  pub rows : p.rows ≤ group_rows
  pub table : length t ≡ p.columns * (p.rows + p.columns)
  pub matrix : length a ≡ p.rows * p.columns
  pub small : all_span max_coefficient a ≡ true

abbrev pub matrix_of : Problem → List ℤ → List (List ℤ)
matrix_of p a = chop p.rows p.columns a

abbrev pub form_of : Problem → List ℤ → Run
form_of p a = form p.columns (matrix_of p a)

abbrev pub form_after : Run → List ℤ → List ℤ
form_after x t = cond x.over (zeros (length t)) (flat x.table)

abbrev pub form_answer : Problem → List ℤ → Result ℕ Beyond
form_answer p a = unless (form_of p a).over (form_rounds p.columns (matrix_of p a))

abbrev pub eliminated_of : ℕ → ℕ → List ℤ → Run
eliminated_of k w t = eliminate w (chop k w t)

abbrev pub rounds_in : ℕ → ℕ → List ℤ → ℕ
rounds_in k w t = rounds w (chop k w t)
