-- Document 02, (vii): "Forms and starting lists are unchanged where neither way meets 7." The other way is document 01's, where gathering takes the
-- rounded-down quotient.
--   form_down n A       the form of the tableau of n columns and the matrix A, that way
--   solve_down n A b    the tableau and the right side, that way
--   FormUnchanged       the form is the same
--   FoundUnchanged      and so is what is found: "none", or the starting list and the basis
--   SolveUnchanged      where neither way is past the elimination limit, all of it is the same
-- The first two hold over unbounded numbers, past the limit or not: only the marks may differ. Each is proved in proofs/RoundedDown, under its
-- name in small letters.
-- Assumes nothing.
use Rattle.std.specs.Prelude.{◌≡◌, false, List, ◌++◌, ℕ, ◌+◌, ℤ, length}
use Rattle.whole.specs.Lists.{zeros}
use Rattle.whole.specs.Quotient.{floor_quotient}
use Rattle.lattice.specs.Rows.{neg}
use Rattle.tableau.specs.Table.{tableau}
use Rattle.tableau.specs.Elimination.{Run, eliminate_by}
use Rattle.tableau.specs.RightSide.{Solved, right_side, form, solve}

unfoldable pub form_down : ℕ → List (List ℤ) → Run
form_down n A = eliminate_by floor_quotient (length A + n) (tableau n A)

unfoldable pub solve_down : ℕ → List (List ℤ) → List ℤ → Solved
solve_down n A b = right_side (length A) (form_down n A).table (form_down n A).over (neg b ++ zeros n)

abbrev pub FormUnchanged : Type 0
FormUnchanged =
    (n : ℕ) (A : List (List ℤ)) → (form n A).table ≡ (form_down n A).table

abbrev pub FoundUnchanged : Type 0
FoundUnchanged =
    (n : ℕ) (A : List (List ℤ)) (b : List ℤ) → (solve n A b).found ≡ (solve_down n A b).found

abbrev pub SolveUnchanged : Type 0
SolveUnchanged =
    (n : ℕ) (A : List (List ℤ)) (b : List ℤ) → (solve n A b).over ≡ false → (solve_down n A b).over ≡ false → solve n A b ≡ solve_down n A b
