-- Document 01, "The tableau", **Right side**: the starting list and the basis, or "none".
--   further over x    a subtraction marked `over`, and what follows on it
--   sweep T v         with each row of T, top first, the rounded-down quotient times that row subtracted from v
--   leading m T       the rows whose lead lies in the first m columns
--   remaining m T     the others
--   basis m T         "The remaining table rows, without their m zeros, are the basis"
--   Found             "no whole numbers satisfy the rows", or the starting list and the basis
--   Solved            what is found, the form, and whether the problem is past the elimination limit (refusal 7)
--   right_side m T o v   the right side v of a form T, with what is found; by `after_leading`, from the list after the leading rows
--   list_left m T v   the list that v has become then: after the leading rows where no whole numbers satisfy the rows, else after the others
--                     too; by `left_of`
--   form n A          the form of the tableau of n columns and the matrix A
--   solve n A b       the tableau and the right side of n columns, the matrix A and the right sides b
-- "starting list" is document 01's term: the reduced representative of the coset of solutions. The basis is the kernel basis in Hermite form.
-- Assumes nothing.
use Rattle.std.specs.Prelude.{Bool, false, cond, ◌||◌, List, [], ◌∷◌, ◌++◌, map, ℕ, ◌+◌, ltb, ℤ, length, take, drop}
use Rattle.whole.specs.Lists.{zeros}
use Rattle.lattice.specs.Rows.{neg, all_zero, lead}
use Rattle.tableau.specs.Table.{tableau}
use Rattle.tableau.specs.Elimination.{Left, kept, reduced, Run, eliminate}

abbrev pub further : Bool → Left → Left
further over x = record { row = x.row; over = over || x.over }

unfoldable pub sweep : List (List ℤ) → List ℤ → Left
sweep [] v = kept v
sweep (r ∷ T) v = further (reduced (lead r) r v).over (sweep T (reduced (lead r) r v).row)

unfoldable pub leading : ℕ → List (List ℤ) → List (List ℤ)
leading m [] = []
leading m (r ∷ T) = cond (ltb (lead r) m) (r ∷ leading m T) (leading m T)

unfoldable pub remaining : ℕ → List (List ℤ) → List (List ℤ)
remaining m [] = []
remaining m (r ∷ T) = cond (ltb (lead r) m) (remaining m T) (r ∷ remaining m T)

abbrev pub basis : ℕ → List (List ℤ) → List (List ℤ)
basis m T = map (drop m) (remaining m T)

pub data Found : Type 0 where
  none : Found
  some : List ℤ → List (List ℤ) → Found

pub record Solved : Type 0 where
  pub form : List (List ℤ)
  pub found : Found
  pub over : Bool

-- "If one of the first m numbers is then not 0, no whole numbers satisfy the rows. Otherwise go on with the remaining table rows; the last n
-- numbers are the starting list." w is the list after the leading rows
abbrev pub after_leading : ℕ → List (List ℤ) → Bool → Left → Solved
after_leading m T over w =
    cond (all_zero (take m w.row))
    (let s : Left = sweep (remaining m T) w.row in
    record { form = T; found = some (drop m s.row) (basis m T); over = over || (w.over || s.over) })
    (record { form = T; found = none; over = over || w.over })

-- the right side v of a form T, which is past the elimination limit already where `over` says so
unfoldable pub right_side : ℕ → List (List ℤ) → Bool → List ℤ → Solved
right_side m T over v = after_leading m T over (sweep (leading m T) v)

-- by what is found: the list u after the leading rows, or the list w after the remaining rows too, whose "last n numbers are the starting list"
abbrev pub left_of : Found → List ℤ → List ℤ → List ℤ
left_of none u w = u
left_of (some s N) u w = w

unfoldable pub list_left : ℕ → List (List ℤ) → List ℤ → List ℤ
list_left m T v =
    let u : List ℤ = (sweep (leading m T) v).row in
    left_of (right_side m T false v).found u (sweep (remaining m T) u).row

unfoldable pub form : ℕ → List (List ℤ) → Run
form n A = eliminate (length A + n) (tableau n A)

-- "Take the list (−b, then n zeros)."
unfoldable pub solve : ℕ → List (List ℤ) → List ℤ → Solved
solve n A b = right_side (length A) (form n A).table (form n A).over (neg b ++ zeros n)
