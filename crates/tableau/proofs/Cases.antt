-- Small cases of the definitions, computed by the checker: what a change of the quotients or of the count of rounds must not change.
--   two_three       a column 2, 3 takes two rounds, the bit length of its first pivot 2: 3 leaves −1, then 2 leaves 0
--   lone            a column with one entry other than 0 takes one round; the look that ends it is none
--   empty           a column of zeros takes none
--   half_above, half_below   of 1 and of −1 by the pivot 2 the nearest quotient leaves −1: a half is rounded upwards
--   above_down      a row above with the entry 3 keeps it under the pivot 4: there the quotient is rounded down, and the nearest would leave −1
--   table_run       a table in its form: the entry 3 above the pivot 4
--   table_rounds    it takes three rounds: two for the column 7, 4, one for the next, none for the last
--   down_same       the rounded-down quotient leaves the same form
--   problem_table, -rounds   it is the tableau of a problem, which takes as many
--   fibonacci       a column 8, 13 takes three rounds, where 8 has four digits
--   down_longer     by the rounded-down quotient four rounds are too few for it: a lower entry 1 is left
--   seven_now       the tableau of 93v1 − 835v3 = 0 and 331v1 − 925v2 = 0 meets a number beyond ±M by the nearest quotient alone
--   seven_before    that of 863v1 − 449v2 + 350v3 = 0 and 122v1 + 247v2 + 960v3 = 0 by the rounded-down one alone
-- Assumes nothing.
use mathlib.Core.Path.{◌≡◌, refl, ◌∙◌, ap}
use mathlib.Core.Bool.{Bool, true, false}
use mathlib.Core.List.{List, [], ◌∷◌}
use lib.IntN.{ℤ, pos, negsuc}
use Rattle.whole.specs.Quotient.{floor_quotient}
use Rattle.whole.specs.BitLength.{bits_by, bit_length}
use Rattle.lattice.specs.Rows.{plus, neg}
use Rattle.problem.specs.Limits.{any_beyond}
use Rattle.tableau.specs.Table.{tableau_from, tableau}
use Rattle.tableau.specs.Elimination.{lowered_by, lowered, reduced, each, at, choose, exchange, clear_by, round_by, gather_by}
use Rattle.tableau.specs.Elimination.{pass_column_by, pass_columns_by, eliminate_by, eliminate}
use Rattle.tableau.specs.RightSide.{form}
use Rattle.tableau.specs.RoundedDown.{form_down}
use Rattle.tableau.specs.RoundCount.{gather_rounds, column_rounds, first_bits, rounds_from, rounds, form_rounds}

-- rows of one number
abbrev pair : ℤ → ℤ → List (List ℤ)
pair x y = (x ∷ []) ∷ (y ∷ []) ∷ []

-- ---- the rounds of one column
two_three : (column_rounds 0 (pair (pos 2) (pos 3)) (choose 0 (pair (pos 2) (pos 3))) ≡ 2) × (first_bits (choose 0 (pair (pos 2) (pos 3))) ≡ 2)
unfolding plus neg lowered_by each choose exchange clear_by round_by gather_rounds column_rounds bit_length bits_by
two_three = (refl, refl)

lone : column_rounds 0 (pair (pos 0) (negsuc 4)) (choose 0 (pair (pos 0) (negsuc 4))) ≡ 1
unfolding plus neg lowered_by each choose exchange clear_by round_by gather_rounds column_rounds
lone = refl

empty : column_rounds 0 (pair (pos 0) (pos 0)) (choose 0 (pair (pos 0) (pos 0))) ≡ 0
unfolding choose column_rounds
empty = refl

-- ---- the quotients
half_above : (lowered 0 (pos 2 ∷ []) (pos 1 ∷ [])).row ≡ negsuc 0 ∷ []
unfolding plus lowered_by
half_above = refl

half_below : (lowered 0 (pos 2 ∷ []) (negsuc 0 ∷ [])).row ≡ negsuc 0 ∷ []
unfolding plus lowered_by
half_below = refl

above_down : (reduced 0 (pos 4 ∷ []) (pos 3 ∷ [])).row ≡ pos 3 ∷ []
unfolding plus reduced
above_down = refl

-- ---- a table
abbrev table : List (List ℤ)
table = (pos 7 ∷ pos 1 ∷ pos 0 ∷ []) ∷ (pos 4 ∷ pos 0 ∷ pos 1 ∷ []) ∷ []

table_run : eliminate 3 table ≡ record { table = (pos 1 ∷ pos 3 ∷ negsuc 4 ∷ []) ∷ (pos 0 ∷ pos 4 ∷ negsuc 6 ∷ []) ∷ []; over = false }
unfolding plus neg any_beyond lowered_by reduced each choose exchange clear_by round_by gather_by pass_column_by pass_columns_by eliminate_by
table_run = refl

table_rounds : rounds 3 table ≡ 3
unfolding plus neg lowered_by reduced each choose exchange clear_by round_by gather_by pass_column_by gather_rounds column_rounds rounds_from rounds
table_rounds = refl

down_same : eliminate_by floor_quotient 3 table ≡ eliminate 3 table
unfolding plus neg any_beyond lowered_by reduced each choose exchange clear_by round_by gather_by pass_column_by pass_columns_by eliminate_by
down_same = refl

-- one row, 7 and 4, of two columns
abbrev matrix : List (List ℤ)
matrix = (pos 7 ∷ pos 4 ∷ []) ∷ []

problem_table : tableau 2 matrix ≡ table
unfolding tableau_from tableau
problem_table = refl

problem_rounds : form_rounds 2 matrix ≡ 3
unfolding form_rounds
problem_rounds = ap (rounds 3) problem_table ∙ table_rounds

-- ---- a column that the rounded-down quotient takes longer for
fibonacci : (column_rounds 0 (pair (pos 8) (pos 13)) (choose 0 (pair (pos 8) (pos 13))) ≡ 3) × (first_bits (choose 0 (pair (pos 8) (pos 13))) ≡ 4)
unfolding plus neg lowered_by each choose exchange clear_by round_by gather_rounds column_rounds bit_length bits_by
fibonacci = (refl, refl)

down_longer : (gather_by floor_quotient 4 0 (at 0 8) (pos 8 ∷ []) ((pos 13 ∷ []) ∷ [])).below ≡ (pos 1 ∷ []) ∷ []
unfolding plus neg lowered_by each choose exchange clear_by round_by gather_by
down_longer = refl

-- ---- refusal 7
abbrev marks : List (List ℤ) → Bool × Bool
marks A = ((form 3 A).over, (form_down 3 A).over)

seven_now : marks ((pos 93 ∷ pos 0 ∷ negsuc 834 ∷ []) ∷ (pos 331 ∷ negsuc 924 ∷ pos 0 ∷ []) ∷ []) ≡ (true, false)
unfolding plus neg any_beyond lowered_by reduced each choose exchange clear_by round_by gather_by pass_column_by pass_columns_by eliminate_by
    tableau_from tableau form form_down
seven_now = refl

seven_before : marks ((pos 863 ∷ negsuc 448 ∷ pos 350 ∷ []) ∷ (pos 122 ∷ pos 247 ∷ pos 960 ∷ []) ∷ []) ≡ (false, true)
unfolding plus neg any_beyond lowered_by reduced each choose exchange clear_by round_by gather_by pass_column_by pass_columns_by eliminate_by
    tableau_from tableau form form_down
seven_before = refl
