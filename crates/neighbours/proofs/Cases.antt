-- A case of the reader's ideals that the checker computes. Rows v1 + v2 = 0, v1 − v2 + v3 = 0 and v3 − v5 = 0; v1 and v4 are plain, v2 wants 9, v3
-- wants 20 but goes up to 2, and v5 is a slack.
--   stated        the case
--   v1            11 / 2, rounded down: v2 counts once although it shares two rows, and v3 as its bound has it
--   v2, v3        with a goal, none
--   v4            in no row, none
--   v5            a slack, none, although it shares a row with v3
--   marks, ideals the two lists
-- Assumes nothing.
use Rattle.std.specs.Prelude.{None, Some}
use mathlib.Core.Path.{◌≡◌, refl}
use mathlib.Core.List.{List, [], ◌∷◌}
use lib.IntN.{ℤ, pos, negsuc}
use Rattle.whole.specs.Tests.{every}
use Rattle.goals.specs.Ideals.{root_bits, whole_root, goal_ideal}
use Rattle.neighbours.specs.Neighbours.{Stated, stated_by, chosen, total, neighbour_wish, numbers_from, given_of, ideals_of}

abbrev five : ℤ → ℤ → ℤ → ℤ → ℤ → List ℤ → List ℤ
five a b c d e l = a ∷ b ∷ c ∷ d ∷ e ∷ l

abbrev stated : Stated
stated =
    stated_by 5 3 4
    (five (pos 1) (pos 1) (pos 0) (pos 0) (pos 0)
    (five (pos 1) (negsuc 0) (pos 1) (pos 0) (pos 0)
    (five (pos 0) (pos 0) (pos 1) (pos 0) (negsuc 0) [])))
    (five (pos 1) (pos 1) (pos 1) (pos 1) (pos 0) [])
    (five (pos 99) (pos 99) (pos 2) (pos 99) (pos 99) [])
    (five (pos 0) (pos 4500) (pos 20000) (pos 0) (pos 0) [])
    (five (pos 0) (pos 18000) (pos 20000) (pos 0) (pos 0) [])

pub v1 : neighbour_wish stated 0 ≡ Some (pos 5)
unfolding every root_bits whole_root goal_ideal chosen total neighbour_wish
v1 = refl

pub v2 : neighbour_wish stated 1 ≡ None
unfolding neighbour_wish
v2 = refl

pub v3 : neighbour_wish stated 2 ≡ None
unfolding neighbour_wish
v3 = refl

pub v4 : neighbour_wish stated 3 ≡ None
unfolding every root_bits whole_root goal_ideal chosen total neighbour_wish
v4 = refl

pub v5 : neighbour_wish stated 4 ≡ None
unfolding neighbour_wish
v5 = refl

pub marks : given_of stated 5 ≡ five (pos 1) (pos 0) (pos 0) (pos 0) (pos 0) []
unfolding every root_bits whole_root goal_ideal chosen total neighbour_wish numbers_from
marks = refl

pub ideals : ideals_of stated 5 ≡ five (pos 5) (pos 0) (pos 0) (pos 0) (pos 0) []
unfolding every root_bits whole_root goal_ideal chosen total neighbour_wish numbers_from
ideals = refl
