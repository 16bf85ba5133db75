-- Document 01, "Seating": the ideal of a column, document 01's own term for the number that seating pulls it to.
--   into lo hi x        x brought into the bounds lo to hi
--   Wish                what a column is to come to: a number, or nothing set
--   wish_of given x     the wish that two numbers stand for, a mark and a number: "unset" is the mark 0, and not a number
--   wish_mark, wish_number   the two numbers of a wish
--   column_wish low high w   the wish of a column with these goals, where w is handed in: without a goal w, and else what the goals ask for
--   wished w x          the wish, or the present value x where none is set
--   ideal lo hi w x     the wish brought into the bounds; "Without a goal it is the present value brought into the bounds"
-- Seating takes wishes and not goals: document 02, (ii), hands them in for columns without a goal.
-- Assumes nothing.
use Rattle.std.specs.Prelude.{cond, ℤ, pos, nat_abs, Option, Some, None}
use Rattle.std.specs.Int.Signed.{lt_z}
use Rattle.whole.specs.Tests.{is_zero}
use Rattle.goals.specs.Ideals.{goal_ideal}

abbrev pub Wish : Type 0
Wish = Option ℤ

abbrev pub into : ℤ → ℤ → ℤ → ℤ
into lo hi x = cond (lt_z x lo) lo (cond (lt_z hi x) hi x)

-- ---- document 02, (ii): "Any number may be handed in as an ideal"
abbrev pub wish_of : ℤ → ℤ → Wish
wish_of given x = cond (is_zero given) None (Some x)

-- "unset" has the mark 0, and 0 for its number
abbrev pub wish_mark : Wish → ℤ
wish_mark None = pos 0
wish_mark (Some x) = pos 1

abbrev pub wish_number : Wish → ℤ
wish_number None = pos 0
wish_number (Some x) = x

-- "it is used only without a goal"; a column has both goals or none
abbrev pub column_wish : ℤ → ℤ → Wish → Wish
column_wish low high w = cond (is_zero low) w (Some (pos (goal_ideal (nat_abs low) (nat_abs high))))

-- ---- the ideal: "and brought into the bounds"; "unset, document 01's rule holds"
abbrev pub wished : Wish → ℤ → ℤ
wished None x = x
wished (Some y) x = y

unfoldable pub ideal : ℤ → ℤ → Wish → ℤ → ℤ
ideal lo hi w x = into lo hi (wished w x)
