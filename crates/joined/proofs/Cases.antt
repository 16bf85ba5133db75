-- Cases of a joined problem that the checker computes.
--   first                 v1 + v2 = 4: column 1 from 1 to 9 with goals 2,000 to 3,000, column 2 from 0 to 7 with the ideal 6 set
--   second                2v1 − v2 + 3v3 = 0: column 1 from 2 to 8 with goals 1,000 to 2,500, column 2 from 3 to 5 with the ideal 5 set, column 3
--                         from −1 to 1
--   o                     the number 0
--   part n m l            a part of n columns and m rows with the lists l
--   whole_lists, crossed_lists, behind_lists   the eight lists of three joins of the two
-- Assumes nothing.
use mathlib.Core.Path.{◌≡◌, refl}
use mathlib.Core.List.{[], ◌∷◌}
use Prim.Native.Nat.{ℕ}
use lib.IntN.{ℤ, pos, negsuc}
use Rattle.std.specs.Prelude.{Some, None}
use Rattle.pairing.specs.Parts.{Lists, Part, lists, columns_from}
use Rattle.joined.specs.Columns.{absorb, places_from}
use Rattle.joined.specs.Joined.{spread_from, joined}

abbrev pub o : ℤ
o = pos 0

abbrev pub part : ℕ → ℕ → Lists → Part
part n m l = record { columns = n; rows = m; lists = l }

abbrev pub first : Part
first = part 2 1 (lists (pos 1 ∷ pos 1 ∷ []) (pos 4 ∷ []) (pos 1 ∷ o ∷ []) (pos 9 ∷ pos 7 ∷ []) (pos 2000 ∷ o ∷ []) (pos 3000 ∷ o ∷ [])
    (o ∷ pos 1 ∷ []) (o ∷ pos 6 ∷ []))

abbrev pub second : Part
second = part 3 1 (lists (pos 2 ∷ negsuc 0 ∷ pos 3 ∷ []) (o ∷ []) (pos 2 ∷ pos 3 ∷ negsuc 0 ∷ []) (pos 8 ∷ pos 5 ∷ pos 1 ∷ [])
    (pos 1000 ∷ o ∷ o ∷ []) (pos 2500 ∷ o ∷ o ∷ []) (o ∷ pos 1 ∷ o ∷ []) (o ∷ pos 5 ∷ o ∷ []))

abbrev pub whole_lists : Lists
whole_lists = lists (pos 1 ∷ pos 1 ∷ o ∷ pos 2 ∷ negsuc 0 ∷ pos 3 ∷ []) (pos 4 ∷ o ∷ []) (pos 2 ∷ pos 3 ∷ negsuc 0 ∷ []) (pos 8 ∷ pos 5 ∷ pos 1 ∷ [])
    (pos 1000 ∷ o ∷ o ∷ []) (pos 3000 ∷ o ∷ o ∷ []) (o ∷ pos 1 ∷ o ∷ []) (o ∷ pos 6 ∷ o ∷ [])

abbrev pub crossed_lists : Lists
crossed_lists = lists (pos 1 ∷ pos 1 ∷ o ∷ negsuc 0 ∷ pos 2 ∷ pos 3 ∷ []) (pos 4 ∷ o ∷ []) (pos 3 ∷ pos 2 ∷ negsuc 0 ∷ [])
    (pos 5 ∷ pos 7 ∷ pos 1 ∷ []) (pos 2000 ∷ pos 1000 ∷ o ∷ []) (pos 3000 ∷ pos 2500 ∷ o ∷ []) (pos 1 ∷ pos 1 ∷ o ∷ []) (pos 5 ∷ pos 6 ∷ o ∷ [])

abbrev pub behind_lists : Lists
behind_lists = lists (pos 1 ∷ pos 1 ∷ o ∷ o ∷ pos 3 ∷ o ∷ pos 2 ∷ negsuc 0 ∷ []) (pos 4 ∷ o ∷ []) (pos 1 ∷ o ∷ pos 2 ∷ pos 3 ∷ [])
    (pos 1 ∷ pos 7 ∷ pos 8 ∷ pos 5 ∷ []) (pos 2000 ∷ o ∷ pos 1000 ∷ o ∷ []) (pos 3000 ∷ o ∷ pos 2500 ∷ o ∷ []) (o ∷ pos 1 ∷ o ∷ pos 1 ∷ [])
    (o ∷ pos 6 ∷ o ∷ pos 5 ∷ [])

-- column 1 of the first is column 1 of the second, 2 is 2, and the third comes behind: "the larger lower and the smaller upper bound, the lowest
-- low and the highest high goal"; the ideal is "the first's where both have one", and none where neither has; "the rows of both, the first's first"
whole : joined first second (Some 0 ∷ Some 1 ∷ None ∷ []) ≡ part 3 2 whole_lists
unfolding columns_from absorb places_from spread_from joined
whole = refl

-- crossed, the first's 1 is the second's 2 and its 2 is the second's 1: "where one has no goal, the other's are taken", of the first and of the
-- second, and so of the ideals
crossed : joined first second (Some 1 ∷ Some 0 ∷ None ∷ []) ≡ part 3 2 crossed_lists
unfolding columns_from absorb places_from spread_from joined
crossed = refl

-- the second's columns 1 and 2 come to the places 3 and 4: "the first's columns, then the second's unshared ones in order"
behind : joined first second (None ∷ None ∷ Some 0 ∷ []) ≡ part 4 2 behind_lists
unfolding columns_from absorb places_from spread_from joined
behind = refl
