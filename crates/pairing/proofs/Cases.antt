-- Computed cases of pairs. Columns of pairs are counted from 1, and partners from 0.
--   X   the first's bounds: 1 to 9 and 0 to 7
--   Y   the second's bounds: 2 to 8, 3 to 5 and −1 to 1
--   Z   columns that are 0
-- Assumes nothing.
use mathlib.Core.Path.{◌≡◌, refl}
use mathlib.Core.List.{[], ◌∷◌}
use lib.IntN.{pos, negsuc}
use Rattle.whole.specs.Lists.{zeros}
use Rattle.problem.specs.declared.Refusal.TheVariants.{Pair, PairBounds}
use Rattle.std.specs.Prelude.{Ok, Err, Some, None}
use Rattle.pairing.specs.Pairs.{Bounds, bounds, unpaired, pair_check, matched, pair_up}

abbrev X : Bounds
X = bounds (pos 1 ∷ pos 0 ∷ []) (pos 9 ∷ pos 7 ∷ [])

abbrev Y : Bounds
Y = bounds (pos 2 ∷ pos 3 ∷ negsuc 0 ∷ []) (pos 8 ∷ pos 5 ∷ pos 1 ∷ [])

abbrev Z : Bounds
Z = bounds (zeros 2) (zeros 2)

-- no pair, two pairs, and two that cross
taken : (pair_up X Y [] (unpaired 3) ≡ matched (Ok tt) (None ∷ None ∷ None ∷ []))
    × (pair_up X Y (1 ∷ 1 ∷ 2 ∷ 2 ∷ []) (unpaired 3) ≡ matched (Ok tt) (Some 0 ∷ Some 1 ∷ None ∷ []))
    × (pair_up X Y (2 ∷ 1 ∷ 1 ∷ 3 ∷ []) (unpaired 3) ≡ matched (Ok tt) (Some 1 ∷ None ∷ Some 0 ∷ []))
unfolding pair_check pair_up
taken = (refl, refl, refl)

-- 14: outside on either side, 0 among them, and used before on either side; what the pairs before left stands
outside : (pair_up X Y (3 ∷ 1 ∷ []) (unpaired 3) ≡ matched (Err Pair) (unpaired 3))
    × (pair_up X Y (1 ∷ 4 ∷ []) (unpaired 3) ≡ matched (Err Pair) (unpaired 3))
    × (pair_up X Y (0 ∷ 1 ∷ []) (unpaired 3) ≡ matched (Err Pair) (unpaired 3))
    × (pair_up X Y (1 ∷ 0 ∷ []) (unpaired 3) ≡ matched (Err Pair) (unpaired 3))
unfolding pair_check pair_up
outside = (refl, refl, refl, refl)

used : (pair_up X Y (1 ∷ 1 ∷ 1 ∷ 2 ∷ []) (unpaired 3) ≡ matched (Err Pair) (Some 0 ∷ None ∷ None ∷ []))
    × (pair_up X Y (1 ∷ 1 ∷ 2 ∷ 1 ∷ []) (unpaired 3) ≡ matched (Err Pair) (Some 0 ∷ None ∷ None ∷ []))
unfolding pair_check pair_up
used = (refl, refl)

-- 15: 1 to 9 and −1 to 1 leave 1, but 1 to 9 and 0 to 0 leave nothing
left : (pair_up X Y (1 ∷ 3 ∷ []) (unpaired 3) ≡ matched (Ok tt) (None ∷ None ∷ Some 0 ∷ []))
    × (pair_up X Z (1 ∷ 1 ∷ []) (unpaired 2) ≡ matched (Err PairBounds) (unpaired 2))
unfolding pair_check pair_up
left = (refl, refl)

-- "14 first within a pair": the second's column is used before, and the bounds leave nothing; but an earlier pair's 15 comes before a later one's 14
order : (pair_up X Z (2 ∷ 1 ∷ 1 ∷ 1 ∷ []) (unpaired 2) ≡ matched (Err Pair) (Some 1 ∷ None ∷ []))
    × (pair_up X Z (1 ∷ 1 ∷ 9 ∷ 9 ∷ []) (unpaired 2) ≡ matched (Err PairBounds) (unpaired 2))
unfolding pair_check pair_up
order = (refl, refl)
