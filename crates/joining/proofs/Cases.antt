-- Cases of a join that the checker computes. Columns of pairs are counted from 1, and partners from 0.
--   first, second, part, o and the lists of three joins are those of joined's cases
--   lent a b n     lists of a coefficients, b right sides, and n numbers of the columns each; nothing, none of any
--   column_lists .. lists for two rows and three columns, but of these numbers of the columns
--   plain n        n columns, each from 0 to 0, without goals, and no row
--   single ..      one column, of these bounds and goals, and no row
--   stack m        one column from 0 to 0, and m rows of zeros
--   steep          one column with a coefficient of 1,001
--   cause P Q ps   the first cause of a join, where nothing is lent
--   JoiningCases   the cases, one to a field; joining-cases, they hold
-- Assumes nothing.
use mathlib.Core.Path.{◌≡◌, refl}
use mathlib.Core.List.{List, [], ◌∷◌}
use Prim.Native.Nat.{ℕ}
use lib.IntN.{ℤ, pos, negsuc}
use Rattle.whole.specs.Lists.{zeros}
use Rattle.whole.specs.Tests.{every}
use Rattle.problem.specs.Checks.{first_cause}
use Rattle.problem.specs.declared.Refusal.TheVariants.{Size, Length, Coefficient, Bound, Goal, Pair, PairBounds}
use Rattle.problem.specs.Checks.{Check}
use Rattle.std.specs.Prelude.{Ok, Err, Some, None}
use Rattle.pairing.specs.Parts.{Lists, Part, lists, columns_from, part_cause}
use Rattle.pairing.specs.Pairs.{pair_check, pair_up}
use Rattle.joined.specs.Columns.{absorb, places_from, places}
use Rattle.joined.specs.Joined.{spread_from, joined, first_share, second_share}
use Rattle.joined.proofs.Cases.{o, part, first, second, whole_lists, crossed_lists, behind_lists}
use Rattle.joining.specs.Join.{pairing, partners, join_cause, left, join}

abbrev lent : ℕ → ℕ → ℕ → Lists
lent a b n = lists (zeros a) (zeros b) (zeros n) (zeros n) (zeros n) (zeros n) (zeros n) (zeros n)

abbrev column_lists : ℕ → ℕ → ℕ → ℕ → ℕ → ℕ → Lists
column_lists a b c d e f = lists (zeros 6) (zeros 2) (zeros a) (zeros b) (zeros c) (zeros d) (zeros e) (zeros f)

abbrev nothing : Lists
nothing = lent 0 0 0

abbrev plain : ℕ → Part
plain n = part n 0 (lent 0 0 n)

abbrev single : ℤ → ℤ → ℤ → ℤ → Part
single lower upper low high = part 1 0 (lists [] [] (lower ∷ []) (upper ∷ []) (low ∷ []) (high ∷ []) (o ∷ []) (o ∷ []))

abbrev stack : ℕ → Part
stack m = part 1 m (lent m m 1)

abbrev steep : Part
steep = part 1 1 (lists (pos 1001 ∷ []) (o ∷ []) (o ∷ []) (o ∷ []) (o ∷ []) (o ∷ []) (o ∷ []) (o ∷ []))

abbrev cause : Part → Part → List ℕ → Check
cause P Q ps = join_cause P Q ps nothing

pub record JoiningCases : Type 0 where
  -- three joins that are made: column 1 is column 1 and 2 is 2; crossed; and the second's columns 1 and 2 behind
  whole : join first second (1 ∷ 1 ∷ 2 ∷ 2 ∷ []) (lent 6 2 3) ≡ left (Ok (record { columns = 3; rows = 2 })) whole_lists
  crossed : join first second (1 ∷ 2 ∷ 2 ∷ 1 ∷ []) (lent 6 2 3) ≡ left (Ok (record { columns = 3; rows = 2 })) crossed_lists
  behind : join first second (1 ∷ 3 ∷ []) (lent 8 2 4) ≡ left (Ok (record { columns = 4; rows = 2 })) behind_lists
  -- no pair at all
  apart : (join first second [] (lent 10 2 5)).answer ≡ Ok (record { columns = 5; rows = 2 })
  -- the shares of a list, by the partners and the places: all shared and crossed, and two behind
  crossed_partners : partners first second (1 ∷ 2 ∷ 2 ∷ 1 ∷ []) ≡ Some 1 ∷ Some 0 ∷ None ∷ []
  crossed_places : places first (Some 1 ∷ Some 0 ∷ None ∷ []) ≡ 1 ∷ 0 ∷ 2 ∷ []
  crossed_first : first_share first (pos 10 ∷ pos 20 ∷ pos 30 ∷ []) ≡ pos 10 ∷ pos 20 ∷ []
  crossed_second : second_share (1 ∷ 0 ∷ 2 ∷ []) (pos 10 ∷ pos 20 ∷ pos 30 ∷ []) ≡ pos 20 ∷ pos 10 ∷ pos 30 ∷ []
  behind_places : places first (partners first second (1 ∷ 3 ∷ [])) ≡ 2 ∷ 3 ∷ 0 ∷ []
  behind_second : second_share (2 ∷ 3 ∷ 0 ∷ []) (pos 10 ∷ pos 20 ∷ pos 30 ∷ pos 40 ∷ []) ≡ pos 30 ∷ pos 40 ∷ pos 10 ∷ []
  -- any number but 0 marks an ideal as set, and where none is set the second's number is taken, not the first's
  any_mark : (join (part 1 0 (lists [] [] (o ∷ []) (o ∷ []) (o ∷ []) (o ∷ []) (negsuc 6 ∷ []) (pos 3 ∷ []))) (plain 1) (1 ∷ 1 ∷ [])
      (lent 0 0 1)).lists
      ≡ lists [] [] (o ∷ []) (o ∷ []) (o ∷ []) (o ∷ []) (negsuc 6 ∷ []) (pos 3 ∷ [])
  no_mark : (join (part 1 0 (lists [] [] (o ∷ []) (o ∷ []) (o ∷ []) (o ∷ []) (o ∷ []) (pos 3 ∷ []))) (plain 1) (1 ∷ 1 ∷ []) (lent 0 0 1)).lists
      ≡ lent 0 0 1
  -- 1 to 5 of the first, before the second's 1, an odd list and short lent lists; with a refusal the lent lists are as before
  first_size : join (plain 0) (plain 0) (7 ∷ []) (lent 1 2 3) ≡ left (Err Size) (lent 1 2 3)
  first_length : cause (part 2 1 (lent 2 1 1)) (plain 0) (7 ∷ []) ≡ Err Length
  first_coefficient : cause steep (plain 0) (7 ∷ []) ≡ Err Coefficient
  first_bound : cause (single (pos 1) o o o) (plain 0) (7 ∷ []) ≡ Err Bound
  first_goal : cause (single o (pos 2) (pos 3) (pos 4)) (plain 0) (7 ∷ []) ≡ Err Goal
  -- 1 to 5 of the second, before an odd list and short lent lists
  second_size : cause first (plain 49) (7 ∷ []) ≡ Err Size
  second_length : cause first (part 2 1 (lent 3 1 2)) (7 ∷ []) ≡ Err Length
  second_coefficient : cause first steep (7 ∷ []) ≡ Err Coefficient
  second_bound : cause first (single (pos 1) o o o) (7 ∷ []) ≡ Err Bound
  -- "both 0 or both set, low at most high"
  second_goal : cause first (single (pos 1) (pos 2) (pos 5) (pos 4)) (7 ∷ []) ≡ Err Goal
  half_goal : part_cause (single (pos 1) (pos 2) o (pos 4)) ≡ Err Goal
  -- 2 for an odd list, before its pairs
  odd : cause first second (9 ∷ 9 ∷ 1 ∷ []) ≡ Err Length
  odd_alone : cause first second (1 ∷ []) ≡ Err Length
  -- 14, a column outside, of the first and of the second
  outside_first : cause first second (3 ∷ 1 ∷ []) ≡ Err Pair
  outside_second : cause first second (1 ∷ 4 ∷ []) ≡ Err Pair
  none_first : cause first second (0 ∷ 1 ∷ []) ≡ Err Pair
  none_second : cause first second (1 ∷ 0 ∷ []) ≡ Err Pair
  -- 14, a column used before, of the first and of the second
  again_first : cause first second (1 ∷ 1 ∷ 1 ∷ 2 ∷ []) ≡ Err Pair
  again_second : cause first second (1 ∷ 1 ∷ 2 ∷ 1 ∷ []) ≡ Err Pair
  -- 15: 1 to 9 and 0 to 0 leave nothing, in either order, and 1 to 9 and −1 to 1 leave 1
  none_left : join first (plain 2) (1 ∷ 1 ∷ []) (lent 6 2 3) ≡ left (Err PairBounds) (lent 6 2 3)
  none_left_second : cause (plain 2) first (1 ∷ 1 ∷ []) ≡ Err PairBounds
  one_left : (pairing first second (1 ∷ 3 ∷ [])).found ≡ Ok tt
  -- 14 before 15 within a pair: the second's column 1 is used before, and the bounds leave nothing
  taken_before_bounds : cause first (plain 2) (2 ∷ 1 ∷ 1 ∷ 1 ∷ []) ≡ Err Pair
  -- in pair order, an earlier pair's 15 before a later one's 14, and the other way round
  bounds_then_pair : cause first (plain 2) (1 ∷ 1 ∷ 9 ∷ 9 ∷ []) ≡ Err PairBounds
  pair_then_bounds : cause first (plain 2) (9 ∷ 9 ∷ 1 ∷ 1 ∷ []) ≡ Err Pair
  -- pairs before the joined size, 14 and 15
  pair_before_size : cause (plain 30) (plain 30) (31 ∷ 1 ∷ []) ≡ Err Pair
  bounds_before_size : cause (plain 48) (single (pos 1) (pos 1) o o) (1 ∷ 1 ∷ []) ≡ Err PairBounds
  -- 1 for a joined size beyond 48, before the lent lists: 49 columns, or 49 rows; a shared column is counted once
  columns_49 : join (plain 30) (plain 19) [] nothing ≡ left (Err Size) nothing
  columns_48 : (join (plain 30) (plain 19) (30 ∷ 19 ∷ []) (lent 0 0 48)).answer ≡ Ok (record { columns = 48; rows = 0 })
  rows_49 : cause (stack 25) (stack 24) (1 ∷ 1 ∷ []) ≡ Err Size
  rows_48 : (join (stack 24) (stack 24) (1 ∷ 1 ∷ []) (lent 48 48 1)).answer ≡ Ok (record { columns = 1; rows = 48 })
  -- last 2 for the lent lists, each of the eight
  lent_coefficients : join_cause first second (1 ∷ 1 ∷ 2 ∷ 2 ∷ []) (lent 5 2 3) ≡ Err Length
  lent_rights : join_cause first second (1 ∷ 1 ∷ 2 ∷ 2 ∷ []) (lent 6 3 3) ≡ Err Length
  lent_lower : join_cause first second (1 ∷ 1 ∷ 2 ∷ 2 ∷ []) (column_lists 4 3 3 3 3 3) ≡ Err Length
  lent_upper : join_cause first second (1 ∷ 1 ∷ 2 ∷ 2 ∷ []) (column_lists 3 2 3 3 3 3) ≡ Err Length
  lent_low : join_cause first second (1 ∷ 1 ∷ 2 ∷ 2 ∷ []) (column_lists 3 3 4 3 3 3) ≡ Err Length
  lent_high : join_cause first second (1 ∷ 1 ∷ 2 ∷ 2 ∷ []) (column_lists 3 3 3 2 3 3) ≡ Err Length
  lent_given : join_cause first second (1 ∷ 1 ∷ 2 ∷ 2 ∷ []) (column_lists 3 3 3 3 4 3) ≡ Err Length
  lent_ideals : join_cause first second (1 ∷ 1 ∷ 2 ∷ 2 ∷ []) (column_lists 3 3 3 3 3 2) ≡ Err Length

pub joining_cases : JoiningCases
unfolding every first_cause columns_from part_cause pair_check pair_up absorb places_from spread_from joined pairing join_cause join
joining_cases = record {
  whole = refl;
  crossed = refl;
  behind = refl;
  apart = refl;
  crossed_partners = refl;
  crossed_places = refl;
  crossed_first = refl;
  crossed_second = refl;
  behind_places = refl;
  behind_second = refl;
  any_mark = refl;
  no_mark = refl;
  first_size = refl;
  first_length = refl;
  first_coefficient = refl;
  first_bound = refl;
  first_goal = refl;
  second_size = refl;
  second_length = refl;
  second_coefficient = refl;
  second_bound = refl;
  second_goal = refl;
  half_goal = refl;
  odd = refl;
  odd_alone = refl;
  outside_first = refl;
  outside_second = refl;
  none_first = refl;
  none_second = refl;
  again_first = refl;
  again_second = refl;
  none_left = refl;
  none_left_second = refl;
  one_left = refl;
  taken_before_bounds = refl;
  bounds_then_pair = refl;
  pair_then_bounds = refl;
  pair_before_size = refl;
  bounds_before_size = refl;
  columns_49 = refl;
  columns_48 = refl;
  rows_49 = refl;
  rows_48 = refl;
  lent_coefficients = refl;
  lent_rights = refl;
  lent_lower = refl;
  lent_upper = refl;
  lent_low = refl;
  lent_high = refl;
  lent_given = refl;
  lent_ideals = refl;
}
