-- Document 02, (vi): the columns of the joined problem, and where those of the second part come.
--   goal_by a b both       of two goals, where 0 is none: the other one, or `both` where both are set; goal_of f a b, where that is made by f
--   set_first a b          of two marks, where 0 is none: the first one that is set
--   shared c d             the column that c of the first and d of the second become
--   absorb L R C           the columns L joined with the second's columns C, whose partners are R, as `pair_up` leaves them: a
--                          shared one is put together with its partner, an unshared one comes behind
--   places_from k R        the place of each of these columns among the joined ones, counted from 0, where the next unshared one comes to place k
--   places P R             those of all columns of the second
--   unshared R             how many columns of the second have no partner
--   joined_count P R       how many columns there are then
--   joined_columns P Q R   all of them
-- Assumes nothing.
use Rattle.std.specs.Prelude.{cond, List, [], ◌∷◌, ◌++◌, ℕ, suc, ◌+◌, ℤ, set, count_by, Option, Some, None, is_none}
use Rattle.whole.specs.Tests.{is_zero}
use Rattle.pairing.specs.Parts.{Part, PartColumn, columns, at}
use Rattle.pairing.specs.Pairs.{larger, smaller}

-- "where one has no goal, the other's are taken": a low and a high goal are both 0 or both set, so that each can be judged by itself
abbrev pub goal_by : ℤ → ℤ → ℤ → ℤ
goal_by a b both = cond (is_zero a) b (cond (is_zero b) a both)

abbrev pub goal_of : (ℤ → ℤ → ℤ) → ℤ → ℤ → ℤ
goal_of f a b = goal_by a b (f a b)

abbrev pub set_first : ℤ → ℤ → ℤ
set_first a b = cond (is_zero a) b a

-- "A shared column takes the larger lower and the smaller upper bound, the lowest low and the highest high goal; [..] A set ideal comes along with
-- its column, the first's where both have one." Where the first's mark is 0, the second's mark and number are taken as they are.
abbrev pub shared : PartColumn → PartColumn → PartColumn
shared c d = record {
  lower = larger c.lower d.lower;
  upper = smaller c.upper d.upper;
  low = goal_of smaller c.low d.low;
  high = goal_of larger c.high d.high;
  given = set_first c.given d.given;
  ideal = cond (is_zero c.given) d.ideal c.ideal;
}

-- "the first's columns, then the second's unshared ones in order"
unfoldable pub absorb : List PartColumn → List (Option ℕ) → List PartColumn → List PartColumn
absorb L [] C = L
absorb L (p ∷ R) [] = L
absorb L (None ∷ R) (c ∷ C) = absorb (L ++ (c ∷ [])) R C
absorb L (Some i ∷ R) (c ∷ C) = absorb (set L i (shared (at L i) c)) R C

unfoldable pub places_from : ℕ → List (Option ℕ) → List ℕ
places_from k [] = []
places_from k (None ∷ R) = k ∷ places_from (suc k) R
places_from k (Some i ∷ R) = i ∷ places_from k R

abbrev pub places : Part → List (Option ℕ) → List ℕ
places P R = places_from P.columns R

abbrev pub unshared : List (Option ℕ) → ℕ
unshared R = count_by is_none R

abbrev pub joined_count : Part → List (Option ℕ) → ℕ
joined_count P R = P.columns + unshared R

abbrev pub joined_columns : Part → Part → List (Option ℕ) → List PartColumn
joined_columns P Q R = absorb (columns P) R (columns Q)
