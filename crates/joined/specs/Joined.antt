-- Document 02, (vi): the joined problem, and the shares of a list.
--   padded k a            a row of the first part with k more columns behind it
--   spread_from r S a     each coefficient of a put into r at its column's place
--   spread n S a          a row of the second part over n columns, its columns at the places S
--   joined_matrix P Q R   the rows
--   lists_of A b C        the eight lists of the rows A, the right sides b and the columns C
--   joined P Q R          the joined problem, with the partners R
--   first_share, second_share   "its two shares": the first n1 numbers; the numbers at the places of the second's columns
-- Assumes nothing.
use Rattle.std.specs.Prelude.{List, [], ◌∷◌, ◌++◌, map, ℕ, ◌+◌, ℤ, set, take, Option}
use Rattle.whole.specs.Lists.{entry, zeros}
use Rattle.lattice.specs.Rows.{flat}
use Rattle.pairing.specs.Parts.{Lists, Part, PartColumn, matrix}
use Rattle.joined.specs.Columns.{places, unshared, joined_count, joined_columns}

-- ---- rows
abbrev pub padded : ℕ → List ℤ → List ℤ
padded k a = a ++ zeros k

unfoldable pub spread_from : List ℤ → List ℕ → List ℤ → List ℤ
spread_from r [] a = r
spread_from r (i ∷ S) [] = r
spread_from r (i ∷ S) (x ∷ a) = spread_from (set r i x) S a

abbrev pub spread : ℕ → List ℕ → List ℤ → List ℤ
spread n S a = spread_from (zeros n) S a

-- "the rows of both, the first's first"
abbrev pub joined_matrix : Part → Part → List (Option ℕ) → List (List ℤ)
joined_matrix P Q R = map (padded (unshared R)) (matrix P) ++ map (spread (joined_count P R) (places P R)) (matrix Q)

-- ---- the problem
abbrev pub lists_of : List (List ℤ) → List ℤ → List PartColumn → Lists
lists_of A b C = record {
  coefficients = flat A;
  rights = b;
  lower = map (λ c. c.lower) C;
  upper = map (λ c. c.upper) C;
  low = map (λ c. c.low) C;
  high = map (λ c. c.high) C;
  given = map (λ c. c.given) C;
  ideals = map (λ c. c.ideal) C;
}

unfoldable pub joined : Part → Part → List (Option ℕ) → Part
joined P Q R = record {
  columns = joined_count P R;
  rows = P.rows + Q.rows;
  lists = lists_of (joined_matrix P Q R) (P.lists.rights ++ Q.lists.rights) (joined_columns P Q R);
}

-- ---- shares
abbrev pub first_share : Part → List ℤ → List ℤ
first_share P x = take P.columns x

abbrev pub second_share : List ℕ → List ℤ → List ℤ
second_share S x = map (λ i. entry i x) S
