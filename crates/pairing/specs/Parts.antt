-- Document 02, (vi): the two parts of a join, as they are handed in.
--   Lists              a problem's eight lists: the coefficients, n to a row, and the right sides; of the columns the bounds, the low and high goals,
--                      the marks of the ideals that are set, 0 where none is, and their numbers
--   Part               a problem without a step limit, its sizes and its lists: "Two blocks of a hull share curves."
--   lists, part_of     the eight lists of a call's arguments, and a part of its sizes (Sizes is declared in src/) and its lists
--   lent_lists         what the lists hold that are lent as one argument (declared in the problem's src/); mut_lists, those that are lent to be
--                      filled
--   sized n m limit    the sizes as a problem's numbers, with a step limit
--   as_posed P limit   a part as a call takes it, with a step limit
--   room_for p         the lengths of the buffers that a call on the problem p fills
--   matrix P           its rows
--   PartColumn         what a part says of one column; no_column stands past the last one
--   column_in l j      what the lists l say of column j, counted from 0
--   columns_from l j k those of k columns from column j on; columns P, all columns of P in order; at C j, the column at place j
--   lists_fit p l      cause 2 does not hold: each list is exactly as long as n and m need
--   part_cause P       the first cause of 1 to 5 that holds of a part
--   in_bounds P x      each number lies in its column's bounds
--   Fulfils P x        x satisfies the rows of P and lies in its bounds
-- Assumes nothing.
use Rattle.std.specs.Prelude.{◌≡◌, Bool, true, ◌&&◌, List, [], ◌∷◌, ℕ, zero, suc, ◌+◌, ◌*◌, ℤ, pos, get_or}
use Rattle.whole.specs.Lists.{entry}
use Rattle.whole.specs.Tests.{in_range, every}
use Rattle.lattice.specs.Rows.{chop}
use Rattle.lattice.specs.Sums.{Satisfies}
use Rattle.problem.specs.Checks.{Posed, row_lengths_fit, column_lengths_fit, ideal_lengths_fit, first_cause}
use Rattle.problem.specs.declared.Problem.{Problem}
use Rattle.problem.specs.declared.Lent.{Lent}
use Rattle.problem.specs.declared.Lists as Declared
use Rattle.problem.specs.declared.ListsMut as DeclaredMut
use Rattle.problem.specs.Checks.{Check}
use Rattle.pairing.specs.declared.Sizes.{Sizes}

pub record Lists : Type 0 where
  pub coefficients : List ℤ
  pub rights : List ℤ
  pub lower : List ℤ
  pub upper : List ℤ
  pub low : List ℤ
  pub high : List ℤ
  pub given : List ℤ
  pub ideals : List ℤ

pub record Part : Type 0 where
  pub columns : ℕ
  pub rows : ℕ
  pub lists : Lists

abbrev pub lists : List ℤ → List ℤ → List ℤ → List ℤ → List ℤ → List ℤ → List ℤ → List ℤ → Lists
lists coefficients rights lower upper low high given ideals = record {
  coefficients = coefficients;
  rights = rights;
  lower = lower;
  upper = upper;
  low = low;
  high = high;
  given = given;
  ideals = ideals;
}

-- of lists that are lent (declared in the problem's src/), what they hold
abbrev pub lent_lists : Declared.Lists → Lists
lent_lists l =
    lists l.coefficients.now l.rights.now l.lower.now l.upper.now l.low.now l.high.now l.given.now l.ideals.now

abbrev pub mut_lists : DeclaredMut.ListsMut → Lists
mut_lists l =
    lists l.coefficients.now l.rights.now l.lower.now l.upper.now l.low.now l.high.now l.given.now l.ideals.now

abbrev pub part_of : Sizes → Lists → Part
part_of s l = record { columns = s.columns; rows = s.rows; lists = l }

abbrev pub sized : ℕ → ℕ → ℕ → Problem
sized n m limit = record { columns = n; rows = m; limit = limit }

abbrev pub as_posed : Part → ℕ → Posed
as_posed P limit = record {
  problem = sized P.columns P.rows limit;
  coefficients = P.lists.coefficients;
  rights = P.lists.rights;
  lower = P.lists.lower;
  upper = P.lists.upper;
  low = P.lists.low;
  high = P.lists.high;
  given = P.lists.given;
  ideals = P.lists.ideals;
}

abbrev pub matrix : Part → List (List ℤ)
matrix P = chop P.rows P.columns P.lists.coefficients

-- ---- the columns
pub record PartColumn : Type 0 where
  pub lower : ℤ
  pub upper : ℤ
  pub low : ℤ
  pub high : ℤ
  pub given : ℤ
  pub ideal : ℤ

abbrev pub no_column : PartColumn
no_column = record { lower = pos 0; upper = pos 0; low = pos 0; high = pos 0; given = pos 0; ideal = pos 0 }

abbrev pub column_in : Lists → ℕ → PartColumn
column_in l j = record {
  lower = entry j l.lower;
  upper = entry j l.upper;
  low = entry j l.low;
  high = entry j l.high;
  given = entry j l.given;
  ideal = entry j l.ideals;
}

unfoldable pub columns_from : Lists → ℕ → ℕ → List PartColumn
columns_from l j zero = []
columns_from l j (suc k) = column_in l j ∷ columns_from l (suc j) k

abbrev pub columns : Part → List PartColumn
columns P = columns_from P.lists 0 P.columns

abbrev pub at : List PartColumn → ℕ → PartColumn
at C j = get_or C j no_column

-- ---- causes 1 to 5
abbrev pub lists_fit : Problem → Lists → Bool
lists_fit p l =
    row_lengths_fit p l.coefficients l.rights
    && (column_lengths_fit p l.lower l.upper l.low l.high && ideal_lengths_fit p l.given l.ideals)

abbrev pub room_for : Problem → Lent
room_for p = record { tableau = p.columns * (p.rows + p.columns); values = p.columns; strides = p.columns }

-- "1 to 5 of the first part, then the second's": those of any problem. Its own lists are looked at for 2; the step limit 0 and buffers of the right
-- lengths are no cause.
unfoldable pub part_cause : Part → Check
part_cause P = first_cause (as_posed P 0) (room_for (sized P.columns P.rows 0))

-- ---- what a list is to keep: "satisfies the joined rows and bounds"
abbrev pub in_bounds : Part → List ℤ → Bool
in_bounds P x = every P.columns (λ j. in_range (entry j P.lists.lower) (entry j P.lists.upper) (entry j x))

pub record Fulfils (P : Part) (x : List ℤ) : Type 0 where
  pub rows : Satisfies P.columns (matrix P) P.lists.rights x
  pub bounds : in_bounds P x ≡ true
