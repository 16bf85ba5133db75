-- The columns of a problem as seating and settling see them, and the table in which they are lent.
--   Column             what a problem says of one column, "Each column's record now holds a low and a high goal" (document 02, (v)): its bounds,
--                      its goals, both 0 for none, and its wish (declared in src/)
--   Columns            their count n, and each of them; a list of values has n numbers
--   Cell               a column's bounds and goals, and its value (declared in src/)
--   valued c x         a column with the value x; cell C v j, column j with its value in the list v
--   column_of lo hi a b w   the column with the bounds lo and hi and the goals a and b, where the wish w is handed in
--   listed n lo ..     the n columns of a list of lower bounds, one of upper bounds, one of low and one of high goals, and of ideals one of marks
--                      and one of numbers
--   blank_column       bounds of 0, no goal and no wish
--   column_at t j      the j-th column of the table t, blank behind its end
--   columns_in n t     the n columns of a table
--   packed C           the table of the columns C, one after the other; packed_from f k j, of k columns from column j on
-- Assumes nothing.
use Rattle.std.specs.Prelude.{List, [], ◌∷◌, ℕ, zero, suc, ℤ, pos, None, get_or}
use Rattle.whole.specs.Lists.{entry}
use Rattle.settling.specs.declared.Cell.{Cell}
use Rattle.settling.specs.declared.Column.{Column}
use Rattle.goals.specs.Wishes.{Wish, wish_of, column_wish}

pub record Columns : Type 0 where
  pub count : ℕ
  pub column : ℕ → Column

abbrev pub valued : Column → ℤ → Cell
valued c x = record { lower = c.lower; upper = c.upper; low = c.low; high = c.high; value = x }

abbrev pub cell : Columns → List ℤ → ℕ → Cell
cell C v j = valued (C.column j) (entry j v)

-- ---- of a problem's lists
abbrev pub column_of : ℤ → ℤ → ℤ → ℤ → Wish → Column
column_of lo hi a b w = record { lower = lo; upper = hi; low = a; high = b; wish = column_wish a b w }

abbrev pub listed : ℕ → List ℤ → List ℤ → List ℤ → List ℤ → List ℤ → List ℤ → Columns
listed n lo hi gs hs ms xs = record {
  count = n;
  column = λ j. column_of (entry j lo) (entry j hi) (entry j gs) (entry j hs) (wish_of (entry j ms) (entry j xs));
}

-- ---- in a table
abbrev pub blank_column : Column
blank_column = record { lower = pos 0; upper = pos 0; low = pos 0; high = pos 0; wish = None }

abbrev pub column_at : List Column → ℕ → Column
column_at t j = get_or t j blank_column

abbrev pub columns_in : ℕ → List Column → Columns
columns_in n t = record { count = n; column = column_at t }

unfoldable pub packed_from : (ℕ → Column) → ℕ → ℕ → List Column
packed_from f zero j = []
packed_from f (suc k) j = f j ∷ packed_from f k (suc j)

abbrev pub packed : Columns → List Column
packed C = packed_from C.column C.count 0
