-- Document 01, "The tableau": the steps that bring a table into its Hermite form, over unbounded whole numbers. Of the quotient that gathering
-- takes, `quotient`, document 02, (vii), says: "Gathering takes the nearest quotient, floor((2 × entry + p) / 2p), in place of the rounded-down one;
-- the rows above are reduced as now." So the steps are said of any quotient, and then taken with the nearest.
--   Left               a row after a subtraction, and whether that left a number beyond ±M in it
--   subtract q r s, kept s       q times r taken from s; no subtraction
--   reduced c r s      the row r taken from a row s above it, by their entries at c
--   Run                a table after the steps, and whether a subtraction of theirs left a number beyond ±M
--   each f B           the step f of each row in turn, top first
--   Choice             the row that gathering chooses, counted from row k, with its magnitude; `none` where all entries are 0
--   choose c B         that of the rows B at column c; by `shifted` and `prefer`, from the last row up
--   Gathered           row k and the rows below it after gathering, and whether a subtraction left a number beyond ±M
--   exchange, signed   what a round begins with: the chosen row to row k, its sign
--   onward over g      what gathering leaves, with a round's mark added
--   Passed             the rows above row k and those from it on after a column, and whether a subtraction left a number beyond ±M
-- of any quotient:
--   lowered_by c r s   the row r taken from a lower row s, by their entries at c
--   clear_by c r B     the lower rows B by the row r
--   round_by c b B     one round on row k, which is b, and the rows B below it
--   gather_by f c z b B   the rounds of one column, f at most
--   pass_column_by     one column c: gathering, then the rows above
--   pass_columns_by    d columns from c on
--   eliminate_by w T   all w columns of the table T, from left to right
-- with the nearest:
--   lowered, clear, round, gather, pass_column, pass_columns, eliminate   the same
-- A subtraction goes on with the number that it left, beyond ±M or not: `over` only remembers it. So the table is that of the rules over
-- unbounded numbers, and refusal 7 reads the mark.
-- Rows and columns are counted from 0; the rows above row k are kept in one list, the rows from k on in another.
-- Assumes nothing.
use Rattle.std.specs.Prelude.{Bool, false, cond, ◌||◌, List, [], ◌∷◌, ◌++◌, ℕ, zero, suc, leb, ℤ, pos, negsuc, neg_ℤ, nat_abs, get_or, set}
use Rattle.whole.specs.Lists.{entry}
use Rattle.whole.specs.Tests.{is_zero}
use Rattle.whole.specs.Quotient.{floor_quotient, nearest_quotient}
use Rattle.lattice.specs.Rows.{plus, neg}
use Rattle.problem.specs.Limits.{any_beyond}

-- ---- a subtraction
pub record Left : Type 0 where
  pub row : List ℤ
  pub over : Bool

-- q times r taken from s
abbrev pub subtract : ℤ → List ℤ → List ℤ → Left
subtract q r s = record { row = plus (neg_ℤ q) r s; over = any_beyond (plus (neg_ℤ q) r s) }

-- no subtraction
abbrev pub kept : List ℤ → Left
kept s = record { row = s; over = false }

-- "subtract the rounded-down quotient times row k, so that its entry lies in 0 to p − 1"
unfoldable pub reduced : ℕ → List ℤ → List ℤ → Left
reduced c r s = subtract (floor_quotient (entry c s) (entry c r)) r s

-- ---- a table after steps
pub record Run : Type 0 where
  pub table : List (List ℤ)
  pub over : Bool

-- each row in turn, top first
unfoldable pub each : (List ℤ → Left) → List (List ℤ) → Run
each f [] = record { table = []; over = false }
each f (s ∷ B) = record { table = (f s).row ∷ (each f B).table; over = (f s).over || (each f B).over }

-- ---- the choice: "the smallest magnitude other than 0, ties to the upper row"
pub data Choice : Type 0 where
  none : Choice
  at : ℕ → ℕ → Choice

-- the choice among lower rows, counted from one row further up
abbrev pub shifted : Choice → Choice
shifted none = none
shifted (at j p) = at (suc j) p

-- an entry of magnitude k above rows with a choice
abbrev pub prefer : ℕ → Choice → Choice
prefer zero z = shifted z
prefer (suc k) none = at 0 (suc k)
prefer (suc k) (at j p) = cond (leb (suc k) p) (at 0 (suc k)) (at (suc j) p)

unfoldable pub choose : ℕ → List (List ℤ) → Choice
choose c [] = none
choose c (r ∷ B) = prefer (nat_abs (entry c r)) (choose c B)

-- ---- a round of gathering, on row k, which is b, and the rows B below it
pub record Gathered : Type 0 where
  pub pivot : List ℤ
  pub below : List (List ℤ)
  pub over : Bool

-- "swap it with row k"
unfoldable pub exchange : Choice → List ℤ → List (List ℤ) → List ℤ × List (List ℤ)
exchange none b B = (b, B)
exchange (at zero p) b B = (b, B)
exchange (at (suc j) p) b B = (get_or B j b, set B j b)

-- "negate row k if its entry p is negative"
abbrev pub signed : ℤ → List ℤ → List ℤ
signed (pos p) r = r
signed (negsuc p) r = neg r

-- what follows on a round
abbrev pub onward : Bool → Gathered → Gathered
onward over g = record { pivot = g.pivot; below = g.below; over = over || g.over }

-- ---- one column, with the rows A above row k and the rows B from k on
pub record Passed : Type 0 where
  pub above : List (List ℤ)
  pub below : List (List ℤ)
  pub over : Bool

-- ---- the steps, of any quotient
module _ (quotient : ℤ → ℤ → ℤ) where
  -- "From each lower row with a nonzero entry subtract the quotient (entry by p) times row k"
  unfoldable pub lowered_by : ℕ → List ℤ → List ℤ → Left
  lowered_by c r s = cond (is_zero (entry c s)) (kept s) (subtract (quotient (entry c s) (entry c r)) r s)

  -- the lower rows, by the row r
  unfoldable pub clear_by : ℕ → List ℤ → List (List ℤ) → Gathered
  clear_by c r B = record { pivot = r; below = (each (lowered_by c r) B).table; over = (each (lowered_by c r) B).over }

  unfoldable pub round_by : ℕ → List ℤ → List (List ℤ) → Gathered
  round_by c b B =
      let x : List ℤ × List (List ℤ) = exchange (choose c (b ∷ B)) b B in
      clear_by c (signed (entry c x.0) x.0) x.1

  -- "Repeat until all lower entries are 0": a round, and more while the lower rows have a choice. Where the quotient leaves less than the pivot, the
  -- magnitude chosen falls with each round, so that as many rounds as the first one's are enough
  unfoldable pub gather_by : ℕ → ℕ → Choice → List ℤ → List (List ℤ) → Gathered
  gather_by zero c z b B = record { pivot = b; below = B; over = false }
  gather_by (suc f) c none b B = record { pivot = b; below = B; over = false }
  gather_by (suc f) c (at j p) b B =
      let x : Gathered = round_by c b B in
      onward x.over (gather_by f c (choose c x.below) x.pivot x.below)

  -- "If all entries at c there are 0, go to the next c." Else gathering; "Then from each row above k, top first, subtract"; "Add 1 to k"
  unfoldable pub pass_column_by : ℕ → List (List ℤ) → List (List ℤ) → Choice → Passed
  pass_column_by c A B none = record { above = A; below = B; over = false }
  pass_column_by c A [] (at j p) = record { above = A; below = []; over = false }
  pass_column_by c A (b ∷ B) (at j p) =
      let g : Gathered = gather_by p c (at j p) b B in
      let a : Run = each (reduced c g.pivot) A in
      record { above = a.table ++ (g.pivot ∷ []); below = g.below; over = g.over || a.over }

  -- "take the table's columns c from left to right while k ≤ n": d columns from c on. Past row n no row is left to choose from, and every further
  -- column is passed over
  unfoldable pub pass_columns_by : ℕ → ℕ → List (List ℤ) → List (List ℤ) → Run
  pass_columns_by zero c A B = record { table = A ++ B; over = false }
  pass_columns_by (suc d) c A B =
      let x : Passed = pass_column_by c A B (choose c B) in
      let y : Run = pass_columns_by d (suc c) x.above x.below in
      record { table = y.table; over = x.over || y.over }

  -- "Start with k = 1"
  unfoldable pub eliminate_by : ℕ → List (List ℤ) → Run
  eliminate_by w T = pass_columns_by w 0 [] T

-- ---- the steps, with the nearest quotient
abbrev pub lowered : ℕ → List ℤ → List ℤ → Left
lowered = lowered_by nearest_quotient

abbrev pub clear : ℕ → List ℤ → List (List ℤ) → Gathered
clear = clear_by nearest_quotient

abbrev pub round : ℕ → List ℤ → List (List ℤ) → Gathered
round = round_by nearest_quotient

abbrev pub gather : ℕ → ℕ → Choice → List ℤ → List (List ℤ) → Gathered
gather = gather_by nearest_quotient

abbrev pub pass_column : ℕ → List (List ℤ) → List (List ℤ) → Choice → Passed
pass_column = pass_column_by nearest_quotient

abbrev pub pass_columns : ℕ → ℕ → List (List ℤ) → List (List ℤ) → Run
pass_columns = pass_columns_by nearest_quotient

abbrev pub eliminate : ℕ → List (List ℤ) → Run
eliminate = eliminate_by nearest_quotient
