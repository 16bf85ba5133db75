-- Document 02, (ii), the reader's ideals: "From now on the reader gives such an interval an ideal: the mean, rounded down, of the ideals of all
-- intervals with a goal that have a nonzero coefficient in some row with it, each counted once. It is unset if there are none, and for slacks".
--   Stated            what a text states: its rows, how many of its columns are intervals, the coefficient of row i at column j, and the bounds and
--                     the goals of column j; stated_by makes one of the count of columns and the lists of a problem
--   has_goal S h      column h has a goal
--   ideal_of S h      the ideal of a column with a goal, document 02's, (v): after its bounds
--   in_row S i j      column j has a nonzero coefficient in row i
--   shares S j h      columns j and h have one in the same row
--   is_neighbour S j h h is to count for j
--   chosen t x k h    the numbers x of those columns that the test t admits, of k columns from column h on, each once
--   neighbour_ideals S j   the ideals of the neighbours of column j: the first columns are the intervals
--   total, mean       a list's sum, and its mean, rounded down; mean_by, of a sum over a count; nothing is set where the list is empty
--   is_plain_interval S j   "such an interval": column j is an interval without a goal
--   neighbour_wish S j what the reader hands in for column j
--   numbers_from f k j the numbers f j, f (j + 1) and on, k of them
--   given_of, ideals_of S k   the two lists of k columns: whether an ideal is set, and the number
-- "neighbour" is document 02's own term.
-- Assumes nothing.
use Rattle.std.specs.Prelude.{Bool, not, cond, ◌&&◌, List, [], ◌∷◌, ℕ, zero, suc, ◌+◌, ◌*◌, ltb, ℤ, pos, nat_abs, ◌+ℤ◌, length, None, Some}
use Rattle.whole.specs.Lists.{entry}
use Rattle.whole.specs.Quotient.{floor_quotient}
use Rattle.whole.specs.Tests.{is_zero, every}
use Rattle.goals.specs.Ideals.{goal_ideal}
use Rattle.goals.specs.Wishes.{Wish, into, wish_mark, wish_number}

pub record Stated : Type 0 where
  pub rows : ℕ
  pub intervals : ℕ
  pub coefficient : ℕ → ℕ → ℤ
  pub lower : ℕ → ℤ
  pub upper : ℕ → ℤ
  pub low : ℕ → ℤ
  pub high : ℕ → ℤ

-- coefficients, "n to a row without gaps"
abbrev pub stated_by : (n m k : ℕ) → (coefficients lower upper low high : List ℤ) → Stated
stated_by n m k coefficients lower upper low high = record {
  rows = m;
  intervals = k;
  coefficient = λ i j. entry (i * n + j) coefficients;
  lower = λ j. entry j lower;
  upper = λ j. entry j upper;
  low = λ j. entry j low;
  high = λ j. entry j high;
}

-- ---- "of the ideals of all intervals with a goal"
abbrev pub has_goal : Stated → ℕ → Bool
has_goal S h = not (is_zero (S.low h))

abbrev pub ideal_of : Stated → ℕ → ℤ
ideal_of S h = into (S.lower h) (S.upper h) (pos (goal_ideal (nat_abs (S.low h)) (nat_abs (S.high h))))

-- ---- "that have a nonzero coefficient in some row with it": not every row lacks it
abbrev pub in_row : Stated → ℕ → ℕ → Bool
in_row S i j = not (is_zero (S.coefficient i j))

abbrev pub shares : Stated → ℕ → ℕ → Bool
shares S j h = not (every S.rows (λ i. not (in_row S i j && in_row S i h)))

abbrev pub is_neighbour : Stated → ℕ → ℕ → Bool
is_neighbour S j h = has_goal S h && shares S j h

-- ---- "each counted once": a column comes once, however many rows it shares
unfoldable pub chosen : (ℕ → Bool) → (ℕ → ℤ) → ℕ → ℕ → List ℤ
chosen t x zero h = []
chosen t x (suc k) h = cond (t h) (x h ∷ chosen t x k (suc h)) (chosen t x k (suc h))

abbrev pub neighbour_ideals : Stated → ℕ → List ℤ
neighbour_ideals S j = chosen (is_neighbour S j) (ideal_of S) S.intervals 0

-- ---- "the mean, rounded down"
unfoldable pub total : List ℤ → ℤ
total [] = pos 0
total (x ∷ l) = x +ℤ total l

-- "It is unset if there are none"
abbrev pub mean_by : ℤ → ℕ → Wish
mean_by s zero = None
mean_by s (suc c) = Some (floor_quotient s (pos (suc c)))

abbrev pub mean : List ℤ → Wish
mean l = mean_by (total l) (length l)

-- ---- "the reader gives such an interval an ideal", "unset .. for slacks"; where there is a goal none is needed
abbrev pub is_plain_interval : Stated → ℕ → Bool
is_plain_interval S j = ltb j S.intervals && is_zero (S.low j)

unfoldable pub neighbour_wish : Stated → ℕ → Wish
neighbour_wish S j = cond (is_plain_interval S j) (mean (neighbour_ideals S j)) None

unfoldable pub numbers_from : (ℕ → ℤ) → ℕ → ℕ → List ℤ
numbers_from f zero j = []
numbers_from f (suc k) j = f j ∷ numbers_from f k (suc j)

abbrev pub given_of : Stated → ℕ → List ℤ
given_of S k = numbers_from (λ j. wish_mark (neighbour_wish S j)) k 0

abbrev pub ideals_of : Stated → ℕ → List ℤ
ideals_of S k = numbers_from (λ j. wish_number (neighbour_wish S j)) k 0
