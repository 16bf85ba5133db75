-- Document 01, "Continue, text, listing": the columns and the rows that the lines of a text state, and how the reader holds them.
--   slack_interval lo    "Each y goes up to 1,000,000, has no goal, and takes the next column after the intervals, in row order."
--   slack_column y       the y of a row, or none; slack_columns ls, those of the rows
--   coefficient_row ..   a row's n coefficients: its terms `placed`, and `with_slack` its y at column c; coefficient_rows, those of the rows
--   lower_of, upper_of, low_of, high_of, right_of   the numbers of an interval and of a row
--   padded size u        a buffer of size numbers that starts with the list u: "the rest becomes 0"; padded_by z, where the rest becomes z
--   blank n              n numbers that are 0; shut, since a long list of them is written out wherever it is open
--   no_interval          an interval of zeros
--   Tables               the reader's tables (declared in src/); `blank_line` and `blank_tables`, with nothing in them
-- Assumes nothing.
use Rattle.std.specs.Prelude.{List, [], ◌∷◌, ◌++◌, ℕ, ◌+◌, ◌-◌, ℤ, pos, length, set, replicate}
use Rattle.whole.specs.Lists.{zeros}
use Rattle.problem.specs.Limits.{max_bound}
use Rattle.problem.specs.Kinds.{Slack, none, slack, slack_of, slack_count}
use Rattle.sections.specs.Sections.{deck_columns, deck_rows, Line}
use Rattle.sections.specs.declared.Interval.{Interval}
use Rattle.sections.specs.declared.Tables.{Tables}
use Rattle.sections.specs.declared.Term.{Term}

abbrev pub slack_interval : ℕ → Interval
slack_interval lo = record { lower = pos lo; upper = pos max_bound; low = pos 0; high = pos 0 }

abbrev pub slack_column : Slack → List Interval
slack_column none = []
slack_column (slack c lo) = slack_interval lo ∷ []

unfoldable pub slack_columns : List Line → List Interval
slack_columns [] = []
slack_columns (l ∷ ls) = slack_column (slack_of l.row.kind) ++ slack_columns ls

-- the terms' coefficients at their columns; indices count from 1
unfoldable pub placed : List Term → List ℤ → List ℤ
placed [] u = u
placed (t ∷ ts) u = placed ts (set u (t.index - 1) t.coefficient)

abbrev pub with_slack : Slack → ℕ → List ℤ → List ℤ
with_slack none c u = u
with_slack (slack k lo) c u = set u c k

abbrev pub coefficient_row : ℕ → ℕ → Line → List ℤ
coefficient_row n c l = with_slack (slack_of l.row.kind) c (placed l.terms (zeros n))

-- the rows in order, where the next y is column c
unfoldable pub coefficient_rows : ℕ → ℕ → List Line → List (List ℤ)
coefficient_rows n c [] = []
coefficient_rows n c (l ∷ ls) = coefficient_row n c l ∷ coefficient_rows n (c + slack_count l.row.kind) ls

abbrev pub lower_of : Interval → ℤ
lower_of i = i.lower

abbrev pub upper_of : Interval → ℤ
upper_of i = i.upper

abbrev pub low_of : Interval → ℤ
low_of i = i.low

abbrev pub high_of : Interval → ℤ
high_of i = i.high

abbrev pub right_of : Line → ℤ
right_of l = l.row.right

-- ---- in buffers and in the reader's tables
abbrev pub padded_by : {A : Type 0} → A → ℕ → List A → List A
padded_by z size u = u ++ replicate (size - length u) z

abbrev pub padded : ℕ → List ℤ → List ℤ
padded size u = padded_by (pos 0) size u

unfoldable pub blank : ℕ → List ℤ
blank n = zeros n

abbrev pub no_interval : Interval
no_interval = record { lower = pos 0; upper = pos 0; low = pos 0; high = pos 0 }

abbrev pub blank_line : List ℤ
blank_line = blank deck_columns

unfoldable pub blank_tables : Tables
blank_tables = record {
  columns = replicate deck_columns no_interval;
  rights = zeros deck_rows;
  rows = replicate deck_rows (zeros deck_columns);
}
