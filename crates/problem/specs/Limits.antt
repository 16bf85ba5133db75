-- Document 01, "The problem": its limits, named once.
--   max_columns, max_rows   "n columns, 1 to 48; m rows, 0 to 48"
--   max_coefficient         "Coefficients −1,000 to 1,000"
--   max_right               "Right sides −1,000,000 to 1,000,000"
--   max_bound               "a lower and an upper bound, both within ±1,000,000"
--   max_goal                "a goal in thousandths of an interval, 0 (no goal) to 1,000,000,000"
--   max_steps               "Step limit 0 to 65,535"
--   M                       "M is 2,147,483,647"
--   limits                  all of them; `Problem::limits` in src/ holds the code's constants to these
--   group_columns, group_rows   the same of a group: the columns and rows that one elimination forms together. A problem is one group today;
--                           the names are apart so that a problem may come to hold more than one group does
--   group_limits            both; `Group::limits` in src/ holds the code's constants to these
--   beyond x                x lies beyond ±M
--   any_beyond r            some number of the list does
-- Assumes nothing.
use Rattle.std.specs.Prelude.{Bool, false, ◌||◌, List, [], ◌∷◌, ℕ, ltb, ℤ, nat_abs}
use Rattle.problem.specs.declared.Limits.{Limits}
use Rattle.problem.specs.declared.groups.Group.{Group}

abbrev pub max_columns : ℕ
max_columns = 48

abbrev pub max_rows : ℕ
max_rows = 48

abbrev pub max_coefficient : ℕ
max_coefficient = 1000

abbrev pub max_right : ℕ
max_right = 1000000

abbrev pub max_bound : ℕ
max_bound = 1000000

abbrev pub max_goal : ℕ
max_goal = 1000000000

abbrev pub max_steps : ℕ
max_steps = 65535

abbrev pub M : ℕ
M = 2147483647

abbrev pub limits : Limits
limits = record {
  columns = max_columns;
  rows = max_rows;
  coefficient = max_coefficient;
  right = max_right;
  bound = max_bound;
  goal = max_goal;
  steps = max_steps;
  number = M;
}

abbrev pub group_columns : ℕ
group_columns = 48

abbrev pub group_rows : ℕ
group_rows = 48

abbrev pub group_limits : Group
group_limits = record { columns = group_columns; rows = group_rows }

abbrev pub beyond : ℤ → Bool
beyond x = ltb M (nat_abs x)

unfoldable pub any_beyond : List ℤ → Bool
any_beyond [] = false
any_beyond (x ∷ r) = beyond x || any_beyond r
