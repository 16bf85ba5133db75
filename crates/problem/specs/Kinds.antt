-- Document 01, "Continue, text, listing": "A row has a kind, equal, at least, at most or even with its least half."
--   Slack        the y of a row: its coefficient in the row and its lower bound; `none` for an equal row
--   slack_of k   "Equal: sum = number. At least: sum − y = number, y from 0. At most: sum + y = number, y from 0. Even: sum − 2y = 0, y from the
--                number, which is 0 to 1,000,000."
--   slack_columns y, slack_count k   how many columns a y is, and how many the kind adds
-- Assumes nothing.
use Rattle.std.specs.Prelude.{ℕ, ℤ, pos, negsuc}
use Rattle.problem.specs.declared.Kind.{Kind}
use Rattle.problem.specs.declared.Kind.TheVariants.{Equal, AtLeast, AtMost, Even}

pub data Slack : Type 0 where
  none : Slack
  slack : ℤ → ℕ → Slack

abbrev pub slack_of : Kind → Slack
slack_of Equal = none
slack_of AtLeast = slack (negsuc 0) 0
slack_of AtMost = slack (pos 1) 0
slack_of (Even half) = slack (negsuc 1) half

abbrev pub slack_columns : Slack → ℕ
slack_columns none = 0
slack_columns (slack c low) = 1

abbrev pub slack_count : Kind → ℕ
slack_count k = slack_columns (slack_of k)
