-- Document 01, "Continue, text, listing": the problem that a text states, with the ideals of document 02, (ii), and the volumes of (iii).
--   Deck            the intervals, the lines and the volumes of a text
--   deck s          the deck of a text's sections, one after the other, and nothing behind them
--   read_deck s     the deck that the text s states, or the refusal of its first place that breaks a rule
--   all_lines d     the rows: the lines, and "after all rows so far" those that the volumes add
--   columns_of d    the columns: the intervals, then the y of each row that has one; count_of d, how many
--   coefficients_of, lowers, uppers, lows, highs d   the lists that the deck states, of just the lengths that n and m need
--   stated d        what it states of its rows and columns
--   posed limit d   the problem: these lists, and "the reader gives such an interval an ideal"
--   TextGoalsFit    in the problem of a text that is read no pair of goals breaks its rule; the theorem is `text_goals_fit`, in proofs/Pairs
-- Assumes nothing.
use Rattle.std.specs.Prelude.{◌≡◌, true, cond, List, ◌++◌, map, ℕ, ltb, ℤ, length, Ok, Err}
use Rattle.problem.specs.Checks.{Posed, goals_fit}
use Rattle.problem.specs.declared.Refusal.TheVariants.{Layout}
use Rattle.neighbours.specs.Neighbours.{Stated, stated_by, given_of, ideals_of}
use Rattle.lattice.specs.Rows.{flat}
use Rattle.sections.specs.Rules.{Outcome, then, closed}
use Rattle.sections.specs.Sections.{max_text, Line, interval_section, row_section}
use Rattle.volumes.specs.Volumes.{Volume, volume_section}
use Rattle.volumes.specs.PathLines.{swept_lines}
use Rattle.sections.specs.StatedColumns.{slack_columns, coefficient_rows, lower_of, upper_of, low_of, high_of, right_of}
use Rattle.sections.specs.declared.Interval.{Interval}

pub record Deck : Type 0 where
  pub intervals : List Interval
  pub lines : List Line
  pub volumes : List Volume

abbrev pub deck : List ℕ → Outcome Deck
deck s =
    then (interval_section s 0) (λ is at.
    then (row_section s (length is) at) (λ ls at.
    then (volume_section s (length is) (length ls) at) (λ vs at.
    closed s (record { intervals = is; lines = ls; volumes = vs }) at)))

-- "a text over 32,768 bytes is 11"
unfoldable pub read_deck : List ℕ → Outcome Deck
read_deck s = cond (ltb max_text (length s)) (Err Layout) (deck s)

abbrev pub all_lines : Deck → List Line
all_lines d = d.lines ++ swept_lines d.volumes

abbrev pub columns_of : Deck → List Interval
columns_of d = d.intervals ++ slack_columns (all_lines d)

abbrev pub count_of : Deck → ℕ
count_of d = length (columns_of d)

abbrev pub coefficients_of : Deck → List ℤ
coefficients_of d = flat (coefficient_rows (count_of d) (length d.intervals) (all_lines d))

abbrev pub lowers : Deck → List ℤ
lowers d = map lower_of (columns_of d)

abbrev pub uppers : Deck → List ℤ
uppers d = map upper_of (columns_of d)

abbrev pub lows : Deck → List ℤ
lows d = map low_of (columns_of d)

abbrev pub highs : Deck → List ℤ
highs d = map high_of (columns_of d)

abbrev pub stated : Deck → Stated
stated d =
    stated_by (count_of d) (length (all_lines d)) (length d.intervals) (coefficients_of d) (lowers d) (uppers d) (lows d) (highs d)

unfoldable pub posed : ℕ → Deck → Posed
posed limit d = record {
  problem = record { columns = count_of d; rows = length (all_lines d); limit = limit };
  coefficients = coefficients_of d;
  rights = map right_of (all_lines d);
  lower = lowers d;
  upper = uppers d;
  low = lows d;
  high = highs d;
  given = given_of (stated d) (count_of d);
  ideals = ideals_of (stated d) (count_of d);
}

-- ---- document 02, (v): "A pair that breaks the rule is refused as 5 is now."
abbrev pub TextGoalsFit : Type 0
TextGoalsFit = (s : List ℕ) (d : Deck) (at : ℕ) → read_deck s ≡ Ok (d, at) → goals_fit (lowers d) (lows d) (highs d) ≡ true
