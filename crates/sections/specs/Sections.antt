-- Document 01, "Continue, text, listing": the first two sections of a text. "Sections: the count of intervals, then for each its lower, upper and
-- goal; the count of rows, then for each its kind, its number, its count of terms (0 to the count of intervals), then index and coefficient for each
-- term." Document 02, (v): "an interval's line in the text has four numbers", with "a low and a high goal" for the goal.
--   deck_columns, deck_rows   the most columns and rows of a text: the problem's
--   coefficient_count         the most coefficients
--   max_text                  "a text over 32,768 bytes is 11"
--   deck_sizes                columns, rows and bytes; `Sizes::limits` in src/ holds the code's constants to these
--   Interval, Term            declared in src/; Row and Kind are the problem's
--   Line                      a row with its terms
--   spanning s k why at       a number in −k to k
--   interval, intervals       an interval, by upper_from, top_goal and high_from with its top_high, and so many of them
--   PairRule                  a pair of goals is 5 in a text exactly where it is 5 in buffers; the theorem is `pair_rule`, in proofs/Limits
--   row                       a row's kind and number, by kind_of, row_of, with_room, kind and least_number
--   term, terms               a term, with its coefficient, and so many of them
--   line, lines               a row with its terms, and so many of them
--   interval_section s at     the section of intervals of the text s, from a place on
--   row_section s n at        the section of rows of a text with n intervals
-- Each section starts at the place where the one before ended, so that another can be put between or behind them.
-- Assumes nothing.
use Rattle.std.specs.Prelude.{◌≡◌, cond, ◌&&◌, List, [], ◌∷◌, ◌++◌, ℕ, zero, suc, ◌+◌, ◌*◌, ltb, ℤ, pos, nat_abs, neg_ℤ, Ok, Err}
use Rattle.std.specs.Int.Signed.{le_z}
use Rattle.whole.specs.Tests.{is_zero, in_range}
use Rattle.problem.specs.Limits.{max_columns, max_rows, max_coefficient, max_right, max_bound, max_goal}
use Rattle.problem.specs.Kinds.{slack_count}
use Rattle.problem.specs.Checks.{goal_fits}
use Rattle.problem.specs.declared.Kind.{Kind}
use Rattle.problem.specs.declared.Kind.TheVariants.{Equal, AtLeast, AtMost, Even}
use Rattle.problem.specs.declared.Row.{Row}
use Rattle.problem.specs.declared.Refusal.{Refusal}
use Rattle.problem.specs.declared.Refusal.TheVariants.{Size, Coefficient, Bound, Goal, Term as WrongTerm}
use Rattle.sections.specs.Rules.{Outcome, then, within, nonzero}
use Rattle.sections.specs.declared.Sizes.{Sizes}
use Rattle.sections.specs.declared.Interval.{Interval}
use Rattle.sections.specs.declared.Term.{Term}

abbrev pub deck_columns : ℕ
deck_columns = max_columns

abbrev pub deck_rows : ℕ
deck_rows = max_rows

abbrev pub coefficient_count : ℕ
coefficient_count = deck_rows * deck_columns

abbrev pub max_text : ℕ
max_text = 32768

abbrev pub deck_sizes : Sizes
deck_sizes = record { columns = deck_columns; rows = deck_rows; text = max_text }

-- a number in −k to k
abbrev pub spanning : List ℕ → ℕ → Refusal → ℕ → Outcome ℤ
spanning s k why at = within s (neg_ℤ (pos k)) (pos k) why at

-- ---- an interval: its lower, upper, low and high, each judged at its own place

-- lower at most upper, judged at the upper's place
abbrev pub upper_from : List ℕ → ℤ → ℕ → Outcome ℤ
upper_from s lower at = within s lower (pos max_bound) Bound at

-- the highest goal: "A column with a goal has lower bound 1 or more."
abbrev pub top_goal : ℤ → ℤ
top_goal lower = cond (le_z (pos 1) lower) (pos max_goal) (pos 0)

-- "both 0 or both set": the highest high goal with this low one
abbrev pub top_high : ℤ → ℤ
top_high low = cond (is_zero low) (pos 0) (pos max_goal)

-- "low at most high", judged at the high's place; "A pair that breaks the rule is refused as 5 is now."
abbrev pub high_from : List ℕ → ℤ → ℕ → Outcome ℤ
high_from s low at = within s low (top_high low) Goal at

abbrev pub interval : List ℕ → ℕ → Outcome Interval
interval s at =
    then (spanning s max_bound Bound at) (λ lower at.
    then (upper_from s lower at) (λ upper at.
    then (within s (pos 0) (top_goal lower) Goal at) (λ low at.
    then (high_from s low at) (λ high at.
    Ok (record { lower = lower; upper = upper; low = low; high = high }, at)))))

-- k intervals, after those done
unfoldable pub intervals : List ℕ → ℕ → List Interval → ℕ → Outcome (List Interval)
intervals s zero done at = Ok (done, at)
intervals s (suc k) done at = then (interval s at) (λ i at. intervals s k (done ++ (i ∷ [])) at)

abbrev pub interval_section : List ℕ → ℕ → Outcome (List Interval)
interval_section s at = then (within s (pos 1) (pos deck_columns) Size at) (λ n at. intervals s (nat_abs n) [] at)

-- "A pair that breaks the rule is refused as 5 is now": the ranges of both goals are cause 5's test of a column
abbrev pub PairRule : Type 0
PairRule = (lower low high : ℤ) → in_range (pos 0) (top_goal lower) low && in_range low (top_high low) high ≡ goal_fits lower low high

-- ---- a row's kind and number

-- "In the text these are 0, 1, 2, 3."; an even row's half is the number behind it, and 0 until that is read
abbrev pub kind_of : ℕ → Kind
kind_of zero = Equal
kind_of (suc zero) = AtLeast
kind_of (suc (suc zero)) = AtMost
kind_of (suc (suc (suc k))) = Even 0

-- the row of a kind with a number of its own, which is the least half of an even row
abbrev pub row_of : Kind → ℤ → Row
row_of Equal b = record { kind = Equal; right = b }
row_of AtLeast b = record { kind = AtLeast; right = b }
row_of AtMost b = record { kind = AtMost; right = b }
row_of (Even half) b = record { kind = Even (nat_abs b); right = pos 0 }

-- "or the row's kind makes a 49th column", judged at the kind's place, where there are columns already
abbrev pub with_room : ℕ → Kind → ℕ → Outcome Kind
with_room columns k at = cond (ltb deck_columns (columns + slack_count k)) (Err WrongTerm) (Ok (k, at))

abbrev pub kind : List ℕ → ℕ → ℕ → Outcome Kind
kind s columns at = then (within s (pos 0) (pos 3) WrongTerm at) (λ k at. with_room columns (kind_of (nat_abs k)) at)

-- the least number: an even row's "is 0 to 1,000,000"
abbrev pub least_number : Kind → ℤ
least_number Equal = neg_ℤ (pos max_right)
least_number AtLeast = neg_ℤ (pos max_right)
least_number AtMost = neg_ℤ (pos max_right)
least_number (Even half) = pos 0

abbrev pub row : List ℕ → ℕ → ℕ → Outcome Row
row s columns at =
    then (kind s columns at) (λ k at.
    then (within s (least_number k) (pos max_right) Coefficient at) (λ b at.
    Ok (row_of k b, at)))

-- ---- a row's terms

-- "A coefficient isn't 0."
abbrev pub coefficient : List ℕ → ℕ → Outcome ℤ
coefficient s at = nonzero WrongTerm (spanning s max_coefficient Coefficient at)

-- "Indices name intervals, from 1, and rise strictly within a row."
abbrev pub term : List ℕ → ℕ → ℕ → ℕ → Outcome Term
term s last count at =
    then (within s (pos (last + 1)) (pos count) WrongTerm at) (λ j at.
    then (coefficient s at) (λ c at.
    Ok (record { index = nat_abs j; coefficient = c }, at)))

-- k terms with indices above last, after those done
unfoldable pub terms : List ℕ → ℕ → ℕ → ℕ → List Term → ℕ → Outcome (List Term)
terms s zero last count done at = Ok (done, at)
terms s (suc k) last count done at = then (term s last count at) (λ t at. terms s k t.index count (done ++ (t ∷ [])) at)

-- ---- the rows
pub record Line : Type 0 where
  pub row : Row
  pub terms : List Term

-- a row of a text with count intervals, where there are columns already
abbrev pub line : List ℕ → ℕ → ℕ → ℕ → Outcome Line
line s count columns at =
    then (row s columns at) (λ r at.
    then (within s (pos 0) (pos count) WrongTerm at) (λ k at.
    then (terms s (nat_abs k) 0 count [] at) (λ us at.
    Ok (record { row = r; terms = us }, at))))

-- k rows, after those done
unfoldable pub lines : List ℕ → ℕ → ℕ → ℕ → List Line → ℕ → Outcome (List Line)
lines s zero count columns done at = Ok (done, at)
lines s (suc k) count columns done at =
    then (line s count columns at) (λ l at. lines s k count (columns + slack_count l.row.kind) (done ++ (l ∷ [])) at)

abbrev pub row_section : List ℕ → ℕ → ℕ → Outcome (List Line)
row_section s count at = then (within s (pos 0) (pos deck_rows) Size at) (λ m at. lines s (nat_abs m) count count [] at)
