-- Cases of an interval's line that the checker computes.
--   digit, minus_one, letter   a number in front of a text: of one digit, −1; and a run that is none
--   reads s           what the line s gives
--   IntervalCases     the cases, one to a field; interval-cases, they hold
-- Assumes nothing.
use mathlib.Core.Path.{◌≡◌, refl}
use mathlib.Core.List.{List, [], ◌∷◌}
use Prim.Native.Nat.{ℕ, ◌+◌}
use lib.IntN.{pos}
use Rattle.text.specs.Tokens.{all_digits, value}
use Rattle.text.specs.Positions.{stretch}
use Rattle.problem.specs.declared.Refusal.TheVariants.{Goal, Layout}
use Rattle.std.proofs.Common.{Ok, Err}
use Rattle.sections.specs.Rules.{Outcome}
use Rattle.sections.specs.Sections.{interval}
use Rattle.sections.specs.declared.Interval.{Interval}

abbrev pub digit : ℕ → List ℕ → List ℕ
digit k s = (48 + k) ∷ 32 ∷ s

abbrev pub minus_one : List ℕ → List ℕ
minus_one s = 45 ∷ digit 1 s

abbrev letter : List ℕ → List ℕ
letter s = 120 ∷ 32 ∷ s

abbrev reads : List ℕ → Outcome Interval
reads s = interval s 0

pub record IntervalCases : Type 0 where
  -- "an interval's line in the text has four numbers"
  apart : reads (digit 1 (digit 9 (digit 2 (digit 4 [])))) ≡ Ok (record { lower = pos 1; upper = pos 9; low = pos 2; high = pos 4 }, 7)
  equal : reads (digit 1 (digit 9 (digit 4 (digit 4 [])))) ≡ Ok (record { lower = pos 1; upper = pos 9; low = pos 4; high = pos 4 }, 7)
  no_goal : reads (digit 0 (digit 9 (digit 0 (digit 0 [])))) ≡ Ok (record { lower = pos 0; upper = pos 9; low = pos 0; high = pos 0 }, 7)
  three : reads (digit 1 (digit 9 (digit 4 []))) ≡ Err Layout
  -- "low at most high", "both 0 or both set": 5 at the high's place
  crossed : reads (digit 1 (digit 9 (digit 4 (digit 2 [])))) ≡ Err Goal
  high_alone : reads (digit 1 (digit 9 (digit 0 (digit 4 [])))) ≡ Err Goal
  low_alone : reads (digit 1 (digit 9 (digit 4 (digit 0 [])))) ≡ Err Goal
  -- 5 at the low's place, whatever stands behind it
  negative : reads (digit 1 (digit 9 (minus_one (letter [])))) ≡ Err Goal
  lower_zero : reads (digit 0 (digit 9 (digit 4 (letter [])))) ≡ Err Goal
  -- a good low before what is no number
  no_number : reads (digit 1 (digit 9 (digit 4 (letter [])))) ≡ Err Layout

pub interval_cases : IntervalCases
unfolding all_digits value stretch
interval_cases = record {
  apart = refl;
  equal = refl;
  no_goal = refl;
  three = refl;
  crossed = refl;
  high_alone = refl;
  low_alone = refl;
  negative = refl;
  lower_zero = refl;
  no_number = refl;
}
