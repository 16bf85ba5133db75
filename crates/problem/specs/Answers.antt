-- What calls answer, in document 01's numbers and those that document 02 adds.
--   refusal_number r   the number of the table "Turned back"
--   Answer             a verdict, or why a call is turned back
--   verdict_counts x   the step counts of the two parts
--   answer_number a    that of a refusal; 0 for a verdict
--   answer_counts a    those of its verdict; with a refusal "number, counts 0"
--   no_steps           no step in either part
--   is_verdict a       FITTED, OUTSIDE or SPENT
-- Assumes nothing.
use Rattle.std.specs.Prelude.{Bool, true, false, ℕ, Result, Ok, Err}
use Rattle.problem.specs.declared.Refusal.{Refusal}
use Rattle.problem.specs.declared.Refusal.TheVariants.{Size, Length, Coefficient, Bound, Goal, Limit}
use Rattle.problem.specs.declared.Refusal.TheVariants.{Elimination, NoWholeNumbers, Seating, Standing, Layout, Term, Volume, Pair, PairBounds}
use Rattle.problem.specs.declared.Counts.{Counts}
use Rattle.problem.specs.declared.Verdict.{Verdict}
use Rattle.problem.specs.declared.Verdict.TheVariants.{Fitted, Outside, Spent}

-- FITTED, OUTSIDE or SPENT with its step counts, or the refusal that turns the call back
abbrev pub Answer : Type 0
Answer = Result Verdict Refusal

abbrev pub refusal_number : Refusal → ℕ
-- "n or m outside"; document 02, (iii): "a count of paths that makes a 49th row"; (vi): "a joined size beyond 48"
refusal_number Size = 1
-- "a lent length not exactly what n and m need"; document 02, (vi): "a pair list of odd length"
refusal_number Length = 2
-- "coefficient, right side or least half outside"
refusal_number Coefficient = 3
-- "bound outside, or lower above upper"
refusal_number Bound = 4
-- "goal outside, or goal with lower below 1"
refusal_number Goal = 5
-- "step limit outside"
refusal_number Limit = 6
-- "elimination number beyond M"
refusal_number Elimination = 7
-- "no whole numbers"
refusal_number NoWholeNumbers = 8
-- "a value beyond ±M after a seating addition"
refusal_number Seating = 9
-- "Continue: list beyond ±M or failing a row"
refusal_number Standing = 10
-- "text not as laid out, short or long"
refusal_number Layout = 11
-- "kind, term count, index or zero coefficient wrong, or the row's kind makes a 49th column"
refusal_number Term = 12
-- document 02, (iii): "a negative count of volumes, a count of paths or of a path's intervals below 1, or an index outside or twice in one path"
refusal_number Volume = 13
-- document 02, (vi): "a pair with a column outside or used before"
refusal_number Pair = 14
-- "bounds of a pair that leave nothing"
refusal_number PairBounds = 15

abbrev pub no_steps : Counts
no_steps = record { bounds = 0; goals = 0 }

abbrev pub verdict_counts : Verdict → Counts
verdict_counts (Fitted c) = c
verdict_counts (Outside c) = c
verdict_counts (Spent c) = c

abbrev pub answer_number : Answer → ℕ
answer_number (Ok verdict) = 0
answer_number (Err why) = refusal_number why

abbrev pub answer_counts : Answer → Counts
answer_counts (Ok verdict) = verdict_counts verdict
answer_counts (Err why) = no_steps

abbrev pub is_verdict : Answer → Bool
is_verdict (Ok verdict) = true
is_verdict (Err why) = false
