-- The calls as C makes them: what they return and what they leave in each lent buffer.
--   problem_of n m limit   a problem's numbers as one value
--   verdict_number a   1 FITTED, 2 OUTSIDE, 3 SPENT; 0 with a refusal
--   report_of a k      the report_length numbers that tell of a and its k rounds: the verdict's, the steps of the two parts, and the rounds
--   Called             what a call returns, and what the buffers that it fills and the report then hold; `returned` makes one of the three
--   told d             of a whole assignment or a Continue that has done d: the refusal's number, 0 for a verdict, and the report
--   untold B r         where the report r has a wrong length: refusal 2, "nothing changed"
--   called f P B r     either, by the length of r; f is `assign` or `continue`
-- Assumes nothing.
use Rattle.std.specs.Prelude.{cond, List, [], ◌∷◌, ℕ, eqb, length, Ok, Err}
use Rattle.problem.specs.Answers.{Answer, refusal_number, answer_number, answer_counts}
use Rattle.problem.specs.Checks.{Posed}
use Rattle.problem.specs.declared.Problem.{Problem}
use Rattle.problem.specs.declared.Refusal.TheVariants.{Length}
use Rattle.problem.specs.declared.Verdict.TheVariants.{Fitted, Outside, Spent}
use Rattle.engine.specs.Assign.{Buffers, buffers, Done}

abbrev pub problem_of : ℕ → ℕ → ℕ → Problem
problem_of n m limit = record { columns = n; rows = m; limit = limit }

abbrev pub verdict_number : Answer → ℕ
verdict_number (Ok (Fitted c)) = 1
verdict_number (Ok (Outside c)) = 2
verdict_number (Ok (Spent c)) = 3
verdict_number (Err why) = 0

abbrev pub report_length : ℕ
report_length = 4

abbrev pub report_of : Answer → ℕ → List ℕ
report_of a k = verdict_number a ∷ (answer_counts a).bounds ∷ (answer_counts a).goals ∷ k ∷ []

pub record Called : Type 0 where
  pub number : ℕ
  pub buffers : Buffers
  pub report : List ℕ

abbrev pub returned : ℕ → Buffers → List ℕ → Called
returned number buffers report = record { number = number; buffers = buffers; report = report }

abbrev pub told : Done → Called
told d = returned (answer_number d.answer) (buffers d.tableau d.values d.strides) (report_of d.answer d.rounds)

abbrev pub untold : Buffers → List ℕ → Called
untold B r = returned (refusal_number Length) B r

unfoldable pub called : (Posed → Buffers → Done) → Posed → Buffers → List ℕ → Called
called f P B r = cond (eqb (length r) report_length) (told (f P B)) (untold B r)
