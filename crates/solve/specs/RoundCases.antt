-- Document 02, (vii): the rounds of some of document 01's deck cases, of refusals met while the tableau is formed and after, and of restated rows.
--   Returned        an answer and the rounds beside it; `returns` makes one of both, `returned_by P` is that of the whole assignment of P
--   chain ..        document 01's chain of 1000 × v(k) = v(k + 1), of three columns and of five
--   crossing, crossing_turned   two rows, and the same in the other order
--   RoundCases      the cases, one to a field
-- Assumes nothing.
use Rattle.std.specs.Prelude.{◌≡◌, [], ◌∷◌, ℕ, pos, negsuc, replicate, Ok, Err}
use Rattle.problem.specs.Answers.{Answer}
use Rattle.problem.specs.Checks.{Posed}
use Rattle.problem.specs.declared.Refusal.TheVariants.{Elimination, NoWholeNumbers, Seating}
use Rattle.problem.specs.declared.Verdict.TheVariants.{Fitted, Spent}
use Rattle.engine.specs.Assign.{assign}
use Rattle.report.specs.Listing.{counts_of}
use Rattle.solve.specs.Cases.{problem, used, sum_and_difference, three_two, tied}

pub record Returned : Type 0 where
  pub answer : Answer
  pub rounds : ℕ

abbrev pub returns : Answer → ℕ → Returned
returns a k = record { answer = a; rounds = k }

abbrev pub returned_by : Posed → Returned
returned_by P = returns (assign P (used P)).answer (assign P (used P)).rounds

-- bounds 1..1,000,000, "first goal 1,000,000,000"
abbrev pub chain_of_three : Posed
chain_of_three =
    problem 3 2 (pos 1000 ∷ negsuc 0 ∷ pos 0 ∷ pos 0 ∷ pos 1000 ∷ negsuc 0 ∷ []) (replicate 2 (pos 0)) (replicate 3 (pos 1))
    (replicate 3 (pos 1000000)) (pos 1000000000 ∷ pos 0 ∷ pos 0 ∷ []) 10000

-- bounds 0..10, no goals
abbrev pub chain_of_five : Posed
chain_of_five =
    problem 5 4 (pos 1000 ∷ negsuc 0 ∷ pos 0 ∷ pos 0 ∷ pos 0 ∷ pos 0 ∷ pos 1000 ∷ negsuc 0 ∷ pos 0 ∷ pos 0 ∷ pos 0 ∷ pos 0 ∷ pos 1000 ∷ negsuc 0
    ∷ pos 0 ∷ pos 0 ∷ pos 0 ∷ pos 0 ∷ pos 1000 ∷ negsuc 0 ∷ []) (replicate 4 (pos 0)) (replicate 5 (pos 0)) (replicate 5 (pos 10))
    (replicate 5 (pos 0)) 10000

-- 3v1 = 2v2 and v1 = −3v2: the same lists satisfy the rows of both, 0, 0 alone
abbrev pub crossing : Posed
crossing =
    problem 2 2 (pos 3 ∷ negsuc 1 ∷ pos 1 ∷ pos 3 ∷ []) (replicate 2 (pos 0)) (replicate 2 (pos 0)) (replicate 2 (pos 9)) (replicate 2 (pos 0)) 10

abbrev pub crossing_turned : Posed
crossing_turned =
    problem 2 2 (pos 1 ∷ pos 3 ∷ pos 3 ∷ negsuc 1 ∷ []) (replicate 2 (pos 0)) (replicate 2 (pos 0)) (replicate 2 (pos 9)) (replicate 2 (pos 0)) 10

pub record RoundCases : Type 0 where
  -- 2v = 2: a lone entry
  pub lone :
      returned_by (problem 1 1 (pos 2 ∷ []) (pos 2 ∷ []) (pos 1 ∷ []) (pos 9 ∷ []) (pos 0 ∷ []) 10000)
      ≡ returns (Ok (Fitted (counts_of 0 0))) 1
  -- 3v1 = 2v2: 2, then 1, in the first column of the table, and 2 in the second
  pub three_two_lem : returned_by three_two ≡ returns (Ok (Fitted (counts_of 0 1))) 3
  -- v1 = v2: one for each column, whatever the limit is
  pub fitted : returned_by (tied 10000) ≡ returns (Ok (Fitted (counts_of 4 0))) 2
  pub spent : returned_by (tied 3) ≡ returns (Ok (Spent (counts_of 3 0))) 2
  -- "A refusal returns 0 rounds.": 8, 9 and 7
  pub none : returned_by sum_and_difference ≡ returns (Err NoWholeNumbers) 0
  pub far : returned_by chain_of_three ≡ returns (Err Seating) 0
  pub over : returned_by chain_of_five ≡ returns (Err Elimination) 0
  -- "Restated problems may differ in rounds": the rows of the one in the other's order
  pub restated :
      (returned_by crossing ≡ returns (Ok (Fitted (counts_of 0 0))) 3)
      × (returned_by crossing_turned ≡ returns (Ok (Fitted (counts_of 0 0))) 2)
