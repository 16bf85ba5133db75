-- The deck cases that document 01 marks with *, as one table of the definitions.
--   problem ..      a problem in lists: n, m, the rows' coefficients, the right sides, lower bounds, upper bounds, goals and the step limit; "Older
--                   cases have both equal", low and high goals, and no ideal is handed in
--   Shown           an answer, with the values and the strides; `gives` makes one, and `shown` those of a call
--   assigned P      what the whole assignment of P shows, in buffers that held 7s before, `used P`
--   seated_of P     what seating makes of the starting list and the basis that are found for P, by seat_found
--   five_ideals v   the ideals to which seating pulls columns with the goals of five_goals, `five_columns`, at the values v
--   sum_and_difference, three_two, tied, paving_text, paving_listing   problems, a text and its listing; curve, a line of the text
--   DeckCases       the cases, one to a field, in document 01's order
-- Assumes nothing.
use Rattle.std.specs.Prelude.{◌≡◌, List, [], ◌∷◌, ◌++◌, map, ℕ, ◌+◌, ◌*◌, ℤ, pos, negsuc, replicate, Ok, Err}
use Rattle.whole.specs.Lists.{zeros}
use Rattle.problem.specs.Answers.{Answer}
use Rattle.problem.specs.Checks.{Posed}
use Rattle.problem.specs.declared.Refusal.TheVariants.{NoWholeNumbers, Seating}
use Rattle.problem.specs.declared.Verdict.TheVariants.{Fitted, Outside, Spent}
use Rattle.tableau.specs.RightSide.{Found, none, some}
use Rattle.settling.specs.Columns.{Columns, listed}
use Rattle.settling.specs.Seating.{Seated, ideal_at, seat}
use Rattle.engine.specs.Assign.{Buffers, Done, posed_by, n, m, columns, solved, assign}
use Rattle.report.specs.Listing.{counts_of}
use Rattle.solve.specs.Program.{printed}

abbrev pub problem : ℕ → ℕ → List ℤ → List ℤ → List ℤ → List ℤ → List ℤ → ℕ → Posed
problem n m coefficients rights lower upper goals limit =
    posed_by (record { columns = n; rows = m; limit = limit }) coefficients rights lower upper goals goals (zeros n) (zeros n)

pub record Shown : Type 0 where
  pub answer : Answer
  pub values : List ℤ
  pub strides : List ℕ

abbrev pub used : Posed → Buffers
used P = record { tableau = replicate (n P * (m P + n P)) (pos 7); values = replicate (n P) (pos 7); strides = replicate (n P) 7 }

abbrev pub shown : Done → Shown
shown d = record { answer = d.answer; values = d.values; strides = d.strides }

abbrev pub assigned : Posed → Shown
assigned P = shown (assign P (used P))

abbrev pub gives : Answer → List ℤ → List ℕ → Shown
gives a v d = record { answer = a; values = v; strides = d }

-- where none is found, nothing is seated: the call refuses before (8, not 9), and no case looks at this
abbrev pub seat_found : Posed → Found → Seated
seat_found P none = Err Seating
seat_found P (some start N) = seat (columns P) N start

abbrev pub seated_of : Posed → Seated
seated_of P = seat_found P (solved P).found

-- goals 400, 1414, 1415, 2449, 2450, with the widest bounds that a column with a goal may have
abbrev pub five_goals : List ℤ
five_goals = pos 400 ∷ pos 1414 ∷ pos 1415 ∷ pos 2449 ∷ pos 2450 ∷ []

abbrev pub five_columns : Columns
five_columns = listed 5 (replicate 5 (pos 1)) (replicate 5 (pos 1000000)) five_goals five_goals (zeros 5) (zeros 5)

abbrev pub five_ideals : List ℤ → List ℤ
five_ideals v = map (ideal_at five_columns v) (0 ∷ 1 ∷ 2 ∷ 3 ∷ 4 ∷ [])

-- v1 + v2 = 1 with v1 − v2 = 0
abbrev pub sum_and_difference : Posed
sum_and_difference =
    problem 2 2 (pos 1 ∷ pos 1 ∷ pos 1 ∷ negsuc 0 ∷ []) (pos 1 ∷ pos 0 ∷ []) (pos 1 ∷ pos 1 ∷ []) (pos 9 ∷ pos 9 ∷ []) (pos 0 ∷ pos 0 ∷ []) 10000

-- 3v1 = 2v2, bounds 1..100, goals 2500 and 4000
abbrev pub three_two : Posed
three_two = problem 2 1 (pos 3 ∷ negsuc 1 ∷ []) (pos 0 ∷ []) (pos 1 ∷ pos 1 ∷ []) (pos 100 ∷ pos 100 ∷ []) (pos 2500 ∷ pos 4000 ∷ []) 10000

-- v1 = v2, bounds 1..10 and 5..10, no goals
abbrev pub tied : ℕ → Posed
tied limit = problem 2 1 (pos 1 ∷ negsuc 0 ∷ []) (pos 0 ∷ []) (pos 1 ∷ pos 5 ∷ []) (pos 10 ∷ pos 10 ∷ []) (pos 0 ∷ pos 0 ∷ []) limit

-- "1 1000000 3000", the goal again, document 02, (v), and the line's end
abbrev pub curve : List ℕ
curve = 49 ∷ 32 ∷ 49 ∷ 48 ∷ 48 ∷ 48 ∷ 48 ∷ 48 ∷ 48 ∷ 32 ∷ 51 ∷ 48 ∷ 48 ∷ 48 ∷ 32 ∷ 51 ∷ 48 ∷ 48 ∷ 48 ∷ 10 ∷ []

-- "3", the three curves, "1", "3 2 3 1 1 2 1 3 1", and the closing "0" of document 02, (iii)
abbrev pub paving_text : List ℕ
paving_text =
    51 ∷ 10 ∷ (curve ++ curve ++ curve ++ 49 ∷ 10 ∷ 51 ∷ 32 ∷ 50 ∷ 32 ∷ 51 ∷ 32 ∷ 49 ∷ 32 ∷ 49 ∷ 32 ∷ 50 ∷ 32 ∷ 49 ∷ 32 ∷ 51 ∷ 32 ∷ 49 ∷ 10
    ∷ 48 ∷ 10 ∷ [])

-- "FITTED 0 0", "1 3 1", "2 3 1", "3 4 1", "4 5 1"
abbrev pub paving_listing : List ℕ
paving_listing =
    70 ∷ 73 ∷ 84 ∷ 84 ∷ 69 ∷ 68 ∷ 32 ∷ 48 ∷ 32 ∷ 48 ∷ 10 ∷ 49 ∷ 32 ∷ 51 ∷ 32 ∷ 49 ∷ 10 ∷ 50 ∷ 32 ∷ 51 ∷ 32 ∷ 49 ∷ 10 ∷ 51 ∷ 32 ∷ 52 ∷ 32 ∷ 49 ∷ 10
    ∷ 52 ∷ 32 ∷ 53 ∷ 32 ∷ 49 ∷ 10 ∷ []

pub record DeckCases : Type 0 where
  -- "2v = 1: 8."
  pub half :
      assigned (problem 1 1 (pos 2 ∷ []) (pos 1 ∷ []) (pos 1 ∷ []) (pos 9 ∷ []) (pos 0 ∷ []) 10000)
      ≡ gives (Err NoWholeNumbers) (pos 7 ∷ []) (7 ∷ [])
  -- "2v = 2, bounds 1..9, no goal: FITTED 0 0 with 1, stride 0."
  pub whole :
      assigned (problem 1 1 (pos 2 ∷ []) (pos 2 ∷ []) (pos 1 ∷ []) (pos 9 ∷ []) (pos 0 ∷ []) 10000)
      ≡ gives (Ok (Fitted (counts_of 0 0))) (pos 1 ∷ []) (0 ∷ [])
  -- "v1 + v2 = 1 with v1 − v2 = 0: 8."
  pub crossed : assigned sum_and_difference ≡ gives (Err NoWholeNumbers) (pos 7 ∷ pos 7 ∷ []) (7 ∷ 7 ∷ [])
  -- "v = 1 with v = 2: 8."
  pub twice :
      assigned (problem 1 2 (pos 1 ∷ pos 1 ∷ []) (pos 1 ∷ pos 2 ∷ []) (pos 1 ∷ []) (pos 9 ∷ []) (pos 0 ∷ []) 10000)
      ≡ gives (Err NoWholeNumbers) (pos 7 ∷ []) (7 ∷ [])
  -- "No rows, bounds 3..5, no goal: FITTED 0 0 with 3, stride 1."
  pub free : assigned (problem 1 0 [] [] (pos 3 ∷ []) (pos 5 ∷ []) (pos 0 ∷ []) 10000) ≡ gives (Ok (Fitted (counts_of 0 0))) (pos 3 ∷ []) (1 ∷ [])
  -- "Goals 400, 1414, 1415, 2449, 2450: ideals 1, 1, 2, 2, 3."
  pub ideals : (v : List ℤ) → five_ideals v ≡ pos 1 ∷ pos 1 ∷ pos 2 ∷ pos 2 ∷ pos 3 ∷ []
  -- "3v1 = 2v2, bounds 1..100, goals 2500 and 4000: seated 4, 6; FITTED 0 1 with 2, 3; strides 2, 3."
  pub basis : (solved three_two).found ≡ some (pos 0 ∷ pos 0 ∷ []) ((pos 2 ∷ pos 3 ∷ []) ∷ [])
  pub seats : seated_of three_two ≡ Ok (pos 4 ∷ pos 6 ∷ [])
  pub three_two_lem : assigned three_two ≡ gives (Ok (Fitted (counts_of 0 1))) (pos 2 ∷ pos 3 ∷ []) (2 ∷ 3 ∷ [])
  -- "v1 = 2v2, bounds 1..1 and 1..10, no goals: OUTSIDE 0 0 with 2, 1."
  pub outside :
      assigned (problem 2 1 (pos 1 ∷ negsuc 1 ∷ []) (pos 0 ∷ []) (pos 1 ∷ pos 1 ∷ []) (pos 1 ∷ pos 10 ∷ []) (pos 0 ∷ pos 0 ∷ []) 10000)
      ≡ gives (Ok (Outside (counts_of 0 0))) (pos 2 ∷ pos 1 ∷ []) (2 ∷ 1 ∷ [])
  -- "v1 = v2, bounds 1..10 and 5..10, no goals: FITTED 4 0 with 5, 5." "Limit 3: SPENT 3 0 with 4, 4."
  pub fitted : assigned (tied 10000) ≡ gives (Ok (Fitted (counts_of 4 0))) (pos 5 ∷ pos 5 ∷ []) (1 ∷ 1 ∷ [])
  pub spent : assigned (tied 3) ≡ gives (Ok (Spent (counts_of 3 0))) (pos 4 ∷ pos 4 ∷ []) (1 ∷ 1 ∷ [])
  -- "Paving."
  pub paving : printed paving_text ≡ paving_listing
