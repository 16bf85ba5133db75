-- Demand 3: "Nobody who restates a requirement can move the intervals", in document 01's words ("The words of demand 3") and, of ideals and strides,
-- in those of document 02, (ii): "Two restated problems must now have the same ideals too before their verdicts, refusals, counts and intervals
-- can be compared; their starting lists and bases are compared as before, and their strides where both have a verdict."
--   WithinLimits P B   "A problem is within the limits if none of causes 1 to 6 holds for it and the buffers lent with it."
--   PastLimit P B      "It is past the elimination limit if it meets 7"
--   IsNone P B         "and "none" if it meets 8"
--   SatisfiesRows P x "A list satisfies the rows if it has n whole numbers, of any size, in bounds or not, and in each row the coefficients times
--                      these numbers add up to the right side."
--   SameRows P Q       "the same lists of whole numbers satisfy their rows"
--   Starts P s N       s is the starting list of P, and N its basis
--   EqualStarts P Q    "starting lists and bases are equal"
--   SameStart P Q ..   "starting lists and bases are equal, or both are "none""
--   handed_in P j      the ideal that is handed in for column j, or that none is
--   SameColumns P Q    "the same bounds, goals and step limit", low and high goals, and "the same ideals too": the same are set, to the same numbers
--   SameOutcome d e    "Of two of them these are equal: the verdict or the refusal's number, and the step counts of both parts; with a verdict also
--                      the n intervals"
--   Restated P Q ..    what the demand says of two such problems
--   Demand3 P Q B C    the demand, as one statement about both problems and what was in their lent buffers. m and the rows may differ
-- The theorem is `demand_3`, in proofs/.
-- Assumes nothing.
use Rattle.std.specs.Prelude.{◌≡◌, ◌↔◌, ◌⊎◌, true, List, ℕ, ℤ, Ok, Err}
use Rattle.whole.specs.Lists.{entry}
use Rattle.lattice.specs.Sums.{Satisfies}
use Rattle.problem.specs.Answers.{is_verdict}
use Rattle.problem.specs.Checks.{Posed, first_cause}
use Rattle.problem.specs.declared.Refusal.TheVariants.{Elimination, NoWholeNumbers}
use Rattle.tableau.specs.RightSide.{some}
use Rattle.goals.specs.Wishes.{Wish, wish_of}
use Rattle.engine.specs.Assign.{Buffers, Done, n, matrix, lent_of, solved, assign}

-- ---- the words
pub record WithinLimits (P : Posed) (B : Buffers) : Type 0 where
  pub passed : first_cause P (lent_of B) ≡ Ok tt

abbrev pub PastLimit : Posed → Buffers → Type 0
PastLimit P B = (assign P B).answer ≡ Err Elimination

abbrev pub IsNone : Posed → Buffers → Type 0
IsNone P B = (assign P B).answer ≡ Err NoWholeNumbers

abbrev pub SatisfiesRows : Posed → List ℤ → Type 0
SatisfiesRows P x = Satisfies (n P) (matrix P) P.rights x

abbrev pub SameRows : Posed → Posed → Type 0
SameRows P Q = (x : List ℤ) → SatisfiesRows P x ↔ SatisfiesRows Q x

abbrev pub Starts : Posed → List ℤ → List (List ℤ) → Type 0
Starts P s N = (solved P).found ≡ some s N

pub record EqualStarts (P Q : Posed) : Type 0 where
  pub start : List ℤ
  pub vectors : List (List ℤ)
  pub first : Starts P start vectors
  pub second : Starts Q start vectors

abbrev pub SameStart : Posed → Posed → Buffers → Buffers → Type 0
SameStart P Q B C = EqualStarts P Q ⊎ (IsNone P B × IsNone Q C)

abbrev pub handed_in : Posed → ℕ → Wish
handed_in P j = wish_of (entry j P.given) (entry j P.ideals)

pub record SameColumns (P Q : Posed) : Type 0 where
  pub lower : P.lower ≡ Q.lower
  pub upper : P.upper ≡ Q.upper
  pub low : P.low ≡ Q.low
  pub high : P.high ≡ Q.high
  pub ideals : (j : ℕ) → handed_in P j ≡ handed_in Q j
  pub limit : P.problem.limit ≡ Q.problem.limit

pub record SameOutcome (d e : Done) : Type 0 where
  pub answer : d.answer ≡ e.answer
  pub intervals : is_verdict d.answer ≡ true → d.values ≡ e.values

-- ---- the demand
pub record Restated (P Q : Posed) (B C : Buffers) : Type 0 where
  -- "starting lists and bases are equal, or both are "none", exactly when the same lists of whole numbers satisfy their rows"
  pub starts : SameStart P Q B C ↔ SameRows P Q
  -- "and then, with the same bounds, goals and step limit", and "the same ideals too", "whole assignments give both the same verdict or refusal and
  -- step counts, and with a verdict the same intervals .. whatever the other lent buffers held before"
  pub outcomes : SameRows P Q → SameColumns P Q → SameOutcome (assign P B) (assign Q C)
  -- "and their strides where both have a verdict", with whatever bounds, goals, ideals and step limits
  pub strides :
      SameRows P Q → is_verdict (assign P B).answer ≡ true → is_verdict (assign Q C).answer ≡ true
      → (assign P B).strides ≡ (assign Q C).strides

-- "For any two problems within the limits with the same number of columns, whatever rows each has, neither past the elimination limit"
abbrev pub Demand3 : Posed → Posed → Buffers → Buffers → Type 0
Demand3 P Q B C = n P ≡ n Q → WithinLimits P B → WithinLimits Q C → (PastLimit P B → ⊥) → (PastLimit Q C → ⊥) → Restated P Q B C
