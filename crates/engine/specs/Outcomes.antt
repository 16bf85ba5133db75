-- Demand 2: what the outcomes of a whole assignment and of a Continue say.
--   KeepsRows P d         "Intervals returned satisfy every row": with a verdict, those that the call d leaves
--   basis_left P          the basis of the form that a call leaves in the tableau
--   VerdictMeans P d      "FITTED: all in bounds and no move improves. OUTSIDE: some column out of bounds and no move improves. SPENT: limit reached
--                         and some move still improves.": of the values that the call d leaves, over that basis
--   ExactRefusals P B     refusals 7 and 8 of a whole assignment, exactly when
--   NoneExactlyWhen P B   ""none" is given exactly when no whole numbers do, unless an elimination number passes the limit"
-- The theorems are in proofs/: `assign_satisfies` and `continue_satisfies` in Satisfied, `assign_verdict` and `continue_verdict` in Verdicts,
-- `none_exactly_when` in Refusals.
-- Assumes nothing.
use Rattle.std.specs.Prelude.{◌≡◌, ◌↔◌, true, List, ℤ}
use Rattle.problem.specs.Answers.{is_verdict}
use Rattle.problem.specs.Checks.{Posed}
use Rattle.tableau.specs.RightSide.{basis}
use Rattle.settling.specs.Verdicts.{Means}
use Rattle.engine.specs.Assign.{Buffers, Done, m, columns, solved, formed}
use Rattle.engine.specs.Demand.{WithinLimits, PastLimit, IsNone, SatisfiesRows}

-- ---- with a verdict
abbrev pub KeepsRows : Posed → Done → Type 0
KeepsRows P d = is_verdict d.answer ≡ true → SatisfiesRows P d.values

abbrev pub basis_left : Posed → List (List ℤ)
basis_left P = basis (m P) (formed P).table

abbrev pub VerdictMeans : Posed → Done → Type 0
VerdictMeans P d = Means P.problem.limit (columns P) (basis_left P) d.answer d.values

-- ---- "none"
pub record ExactRefusals (P : Posed) (B : Buffers) : Type 0 where
  -- 8: it is not past the elimination limit, and no list satisfies the rows
  pub none : IsNone P B ↔ ((PastLimit P B → ⊥) × ((x : List ℤ) → SatisfiesRows P x → ⊥))
  -- 7: a subtraction of the run left a number beyond ±M
  pub past : PastLimit P B ↔ ((solved P).over ≡ true)

-- of a problem within the limits
abbrev pub NoneExactlyWhen : Posed → Buffers → Type 0
NoneExactlyWhen P B = WithinLimits P B → ExactRefusals P B
