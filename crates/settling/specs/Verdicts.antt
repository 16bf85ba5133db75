-- Document 01, "Moves and settling": what a verdict means, over the columns C, the basis N and the values v.
--   Listed o R               the move o is one of the list R
--   Improving part .. i o    column i is one of those that the part tries, and o is a move of the basis that improves it
--   AllInBounds C v          "all in bounds"
--   SomeOutside C v          "some column out of bounds"
--   NoMoveImproves C N v     "no move improves", in the part that is reached
--   SomeMoveImproves C N v   "some move still improves"
--   Means limit C N a v      what the answer a means, where settling under the limit leaves the values v
-- Assumes nothing.
use Rattle.std.specs.Prelude.{◌≡◌, ◌⊎◌, true, List, [], ◌∷◌, ℕ, ◌+◌, ◌<◌, ℤ, length, Ok}
use Rattle.problem.specs.declared.Counts.{Counts}
use Rattle.problem.specs.Answers.{Answer}
use Rattle.problem.specs.declared.Verdict.TheVariants.{Fitted, Outside, Spent}
use Rattle.settling.specs.declared.Move.{Move}
use Rattle.settling.specs.declared.Part.{Part}
use Rattle.settling.specs.Columns.{Columns, cell}
use Rattle.settling.specs.Moves.{moves}
use Rattle.settling.specs.Measures.{distance}
use Rattle.settling.specs.Steps.{part_of, ranked_at, improves}

abbrev pub Listed : Move → List Move → Type 0
Listed o [] = ⊥
Listed o (x ∷ R) = (o ≡ x) ⊎ Listed o R

pub record Improving (p : Part) (C : Columns) (N : List (List ℤ)) (v : List ℤ) (i : ℕ) (o : Move) : Type 0 where
  pub inside : i < C.count
  pub ranked : ranked_at p C v i ≡ true
  pub listed : Listed o (moves (length N))
  pub good : improves p C N v o i ≡ true

-- ---- the parts of a verdict
abbrev pub AllInBounds : Columns → List ℤ → Type 0
AllInBounds C v = (j : ℕ) → j < C.count → distance (cell C v j) ≡ 0

pub record SomeOutside (C : Columns) (v : List ℤ) : Type 0 where
  pub column : ℕ
  pub inside : column < C.count
  pub outside : 0 < distance (cell C v column)

abbrev pub NoMoveImproves : Columns → List (List ℤ) → List ℤ → Type 0
NoMoveImproves C N v = (i : ℕ) (o : Move) → Improving (part_of C v) C N v i o → ⊥

pub record SomeMoveImproves (C : Columns) (N : List (List ℤ)) (v : List ℤ) : Type 0 where
  pub column : ℕ
  pub move : Move
  pub improving : Improving (part_of C v) C N v column move

-- ---- the verdicts
pub record Means (limit : ℕ) (C : Columns) (N : List (List ℤ)) (a : Answer) (v : List ℤ) : Type 0 where
  -- "FITTED: all in bounds and no move improves."
  pub fitted : (k : Counts) → a ≡ Ok (Fitted k) → AllInBounds C v × NoMoveImproves C N v
  -- "OUTSIDE: some column out of bounds and no move improves."
  pub outside : (k : Counts) → a ≡ Ok (Outside k) → SomeOutside C v × NoMoveImproves C N v
  -- "SPENT: limit reached and some move still improves." "The limit covers both parts together."
  pub spent : (k : Counts) → a ≡ Ok (Spent k) → (k.bounds + k.goals ≡ limit) × SomeMoveImproves C N v
