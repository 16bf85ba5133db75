-- Document 01, "Moves and settling": a step.
--   in_bounds C v      all distances are 0
--   part_of C v        "Bounds part, while some distance is above 0"; "Goals part, once all distances are 0"; `part_if` by in_bounds
--   is_ranked, is_compared, is_allowed   of one column: it is tried; a move that changes it is to lower its measure; a move may leave its value
--   passes p c e q     a move that adds e to a column, which is then c, does what it has to, against the measure q
--   measure_at, ranked_at, passes_at, larger_at   the same of a problem's columns
--   improves ..        a move improves a column
--   ranking part C v   the columns in the order in which they are tried; `insert` and rank_from sort them
--   first_move, first_column   the first good move, and the first column with a step; or_else, the one step or else the other
--   step_at, step_of   the step of a column, and of a part
--   Step               a column and a move that improves it (declared in src/); `step` makes one
--   next_step C N v    none where no move improves; "A step takes the first column with an improving move, and its first such move, once."
--   Turn               a step with the part that it belongs to (declared in src/)
--   turn_of C N v      the next one
-- Assumes nothing.
use Rattle.std.specs.Prelude.{Bool, true, false, not, cond, ◌&&◌, ◌||◌, List, [], ◌∷◌, ℕ, zero, suc, ltb, eqb, ℤ, length, Option, Some, None}
use Rattle.whole.specs.Tests.{is_zero, every}
use Rattle.problem.specs.Limits.{beyond}
use Rattle.settling.specs.declared.Cell.{Cell}
use Rattle.settling.specs.declared.Move.{Move}
use Rattle.settling.specs.declared.Measure.{Measure}
use Rattle.settling.specs.declared.Part.{Part}
use Rattle.settling.specs.declared.Part.TheVariants.{Bounds, Goals}
use Rattle.settling.specs.declared.Step.{Step}
use Rattle.settling.specs.declared.Turn.{Turn}
use Rattle.settling.specs.Columns.{Columns, cell}
use Rattle.settling.specs.Moves.{moves, change, changes, moved}
use Rattle.settling.specs.Measures.{below, distance, measure}

abbrev pub in_bounds : Columns → List ℤ → Bool
in_bounds C v = every C.count (λ j. eqb (distance (cell C v j)) 0)

abbrev pub part_if : Bool → Part
part_if true = Goals
part_if false = Bounds

abbrev pub part_of : Columns → List ℤ → Part
part_of C v = part_if (in_bounds C v)

-- ---- one column

-- which columns are tried: "Columns with a distance above 0", "Columns with a goal"
unfoldable pub is_ranked : Part → Cell → Bool
is_ranked Bounds c = ltb 0 (distance c)
is_ranked Goals c = not (is_zero c.low)

-- which changed columns a move has to bring below the old measure: "every column it changes", "every changed column with a goal"
abbrev pub is_compared : Part → Cell → Bool
is_compared Bounds c = true
is_compared Goals c = not (is_zero c.low)

-- which values a move may leave in any column: "every value lies within ±M", "all values are then in bounds"
abbrev pub is_allowed : Part → Cell → Bool
is_allowed Bounds c = not (beyond c.value)
is_allowed Goals c = eqb (distance c) 0

unfoldable pub passes : Part → Cell → ℤ → Measure → Bool
passes p c e q = is_allowed p c && (not (not (is_zero e) && is_compared p c) || below (measure p c) q)

-- ---- the column j of a problem
abbrev pub measure_at : Part → Columns → List ℤ → ℕ → Measure
measure_at p C v j = measure p (cell C v j)

abbrev pub ranked_at : Part → Columns → List ℤ → ℕ → Bool
ranked_at p C v j = is_ranked p (cell C v j)

abbrev pub passes_at : Part → Columns → List (List ℤ) → List ℤ → Move → Measure → ℕ → Bool
passes_at p C N v o q j = passes p (cell C (moved N o v) j) (change N o j) q

-- "A move improves column i if it changes i", and every column passes against i's old measure
unfoldable pub improves : Part → Columns → List (List ℤ) → List ℤ → Move → ℕ → Bool
improves p C N v o i = changes N o i && every C.count (passes_at p C N v o (measure_at p C v i))

-- ---- the ranking: "largest first, ties to the lower column"
abbrev pub larger_at : Part → Columns → List ℤ → ℕ → ℕ → Bool
larger_at p C v i j = below (measure_at p C v j) (measure_at p C v i)

-- i put behind the larger ones at the front; in a ranking the list is of later columns
unfoldable pub insert : {A : Type 0} → (A → A → Bool) → A → List A → List A
insert larger i [] = i ∷ []
insert larger i (j ∷ L) = cond (larger j i) (j ∷ insert larger i L) (i ∷ j ∷ L)

-- of the columns j and on, k of them
unfoldable pub rank_from : (ℕ → Bool) → (ℕ → ℕ → Bool) → ℕ → ℕ → List ℕ
rank_from ranked larger zero j = []
rank_from ranked larger (suc k) j = cond (ranked j) (insert larger j (rank_from ranked larger k (suc j))) (rank_from ranked larger k (suc j))

abbrev pub ranking : Part → Columns → List ℤ → List ℕ
ranking p C v = rank_from (ranked_at p C v) (larger_at p C v) C.count 0

-- ---- the step
abbrev pub step : ℕ → Move → Step
step i o = record { column = i; o = o }

abbrev pub or_else : Option Step → Option Step → Option Step
or_else None z = z
or_else (Some s) z = Some s

-- for column i the first move of the list that is good
unfoldable pub first_move : (Move → Bool) → ℕ → List Move → Option Step
first_move good i [] = None
first_move good i (o ∷ L) = cond (good o) (Some (step i o)) (first_move good i L)

-- what the first column of the list with a step has
unfoldable pub first_column : (ℕ → Option Step) → List ℕ → Option Step
first_column f [] = None
first_column f (i ∷ R) = or_else (f i) (first_column f R)

unfoldable pub step_at : Part → Columns → List (List ℤ) → List ℤ → ℕ → Option Step
step_at p C N v i = first_move (λ o. improves p C N v o i) i (moves (length N))

unfoldable pub step_of : Part → Columns → List (List ℤ) → List ℤ → Option Step
step_of p C N v = first_column (step_at p C N v) (ranking p C v)

unfoldable pub next_step : Columns → List (List ℤ) → List ℤ → Option Step
next_step C N v = step_of (part_of C v) C N v

-- the part that is reached, and its step
abbrev pub turn_of : Columns → List (List ℤ) → List ℤ → Turn
turn_of C N v = record { part = part_of C v; step = next_step C N v }
