-- Document 02, (xiii): "No assignment comes twice", of a run of settling over the columns C and the basis N.
--   measures p C v      the measures of the values v, of the columns that the part p compares, in order of column;
--                       measures_from .. k j, of k columns from j on
--   distances C v       "the list of distances" of the values v: of all columns
--   ratios C v          "the same for ratios": of the columns with a goal
--   lower_than K L      K, "sorted largest first, is lower at the first place where it differs" from L
--   after_step s f      what f makes of the step's move, and nothing where no move improves
--   standing g C N v    the lists that stand in a run of at most g steps from v, its own term: v, then the list after each step
--   list_at j R         the list at place j of a run, counted from 0
--   total_steps k       the steps of both parts
--   Descent C R         what the request says of the lists R of a run
--   Ends C R k w        R has one list more than the steps k and its last is w; the steps counted for the bounds part come first, and were taken in
--                       it, as the others in the goals part
--   Stepped C N u w     w is what the next step leaves of u
-- A distance is held as the fraction with bottom 1. Two fractions differ where one is below the other, by cross products.
-- Assumes nothing.
use Rattle.std.specs.Prelude.{◌≡◌, Bool, true, cond, List, [], ◌∷◌, ℕ, zero, suc, ◌+◌, ◌<◌, ◌≤◌, ℤ, length, get_or}
use Rattle.problem.specs.declared.Counts.{Counts}
use Rattle.settling.specs.declared.Measure.{Measure}
use Rattle.settling.specs.declared.Move.{Move}
use Rattle.settling.specs.declared.Part.{Part}
use Rattle.settling.specs.declared.Part.TheVariants.{Bounds, Goals}
use Rattle.settling.specs.declared.Step.{Step}
use Rattle.std.specs.Prelude.{Option, Some, None}
use Rattle.settling.specs.Steps.{step}
use Rattle.settling.specs.Columns.{Columns, cell}
use Rattle.settling.specs.Moves.{moved}
use Rattle.settling.specs.Measures.{below}
use Rattle.settling.specs.Steps.{is_compared, measure_at, part_of, next_step}
use Rattle.runs.specs.Sorted.{sorted, lower}

-- ---- what falls
unfoldable pub measures_from : Part → Columns → List ℤ → ℕ → ℕ → List Measure
measures_from p C v zero j = []
measures_from p C v (suc k) j =
    cond (is_compared p (cell C v j)) (measure_at p C v j ∷ measures_from p C v k (suc j)) (measures_from p C v k (suc j))

abbrev pub measures : Part → Columns → List ℤ → List Measure
measures p C v = measures_from p C v C.count 0

abbrev pub distances : Columns → List ℤ → List Measure
distances C v = measures Bounds C v

abbrev pub ratios : Columns → List ℤ → List Measure
ratios C v = measures Goals C v

abbrev pub lower_than : List Measure → List Measure → Bool
lower_than K L = lower below (sorted below K) (sorted below L)

-- ---- a run
abbrev pub after_step : Option Step → (Move → List (List ℤ)) → List (List ℤ)
after_step None f = []
after_step (Some s) f = f s.o

unfoldable pub standing : ℕ → Columns → List (List ℤ) → List ℤ → List (List ℤ)
standing zero C N v = v ∷ []
standing (suc g) C N v = v ∷ after_step (next_step C N v) (λ o. standing g C N (moved N o v))

abbrev pub list_at : ℕ → List (List ℤ) → List ℤ
list_at j R = get_or R j []

abbrev pub total_steps : Counts → ℕ
total_steps k = k.bounds + k.goals

-- ---- what is said of it
-- A step is of the part that the list before it is in.
pub record Descent (C : Columns) (R : List (List ℤ)) : Type 0 where
  -- "after each step of the bounds part the list of distances, sorted largest first, is lower at the first place where it differs"
  pub bounds : (j : ℕ) → suc j < length R → part_of C (list_at j R) ≡ Bounds
      → lower_than (distances C (list_at (suc j) R)) (distances C (list_at j R)) ≡ true
  -- "the same for ratios in the goals part"
  pub goals : (j : ℕ) → suc j < length R → part_of C (list_at j R) ≡ Goals
      → lower_than (ratios C (list_at (suc j) R)) (ratios C (list_at j R)) ≡ true
  -- "So no list of intervals stands twice in one run."
  pub once : (j k : ℕ) → j < k → k < length R → list_at j R ≡ list_at k R → ⊥

pub record Ends (C : Columns) (R : List (List ℤ)) (k : Counts) (w : List ℤ) : Type 0 where
  pub long : length R ≡ suc (total_steps k)
  pub last : list_at (total_steps k) R ≡ w
  pub bounds_first : (j : ℕ) → j < k.bounds → part_of C (list_at j R) ≡ Bounds
  pub goals_then : (j : ℕ) → k.bounds ≤ j → j < total_steps k → part_of C (list_at j R) ≡ Goals

pub record Stepped (C : Columns) (N : List (List ℤ)) (u w : List ℤ) : Type 0 where
  pub column : ℕ
  pub move : Move
  pub next : next_step C N u ≡ Some (step column move)
  pub after : w ≡ moved N move u
