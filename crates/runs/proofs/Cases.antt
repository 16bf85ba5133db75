-- Cases of the definitions that the checker computes, and what does not hold of every step.
--   pulled                document 01's case "v1 = v2, bounds 1..10 and 5..10, no goals": from 1, 1 each step brings the one distance down by 1
--   wished                document 01's case "3v1 = 2v2, bounds 1..100, goals 2500 and 4000": from 4, 6 one step
--   dragged               2v1 = v2 = v3 with v2 and v3 at their bounds: from 0, 0, 0 a step takes the distances 3, 0, 0 to 2, 2, 2
--   crossed               v1 = 2v2 with v1 at its bounds: from 0, 0 a step takes the distances 0, 3 to 2, 2
--   held                  v1 alone and far out, which no move changes: from 0, 0 a step takes the distances 9, 5 to 9, 4
--   spoilt                v1 = v2 with v1 at its goal and v2 below its bounds: from 1, 1 a step takes v1's ratio from 1 to 2
--   nudged                v2 = v1 + 3 with v2 at its goal: from 1, 4 a step takes the ratios 3, 1 to 3/2, 5/4
--   free                  v2 = v1 − 1 without a goal for v2: from 1, 0 a step; the ratios of all columns would go from 3, 0/0 to 1000/0, 3/2
--   OfSteps p f Q         Q holds, of every step of the part p, of what f tells of the list before and of the list after
-- False, each by one of these steps:
--   sum_may_rise          "the sum of distances falls", or stays
--   distances_may_rise, ratios_may_rise   "each place falls", or stays
--   largest_may_stay      "the largest distance falls"
--   columns_may_rise      "the list of distances is lower", column by column and not sorted
--   smallest_may_rise     "sorted smallest first"
--   bounds_may_cost_goals "the ratios fall in the bounds part"
--   all_ratios_may_rise   "the ratios of all columns fall" in the goals part
-- Assumes nothing.
use mathlib.Core.Path.{◌≡◌, refl}
use mathlib.Core.Bool.{true, false, true≢false, false≢true}
use mathlib.Core.List.{List, [], ◌∷◌}
use Prim.Native.Nat.{ℕ, zero, suc, ◌+◌, ◌≤◌}
use native.Mathlib.Omega.{arith}
use lib.IntN.{ℤ, pos}
use lib.ListN.{get_or}
use Rattle.whole.specs.Lists.{zeros}
use Rattle.whole.specs.Tests.{every}
use Rattle.lattice.specs.Rows.{plus}
use Rattle.settling.specs.declared.Measure.{Measure}
use Rattle.settling.specs.declared.Move.{Move}
use Rattle.settling.specs.declared.Part.{Part}
use Rattle.settling.specs.declared.Part.TheVariants.{Bounds, Goals}
use Rattle.std.specs.Prelude.{Some}
use Rattle.settling.specs.Steps.{step}
use Rattle.settling.specs.Columns.{Columns, listed}
use Rattle.settling.specs.Moves.{single, singles, pairs_with, pairs, moves, moved}
use Rattle.settling.specs.Measures.{fraction, below, measure}
use Rattle.settling.specs.Steps.{measure_at, part_of, is_ranked, passes, improves, insert, rank_from, first_move, first_column, step_at, step_of}
use Rattle.settling.specs.Steps.{next_step}
use Rattle.runs.specs.Sorted.{above, sorted, lower}
use Rattle.runs.specs.Runs.{measures_from, distances, ratios, lower_than, standing}

abbrev two : {A : Type 0} → A → A → List A
two x y = x ∷ y ∷ []

abbrev three : {A : Type 0} → A → A → A → List A
three x y z = x ∷ y ∷ z ∷ []

-- columns with no ideal handed in
abbrev plain : ℕ → List ℤ → List ℤ → List ℤ → Columns
plain n lo hi gs = listed n lo hi gs gs (zeros n) (zeros n)

abbrev pulled : Columns
pulled = plain 2 (two (pos 1) (pos 5)) (two (pos 10) (pos 10)) (two (pos 0) (pos 0))

abbrev wished : Columns
wished = plain 2 (two (pos 1) (pos 1)) (two (pos 100) (pos 100)) (two (pos 2500) (pos 4000))

abbrev dragged : Columns
dragged = plain 3 (three (pos 3) (pos 0) (pos 0)) (three (pos 9) (pos 0) (pos 0)) (three (pos 0) (pos 0) (pos 0))

abbrev crossed : Columns
crossed = plain 2 (two (pos 0) (pos 3)) (two (pos 0) (pos 9)) (two (pos 0) (pos 0))

abbrev held : Columns
held = plain 2 (two (pos 9) (pos 5)) (two (pos 9) (pos 9)) (two (pos 0) (pos 0))

abbrev spoilt : Columns
spoilt = plain 2 (two (pos 1) (pos 5)) (two (pos 100) (pos 10)) (two (pos 1000) (pos 0))

abbrev nudged : Columns
nudged = plain 2 (two (pos 1) (pos 1)) (two (pos 100) (pos 100)) (two (pos 3000) (pos 4000))

abbrev free : Columns
free = plain 2 (two (pos 1) (pos 0)) (two (pos 100) (pos 9)) (two (pos 3000) (pos 0))

-- ---- runs and what falls
pub pulled_run : standing 10 pulled (two (pos 1) (pos 1) ∷ []) (two (pos 1) (pos 1))
    ≡ two (pos 1) (pos 1) ∷ two (pos 2) (pos 2) ∷ two (pos 3) (pos 3) ∷ two (pos 4) (pos 4) ∷ two (pos 5) (pos 5) ∷ []
unfolding every plus singles pairs_with pairs moves moved measure is_ranked passes improves insert rank_from first_move first_column step_at step_of
    next_step standing
pulled_run = refl

pub wished_run : standing 10 wished (two (pos 2) (pos 3) ∷ []) (two (pos 4) (pos 6)) ≡ two (pos 4) (pos 6) ∷ two (pos 2) (pos 3) ∷ []
unfolding every plus singles pairs_with pairs moves moved measure is_ranked passes improves insert rank_from first_move first_column step_at step_of
    next_step standing
wished_run = refl

pub wished_before : sorted below (ratios wished (two (pos 4) (pos 6))) ≡ two (fraction 4000 2500) (fraction 6000 4000)
unfolding measure insert sorted measures_from
wished_before = refl

pub wished_after : sorted below (ratios wished (two (pos 2) (pos 3))) ≡ two (fraction 4000 3000) (fraction 2500 2000)
unfolding measure insert sorted measures_from
wished_after = refl

pub wished_falls : lower_than (ratios wished (two (pos 2) (pos 3))) (ratios wished (two (pos 4) (pos 6))) ≡ true
unfolding measure insert sorted lower measures_from
wished_falls = refl

-- and not the other way round
pub wished_rises : lower_than (ratios wished (two (pos 4) (pos 6))) (ratios wished (two (pos 2) (pos 3))) ≡ false
unfolding measure insert sorted lower measures_from
wished_rises = refl

-- ---- what does not hold of every step
abbrev pub OfSteps : Part → (Columns → List ℤ → List Measure) → (List Measure → List Measure → Type 0) → Type 0
OfSteps p f Q = (C : Columns) (N : List (List ℤ)) (v : List ℤ) (i : ℕ) (o : Move) → part_of C v ≡ p → next_step C N v ≡ Some (step i o)
    → Q (f C v) (f C (moved N o v))

-- of distances, which are whole
unfoldable pub total : List Measure → ℕ
total [] = 0
total (q ∷ L) = q.top + total L

abbrev pub place_of : ℕ → List Measure → Measure
place_of k L = get_or L k (fraction 0 1)

-- no place of the new list is above that of the old one
abbrev pub NoneRises : List Measure → List Measure → Type 0
NoneRises old new = (k : ℕ) → below (place_of k old) (place_of k new) ≡ false

unfoldable pub all_ratios_from : Columns → List ℤ → ℕ → ℕ → List Measure
all_ratios_from C v zero j = []
all_ratios_from C v (suc k) j = measure_at Goals C v j ∷ all_ratios_from C v k (suc j)

-- the steps: the first vector of the basis is added
abbrev plus_first : Move
plus_first = single 0 (pos 1)

pub dragged_step : next_step dragged (three (pos 1) (pos 2) (pos 2) ∷ []) (three (pos 0) (pos 0) (pos 0)) ≡ Some (step 0 plus_first)
unfolding every plus singles pairs_with pairs moves moved measure is_ranked passes improves insert rank_from first_move first_column step_at step_of
    next_step
dragged_step = refl

pub crossed_step : next_step crossed (two (pos 2) (pos 1) ∷ []) (two (pos 0) (pos 0)) ≡ Some (step 1 plus_first)
unfolding every plus singles pairs_with pairs moves moved measure is_ranked passes improves insert rank_from first_move first_column step_at step_of
    next_step
crossed_step = refl

pub held_step : next_step held (two (pos 0) (pos 1) ∷ []) (two (pos 0) (pos 0)) ≡ Some (step 1 plus_first)
unfolding every plus singles pairs_with pairs moves moved measure is_ranked passes improves insert rank_from first_move first_column step_at step_of
    next_step
held_step = refl

pub spoilt_step : next_step spoilt (two (pos 1) (pos 1) ∷ []) (two (pos 1) (pos 1)) ≡ Some (step 1 plus_first)
unfolding every plus singles pairs_with pairs moves moved measure is_ranked passes improves insert rank_from first_move first_column step_at step_of
    next_step
spoilt_step = refl

pub nudged_step : next_step nudged (two (pos 1) (pos 1) ∷ []) (two (pos 1) (pos 4)) ≡ Some (step 0 plus_first)
unfolding every plus singles pairs_with pairs moves moved measure is_ranked passes improves insert rank_from first_move first_column step_at step_of
    next_step
nudged_step = refl

pub free_step : next_step free (two (pos 1) (pos 1) ∷ []) (two (pos 1) (pos 0)) ≡ Some (step 0 plus_first)
unfolding every plus singles pairs_with pairs moves moved measure is_ranked passes improves insert rank_from first_move first_column step_at step_of
    next_step
free_step = refl

-- the claims
pub sum_may_rise : OfSteps Bounds distances (λ old new. total new ≤ total old) → ⊥
unfolding every plus moved measure measures_from total
sum_may_rise law =
    let h : 6 ≤ 3 = law dragged (three (pos 1) (pos 2) (pos 2) ∷ []) (three (pos 0) (pos 0) (pos 0)) 0 plus_first refl dragged_step in
    omega (arith, h)

pub distances_may_rise : OfSteps Bounds (λ C v. sorted below (distances C v)) NoneRises → ⊥
unfolding every plus moved measure insert sorted measures_from
distances_may_rise law =
    true≢false (law dragged (three (pos 1) (pos 2) (pos 2) ∷ []) (three (pos 0) (pos 0) (pos 0)) 0 plus_first refl dragged_step 1)

pub ratios_may_rise : OfSteps Goals (λ C v. sorted below (ratios C v)) NoneRises → ⊥
unfolding every plus moved measure insert sorted measures_from
ratios_may_rise law = true≢false (law nudged (two (pos 1) (pos 1) ∷ []) (two (pos 1) (pos 4)) 0 plus_first refl nudged_step 1)

pub largest_may_stay : OfSteps Bounds (λ C v. sorted below (distances C v)) (λ old new. below (place_of 0 new) (place_of 0 old) ≡ true) → ⊥
unfolding every plus moved measure insert sorted measures_from
largest_may_stay law = false≢true (law held (two (pos 0) (pos 1) ∷ []) (two (pos 0) (pos 0)) 1 plus_first refl held_step)

pub columns_may_rise : OfSteps Bounds distances (λ old new. lower below new old ≡ true) → ⊥
unfolding every plus moved measure lower measures_from
columns_may_rise law = false≢true (law crossed (two (pos 2) (pos 1) ∷ []) (two (pos 0) (pos 0)) 1 plus_first refl crossed_step)

pub smallest_may_rise : OfSteps Bounds (λ C v. sorted (above below) (distances C v)) (λ old new. lower below new old ≡ true) → ⊥
unfolding every plus moved measure insert sorted lower measures_from
smallest_may_rise law =
    false≢true (law dragged (three (pos 1) (pos 2) (pos 2) ∷ []) (three (pos 0) (pos 0) (pos 0)) 0 plus_first refl dragged_step)

pub bounds_may_cost_goals : OfSteps Bounds ratios (λ old new. lower_than new old ≡ true) → ⊥
unfolding every plus moved measure insert sorted lower measures_from
bounds_may_cost_goals law = false≢true (law spoilt (two (pos 1) (pos 1) ∷ []) (two (pos 1) (pos 1)) 1 plus_first refl spoilt_step)

pub all_ratios_may_rise : OfSteps Goals (λ C v. all_ratios_from C v C.count 0) (λ old new. lower_than new old ≡ true) → ⊥
unfolding every plus moved measure insert sorted lower all_ratios_from
all_ratios_may_rise law = false≢true (law free (two (pos 1) (pos 1) ∷ []) (two (pos 1) (pos 0)) 0 plus_first refl free_step)
