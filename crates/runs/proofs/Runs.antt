-- Document 02, (xiii): no list stands twice in a run of settling.
--   standing_first, -step  the run begins with the list that is settled, and each further list is what the next step leaves of the one before
--   standing_limit       the list at place k is what settling with the limit k leaves
--   run_ends             settling counts the run's steps, each in its part, and leaves the last list
--   bounds_lower         "for every run: after each step of the bounds part the list of distances, sorted largest first, is lower at the first place
--                        where it differs"
--   goals_lower          "the same for ratios in the goals part"
--   state v              1 in the bounds part and 0 in the goals part, then the part's measures, sorted; `later_lower` a later list has a lower one
--   once                 "So no list of intervals stands twice in one run."
--   run_descends         all three of every run
-- Assumes nothing.
use mathlib.Core.Path.{◌≡◌, refl, sym, ◌∙◌, ap, subst}
use mathlib.Core.Logic.{⊎_elim}
use mathlib.Core.Bool.{Bool, true, false, true≢false}
use mathlib.Core.List.{List, [], ◌∷◌}
use Prim.Native.Nat.{ℕ, zero, suc, ◌+◌, ◌<◌, ◌≤◌}
use native.Mathlib.Omega.{arith}
use lib.IntN.{ℤ}
use lib.ListN.{length}
use Rattle.whole.proofs.Counted.{every_all}
use Rattle.problem.specs.Answers.{no_steps, verdict_counts}
use Rattle.problem.specs.declared.Counts.{Counts}
use Rattle.problem.specs.declared.Verdict.TheVariants.{Spent}
use Rattle.settling.specs.declared.Measure.{Measure}
use Rattle.settling.specs.declared.Move.{Move}
use Rattle.settling.specs.declared.Part.{Part}
use Rattle.settling.specs.declared.Part.TheVariants.{Bounds, Goals}
use Rattle.settling.specs.declared.Step.{Step}
use Rattle.std.specs.Prelude.{Option, Some, None}
use Rattle.settling.specs.Steps.{step}
use Rattle.settling.specs.Columns.{Columns}
use Rattle.settling.proofs.Fronts.{lt_or_ge}
use Rattle.settling.specs.Moves.{moved}
use Rattle.settling.specs.Measures.{fraction, below}
use Rattle.settling.specs.Steps.{in_bounds, part_if, part_of, step_of, next_step}
use Rattle.settling.specs.Settle.{Settled, ended, at_rest, counted, on_step, settle_from, settle}
use Rattle.settling.proofs.Orders.{Determinate, below_weak}
use Rattle.settling.specs.Rankings.{Each}
use Rattle.settling.proofs.Stepping.{step_taken, taken_allowed}
use Rattle.runs.specs.Sorted.{sorted, lower}
use Rattle.runs.specs.Runs.{measures, distances, ratios, lower_than, after_step, standing, list_at, total_steps, Descent, Ends, Stepped}
use Rattle.runs.proofs.Lowering.{sorted_each, lower_self, lower_after}
use Rattle.runs.proofs.Steps.{measures_determinate, next_lower}

module _ (C : Columns) (N : List (List ℤ)) where
  -- ---- from list to list
  pub standing_first : (g : ℕ) (v : List ℤ) → list_at 0 (standing g C N v) ≡ v
  unfolding standing
  standing_first zero v = refl
  standing_first (suc g) v = refl

  pub standing_step : (g : ℕ) (v : List ℤ) (j : ℕ) → suc j < length (standing g C N v)
      → Stepped C N (list_at j (standing g C N v)) (list_at (suc j) (standing g C N v))
  unfolding standing
  standing_step zero v j h = absurd (omega arith)
  standing_step (suc g) v j h = go j (next_step C N v) refl h (λ o l. standing_step g (moved N o v) l)
    where
      after : Move → List (List ℤ)
      after o = standing g C N (moved N o v)

      go : (j : ℕ) (s : Option Step) → next_step C N v ≡ s → suc j < length (v ∷ after_step s after)
          → ((o : Move) (l : ℕ) → suc l < length (after o) → Stepped C N (list_at l (after o)) (list_at (suc l) (after o)))
          → Stepped C N (list_at j (v ∷ after_step s after)) (list_at (suc j) (v ∷ after_step s after))
      go j None e h f = absurd (omega arith)
      go zero (Some s) e h f = record { column = s.column; move = s.o; next = e; after = standing_first g (moved N s.o v) }
      go (suc l) (Some s) e h f = f s.o l (omega arith)

  -- ---- the run is settling's
  -- once in bounds, always in bounds
  goals_stay : (v : List ℤ) (i : ℕ) (o : Move) → step_of Goals C N v ≡ Some (step i o) → in_bounds C (moved N o v) ≡ true
  goals_stay v i o e = every_all C.count _ (taken_allowed Goals C N v i o (step_taken Goals C N v i o e))

  goals_remain : (v : List ℤ) (i : ℕ) (o : Move) → part_of C v ≡ Goals → next_step C N v ≡ Some (step i o) → part_of C (moved N o v) ≡ Goals
  unfolding next_step
  goals_remain v i o p e = ap part_if (goals_stay v i o (subst (λ (q : Part). step_of q C N v ≡ Some (step i o)) p e))

  -- settling with no step left leaves the list as it is
  limit_none : (k : Counts) (v : List ℤ) → v ≡ (settle_from 0 C N k v).values
  unfolding settle_from
  limit_none k v = go (next_step C N v)
    where
      go : (s : Option Step) → v ≡ (on_step s (ended (at_rest (part_of C v) k) v) (λ o. ended (Spent k) v)).values
      go None = refl
      go (Some s) = refl

  limited : (g l : ℕ) (k : Counts) (v : List ℤ) → l < length (standing g C N v) → list_at l (standing g C N v) ≡ (settle_from l C N k v).values
  unfolding standing settle_from
  limited zero zero k v h = limit_none k v
  limited zero (suc l) k v h = absurd (omega arith)
  limited (suc g) zero k v h = limit_none k v
  limited (suc g) (suc l) k v h = go (next_step C N v) h (λ o. limited g l (counted (part_of C v) k) (moved N o v))
    where
      after : Move → List (List ℤ)
      after o = standing g C N (moved N o v)

      rest : Move → Settled
      rest o = settle_from l C N (counted (part_of C v) k) (moved N o v)

      go : (s : Option Step) → suc l < length (v ∷ after_step s after) → ((o : Move) → l < length (after o) → list_at l (after o) ≡ (rest o).values)
          → list_at l (after_step s after) ≡ (on_step s (ended (at_rest (part_of C v) k) v) rest).values
      go None h f = absurd (omega arith)
      go (Some s) h f = f s.o (omega arith)

  pub standing_limit : (g k : ℕ) (v : List ℤ) → k < length (standing g C N v) → list_at k (standing g C N v) ≡ (settle k C N v).values
  unfolding settle
  standing_limit g k v h = limited g k no_steps v h

  -- after the steps k settling leaves z of the run R, with s steps more, the first b of them in the bounds part
  record Told (R : List (List ℤ)) (k : Counts) (z : Settled) : Type 0 where
    b : ℕ
    s : ℕ
    bounds : (verdict_counts z.verdict).bounds ≡ k.bounds + b
    steps : total_steps (verdict_counts z.verdict) ≡ total_steps k + s
    long : length R ≡ suc s
    last : list_at s R ≡ z.values
    inside : (j : ℕ) → j < b → part_of C (list_at j R) ≡ Bounds
    past : (j : ℕ) → b ≤ j → j < s → part_of C (list_at j R) ≡ Goals

  rest_counts : (p : Part) (k : Counts) → verdict_counts (at_rest p k) ≡ k
  rest_counts Bounds k = refl
  rest_counts Goals k = refl

  -- no step is made
  told_none : (k : Counts) (v : List ℤ) (z : Settled) → verdict_counts z.verdict ≡ k → v ≡ z.values → Told (v ∷ []) k z
  told_none k v z e f = record {
    b = 0;
    s = 0;
    bounds = ap (λ (x : Counts). x.bounds) e ∙ omega arith;
    steps = ap total_steps e ∙ omega arith;
    long = refl;
    last = f;
    inside = λ j h. absurd (omega arith);
    past = λ j h l. absurd (omega arith);
  }

  other_part : Bounds ≡ Goals → ⊥
  other_part e = let z : ◌≡◌ {A = ℕ} 0 1 = cc in omega arith

  -- a step is made in the part p of v, and after one in the goals part all are
  told_more : (p : Part) (k : Counts) (v : List ℤ) (R : List (List ℤ)) (z : Settled) → part_of C v ≡ p
      → (p ≡ Goals → part_of C (list_at 0 R) ≡ Goals) → Told R (counted p k) z → Told (v ∷ R) k z
  told_more Bounds k v R z e f t = record {
    b = suc t.b;
    s = suc t.s;
    bounds = omega (arith, t.bounds);
    steps = omega (arith, t.steps);
    long = ap suc t.long;
    last = t.last;
    inside = inside;
    past = past;
  }
    where
      inside : (j : ℕ) → j < suc t.b → part_of C (list_at j (v ∷ R)) ≡ Bounds
      inside zero h = e
      inside (suc j) h = t.inside j (omega arith)

      past : (j : ℕ) → suc t.b ≤ j → j < suc t.s → part_of C (list_at j (v ∷ R)) ≡ Goals
      past zero h l = absurd (omega arith)
      past (suc j) h l = t.past j (omega arith) (omega arith)
  told_more Goals k v R z e f t = record {
    b = 0;
    s = suc t.s;
    bounds = omega (arith, t.bounds, none);
    steps = omega (arith, t.steps);
    long = ap suc t.long;
    last = t.last;
    inside = λ j h. absurd (omega arith);
    past = past;
  }
    where
      none : t.b ≡ 0
      none = ⊎_elim (λ h. absurd (other_part (sym (t.inside 0 h) ∙ f refl))) (λ h. omega arith) (lt_or_ge 0 t.b)

      past : (j : ℕ) → 0 ≤ j → j < suc t.s → part_of C (list_at j (v ∷ R)) ≡ Goals
      past zero h l = e
      past (suc j) h l = t.past j (omega (arith, none)) (omega arith)

  told : (g : ℕ) (k : Counts) (v : List ℤ) → Told (standing g C N v) k (settle_from g C N k v)
  unfolding standing settle_from
  told zero k v = go (next_step C N v)
    where
      go : (s : Option Step) → Told (v ∷ []) k (on_step s (ended (at_rest (part_of C v) k) v) (λ o. ended (Spent k) v))
      go None = told_none k v _ (rest_counts (part_of C v) k) refl
      go (Some s) = told_none k v _ refl refl
  told (suc g) k v = go (next_step C N v) refl (λ o. told g (counted (part_of C v) k) (moved N o v))
    where
      after : Move → List (List ℤ)
      after o = standing g C N (moved N o v)

      rest : Move → Settled
      rest o = settle_from g C N (counted (part_of C v) k) (moved N o v)

      go : (s : Option Step) → next_step C N v ≡ s → ((o : Move) → Told (after o) (counted (part_of C v) k) (rest o))
          → Told (v ∷ after_step s after) k (on_step s (ended (at_rest (part_of C v) k) v) rest)
      go None e f = told_none k v _ (rest_counts (part_of C v) k) refl
      go (Some s) e f =
          told_more (part_of C v) k v (after s.o) (rest s.o) refl
          (λ p. ap (part_of C) (standing_first g (moved N s.o v)) ∙ goals_remain v s.column s.o p e) (f s.o)

  pub run_ends : (limit : ℕ) (v : List ℤ) → Ends C (standing limit C N v) (verdict_counts (settle limit C N v).verdict) (settle limit C N v).values
  unfolding settle
  run_ends limit v =
      let t = told limit no_steps v in
      record {
        long = omega (arith, t.long, t.steps);
        last = ap (λ (j : ℕ). list_at j (standing limit C N v)) (omega (arith, t.steps)) ∙ t.last;
        bounds_first = λ j h. t.inside j (omega (arith, h, t.bounds));
        goals_then = λ j h l. t.past j (omega (arith, h, t.bounds)) (omega (arith, l, t.steps));
      }

  -- ---- each step lowers the measures of its part
  module _ (u w : List ℤ) (s : Stepped C N u w) where
    part_lower : (p : Part) → part_of C u ≡ p → lower_than (measures p C w) (measures p C u) ≡ true
    part_lower p e =
        subst (λ (q : Part). lower_than (measures q C w) (measures q C u) ≡ true) e
        (subst (λ (x : List ℤ). lower_than (measures (part_of C u) C x) (measures (part_of C u) C u) ≡ true) (sym s.after)
        (next_lower C N u s.column s.move s.next))

  pub bounds_lower : (g : ℕ) (v : List ℤ) (j : ℕ) → suc j < length (standing g C N v) → part_of C (list_at j (standing g C N v)) ≡ Bounds
      → lower_than (distances C (list_at (suc j) (standing g C N v))) (distances C (list_at j (standing g C N v))) ≡ true
  bounds_lower g v j h = part_lower (list_at j (standing g C N v)) (list_at (suc j) (standing g C N v)) (standing_step g v j h) Bounds

  pub goals_lower : (g : ℕ) (v : List ℤ) (j : ℕ) → suc j < length (standing g C N v) → part_of C (list_at j (standing g C N v)) ≡ Goals
      → lower_than (ratios C (list_at (suc j) (standing g C N v))) (ratios C (list_at j (standing g C N v))) ≡ true
  goals_lower g v j h = part_lower (list_at j (standing g C N v)) (list_at (suc j) (standing g C N v)) (standing_step g v j h) Goals

  -- ---- the state
  abbrev rank : Part → Measure
  rank Bounds = fraction 1 1
  rank Goals = fraction 0 1

  abbrev state_of : Part → List ℤ → List Measure
  state_of p v = rank p ∷ sorted below (measures p C v)

  abbrev pub state : List ℤ → List Measure
  state v = state_of (part_of C v) v

  state_determinate : (v : List ℤ) → Each Determinate (state v)
  state_determinate v =
      (rank_determinate (part_of C v), sorted_each below Determinate (measures (part_of C v) C v) (measures_determinate (part_of C v) C v C.count 0))
    where
      rank_determinate : (p : Part) → Determinate (rank p)
      rank_determinate Bounds = omega arith
      rank_determinate Goals = omega arith

  step_state : (v : List ℤ) (i : ℕ) (o : Move) → next_step C N v ≡ Some (step i o) → lower below (state (moved N o v)) (state v) ≡ true
  unfolding next_step lower
  step_state v i o e = go (in_bounds C v) (in_bounds C (moved N o v)) refl e (next_lower C N v i o e)
    where
      go : (a b : Bool) → in_bounds C (moved N o v) ≡ b → step_of (part_if a) C N v ≡ Some (step i o)
          → lower_than (measures (part_if a) C (moved N o v)) (measures (part_if a) C v) ≡ true
          → lower below (state_of (part_if b) (moved N o v)) (state_of (part_if a) v) ≡ true
      go false false f e l = l
      go false true f e l = refl
      go true false f e l = absurd (true≢false (sym (goals_stay v i o e) ∙ f))
      go true true f e l = l

  stepped_state : (u w : List ℤ) → Stepped C N u w → lower below (state w) (state u) ≡ true
  stepped_state u w s = subst (λ (x : List ℤ). lower below (state x) (state u) ≡ true) (sym s.after) (step_state u s.column s.move s.next)

  -- ---- no list twice
  module _ (g : ℕ) (v : List ℤ) where
    abbrev at : ℕ → List ℤ
    at j = list_at j (standing g C N v)

    pub later_lower : (j k : ℕ) → j < k → k < length (standing g C N v) → lower below (state (at k)) (state (at j)) ≡ true
    later_lower j zero h l = absurd (omega arith)
    later_lower j (suc k) h l =
        ⊎_elim
        (λ m.
        lower_after below_weak (state (at (suc k))) (state (at k)) (state (at j)) (state_determinate (at (suc k))) (state_determinate (at k))
        (state_determinate (at j)) step (later_lower j k m (omega arith)))
        (λ m. let e : k ≡ j = omega arith in subst (λ (c : ℕ). lower below (state (at (suc k))) (state (at c)) ≡ true) e step)
        (lt_or_ge j k)
      where
        step : lower below (state (at (suc k))) (state (at k)) ≡ true
        step = stepped_state (at k) (at (suc k)) (standing_step g v k l)

    pub once : (j k : ℕ) → j < k → k < length (standing g C N v) → list_at j (standing g C N v) ≡ list_at k (standing g C N v) → ⊥
    once j k h l e =
        true≢false (sym (later_lower j k h l) ∙ ap (λ (x : List ℤ). lower below (state (at k)) (state x)) e ∙ lower_self below_weak (state (at k)))

  pub run_descends : (g : ℕ) (v : List ℤ) → Descent C (standing g C N v)
  run_descends g v = record { bounds = bounds_lower g v; goals = goals_lower g v; once = once g v }
