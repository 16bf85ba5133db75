-- What a verdict means.
--   rest_exactly     there is no next step exactly when no move improves
--   settle_means     which means what document 01 says
-- Assumes nothing.
use mathlib.Core.Path.{◌≡◌, refl, sym, ◌∙◌, ap, subst}
use mathlib.Core.Logic.{◌↔◌, ◌⊎◌, inl, inr, ⊎_elim}
use mathlib.Core.Bool.{Bool, true, false, cond, ◌&&◌, true≢false}
use mathlib.Core.List.{List, [], ◌∷◌}
use Prim.Native.Nat.{ℕ, zero, suc, ◌+◌, ◌<◌}
use native.Mathlib.Omega.{arith}
use borrow.Author.Tests.{eqb-true, eqb-false}
use lib.Dec.{eqb}
use lib.IntN.{ℤ}
use lib.ListN.{length}
use Rattle.whole.specs.Tests.{every}
use Rattle.whole.proofs.Counted.{every_at}
use Rattle.whole.proofs.Never.{never}
use Rattle.problem.specs.Answers.{no_steps, Answer}
use Rattle.problem.specs.declared.Counts.{Counts}
use Rattle.std.specs.Prelude.{Ok}
use Rattle.problem.specs.declared.Verdict.{Verdict}
use Rattle.problem.specs.declared.Verdict.TheVariants.{Fitted, Outside, Spent}
use Rattle.settling.specs.Rankings.{Each}
use Rattle.settling.specs.declared.Move.{Move}
use Rattle.settling.specs.declared.Part.{Part}
use Rattle.settling.specs.declared.Part.TheVariants.{Bounds, Goals}
use Rattle.settling.specs.declared.Step.{Step}
use Rattle.std.specs.Prelude.{Option, Some, None}
use Rattle.settling.specs.Columns.{Columns, cell}
use Rattle.settling.specs.Moves.{moves, moved}
use Rattle.settling.specs.Measures.{distance}
use Rattle.settling.specs.Steps.{step, in_bounds, part_if, part_of, ranked_at, larger_at, improves, ranking, or_else}
use Rattle.settling.specs.Steps.{first_move, first_column, step_at, step_of, next_step}
use Rattle.settling.specs.Settle.{Settled, ended, at_rest, counted, on_step, settle_from, settle}
use Rattle.settling.specs.Verdicts.{Listed, Improving, AllInBounds, SomeOutside, NoMoveImproves, Means}
use Rattle.settling.proofs.Insertion.{ranked_each}
use Rattle.settling.proofs.Stepping.{next_taken}

-- ---- no step is left
no_move : (good : Move → Bool) (i : ℕ) (R : List Move) (o : Move) → first_move good i R ≡ None → Listed o R → good o ≡ true → ⊥
unfolding first_move
no_move good i [] o e l g = l
no_move good i (u ∷ R) o e l g = go (good u) refl e l (λ f m. no_move good i R o f m g)
  where
    go : (t : Bool) → good u ≡ t → cond t (Some (step i u)) (first_move good i R) ≡ None → Listed o (u ∷ R)
        → (first_move good i R ≡ None → Listed o R → ⊥) → ⊥
    go true f e l ih = never (cc)
    go false f e (inl h) ih = true≢false (sym g ∙ ap good h ∙ f)
    go false f e (inr m) ih = ih e m

no_column_lem : (f : ℕ → Option Step) (L : List ℕ) → first_column f L ≡ None → Each (λ i. f i ≡ None) L
unfolding first_column
no_column_lem f [] e = tt
no_column_lem f (j ∷ L) e = go (f j) refl e (no_column_lem f L)
  where
    go : (z : Option Step) → f j ≡ z → or_else z (first_column f L) ≡ None → (first_column f L ≡ None → Each (λ i. f i ≡ None) L)
        → (f j ≡ None) × Each (λ i. f i ≡ None) L
    go None h e ih = (h, ih e)
    go (Some s) h e ih = never (cc)

part_rests : (p : Part) (C : Columns) (N : List (List ℤ)) (v : List ℤ) → step_of p C N v ≡ None → (i : ℕ) (o : Move) → Improving p C N v i o → ⊥
unfolding step_of step_at
part_rests p C N v e i o t =
    let r : step_at p C N v i ≡ None =
    ranked_each (λ c. step_at p C N v c ≡ None) (ranked_at p C v) (larger_at p C v) C.count 0 i (no_column_lem (step_at p C N v) (ranking p C v) e)
    (omega arith) (omega (arith, t.inside)) t.ranked in
    no_move (λ u. improves p C N v u i) i (moves (length N)) o r t.listed t.good

pub rest_exactly : (C : Columns) (N : List (List ℤ)) (v : List ℤ) → (next_step C N v ≡ None) ↔ NoMoveImproves C N v
unfolding next_step
rest_exactly C N v = (part_rests (part_of C v) C N v, (λ h. go h (next_step C N v) refl))
  where
    go : NoMoveImproves C N v → (z : Option Step) → next_step C N v ≡ z → next_step C N v ≡ None
    go h None e = e
    go h (Some s) e = absurd (h s.column s.o (next_taken C N v s.column s.o e))

-- ---- where the values lie
every_fails : (n : ℕ) (f : ℕ → Bool) → every n f ≡ false → (j : ℕ) × (j < n) × (f j ≡ false)
unfolding every
every_fails zero f e = absurd (true≢false e)
every_fails (suc n) f e = go (every n f) (f n) refl refl e (every_fails n f)
  where
    go : (s t : Bool) → every n f ≡ s → f n ≡ t → s && t ≡ false → (every n f ≡ false → (j : ℕ) × (j < n) × (f j ≡ false))
        → (j : ℕ) × (j < suc n) × (f j ≡ false)
    go true true a b e ih = absurd (true≢false e)
    go true false a b e ih = (n, omega arith, b)
    go false t a b e ih = let r = ih a in (r.0, omega (arith, r.1), r.2)

module _ (C : Columns) (v : List ℤ) where
  in_bounds_lem : in_bounds C v ≡ true → AllInBounds C v
  in_bounds_lem e j h = eqb-true (distance (cell C v j)) 0 (every_at C.count (λ i. eqb (distance (cell C v i)) 0) j e h)

  some_outside : in_bounds C v ≡ false → SomeOutside C v
  some_outside e =
      let r = every_fails C.count (λ i. eqb (distance (cell C v i)) 0) e in
      let z = eqb-false (distance (cell C v r.0)) 0 r.2 in
      record { column = r.0; inside = r.1; outside = omega (arith, z) }

  rest_fitted : (x k : Counts) → at_rest (part_of C v) x ≡ Fitted k → in_bounds C v ≡ true
  rest_fitted x k e = go (in_bounds C v) refl e
    where
      go : (t : Bool) → in_bounds C v ≡ t → at_rest (part_if t) x ≡ Fitted k → in_bounds C v ≡ true
      go true f e = f
      go false f e = never (cc)

  rest_outside : (x k : Counts) → at_rest (part_of C v) x ≡ Outside k → in_bounds C v ≡ false
  rest_outside x k e = go (in_bounds C v) refl e
    where
      go : (t : Bool) → in_bounds C v ≡ t → at_rest (part_if t) x ≡ Outside k → in_bounds C v ≡ false
      go true f e = never (cc)
      go false f e = f

rest_not_spent : (p : Part) (x k : Counts) → at_rest p x ≡ Spent k → ⊥
rest_not_spent Bounds x k e = never (cc)
rest_not_spent Goals x k e = never (cc)

abbrev ok_answer : Verdict → Answer
ok_answer x = Ok x

inside : {x y : Verdict} → ok_answer x ≡ ok_answer y → x ≡ y
inside {x} {y} e = cc

-- ---- how settling ends
counted_total : (p : Part) (k : Counts) → (counted p k).bounds + (counted p k).goals ≡ suc (k.bounds + k.goals)
counted_total Bounds k = omega arith
counted_total Goals k = omega arith

module _ (C : Columns) (N : List (List ℤ)) where
  record Resting (z : Settled) : Type 0 where
    counts : Counts
    next : next_step C N z.values ≡ None
    is : z.verdict ≡ at_rest (part_of C z.values) counts

  record Stopped (limit : ℕ) (z : Settled) : Type 0 where
    counts : Counts
    column : ℕ
    move : Move
    next : next_step C N z.values ≡ Some (step column move)
    is : z.verdict ≡ Spent counts
    reached : counts.bounds + counts.goals ≡ limit

  -- g steps left after the steps k
  settle_ends : (limit g : ℕ) (k : Counts) (v : List ℤ) → k.bounds + k.goals + g ≡ limit
      → Resting (settle_from g C N k v) ⊎ Stopped limit (settle_from g C N k v)
  unfolding settle_from
  settle_ends limit zero k v h = go (next_step C N v) refl
    where
      go : (z : Option Step) → next_step C N v ≡ z
          → Resting (on_step z (ended (at_rest (part_of C v) k) v) (λ o. ended (Spent k) v))
          ⊎ Stopped limit (on_step z (ended (at_rest (part_of C v) k) v) (λ o. ended (Spent k) v))
      go None e = inl (record { counts = k; next = e; is = refl })
      go (Some s) e = inr (record { counts = k; column = s.column; move = s.o; next = e; is = refl; reached = omega arith })
  settle_ends limit (suc g) k v h =
      go (next_step C N v) refl
      (λ o. settle_ends limit g (counted (part_of C v) k) (moved N o v) (omega (arith, counted_total (part_of C v) k)))
    where
      on : Move → Settled
      on o = settle_from g C N (counted (part_of C v) k) (moved N o v)

      go : (z : Option Step) → next_step C N v ≡ z → ((o : Move) → Resting (on o) ⊎ Stopped limit (on o))
          → Resting (on_step z (ended (at_rest (part_of C v) k) v) on) ⊎ Stopped limit (on_step z (ended (at_rest (part_of C v) k) v) on)
      go None e ih = inl (record { counts = k; next = e; is = refl })
      go (Some s) e ih = ih s.o

  -- ---- the verdict
  pub settle_means : (limit : ℕ) (v : List ℤ) → Means limit C N (Ok (settle limit C N v).verdict) (settle limit C N v).values
  unfolding settle
  settle_means limit v = ⊎_elim resting stopped (settle_ends limit limit no_steps v (omega arith))
    where
      u : List ℤ
      u = (settle_from limit C N no_steps v).values

      a : Verdict
      a = (settle_from limit C N no_steps v).verdict

      resting : Resting (settle_from limit C N no_steps v) → Means limit C N (Ok a) u
      resting z = record {
        fitted = λ k e. (in_bounds_lem C u (rest_fitted C u z.counts k (sym z.is ∙ inside e)), (rest_exactly C N u).0 z.next);
        outside = λ k e. (some_outside C u (rest_outside C u z.counts k (sym z.is ∙ inside e)), (rest_exactly C N u).0 z.next);
        spent = λ k e. absurd (rest_not_spent (part_of C u) z.counts k (sym z.is ∙ inside e));
      }

      same_counts : (x k : Counts) → Spent x ≡ Spent k → x ≡ k
      same_counts x k e = cc

      stopped : Stopped limit (settle_from limit C N no_steps v) → Means limit C N (Ok a) u
      stopped z = record {
        fitted = λ k e. let f : Spent z.counts ≡ Fitted k = sym z.is ∙ inside e in never (cc);
        outside = λ k e. let f : Spent z.counts ≡ Outside k = sym z.is ∙ inside e in never (cc);
        spent = λ k e. (
          subst (λ (x : Counts). x.bounds + x.goals ≡ limit) (same_counts z.counts k (sym z.is ∙ inside e)) z.reached,
          record { column = z.column; move = z.move; improving = next_taken C N u z.column z.move z.next },
        );
      }
