-- What a step is, and what it leaves.
--   step_taken           what is taken as a step is a move that improves a column tried; `next_taken` of the next step
--   taken_changes        it changes column i
--   taken_allowed        it leaves an allowed value in each column
--   taken_below          a changed column that is compared then has a measure below i's old one
--   moved_still          a column that a move does not change keeps its value
-- Assumes nothing.
use mathlib.Core.Path.{◌≡◌, refl, sym, ◌∙◌, ap, subst}
use mathlib.Core.Logic.{inl, inr, ⊎_elim}
use mathlib.Core.Bool.{Bool, true, false, cond}
use mathlib.Core.List.{List, [], ◌∷◌}
use Prim.Native.Nat.{ℕ, ◌<◌}
use native.Mathlib.Omega.{arith}
use lib.IntN.{ℤ, pos, ◌+ℤ◌, +ℤ_idr}
use lib.ListN.{length, get_or-eq_default}
use Rattle.whole.specs.Lists.{entry}
use Rattle.whole.specs.Tests.{is_zero, every}
use Rattle.whole.proofs.Counted.{every_at}
use Rattle.whole.proofs.Never.{never}
use Rattle.whole.proofs.Integers.{is_zero_true}
use Rattle.whole.proofs.Tests.{both_true}
use Rattle.settling.specs.Rankings.{Each}
use Rattle.settling.specs.declared.Move.{Move}
use Rattle.settling.specs.declared.Part.{Part}
use Rattle.settling.specs.declared.Step.{Step}
use Rattle.std.specs.Prelude.{Option, Some, None}
use Rattle.settling.specs.Columns.{Columns, cell}
use Rattle.settling.proofs.Fronts.{lt_or_ge}
use Rattle.settling.specs.Moves.{moves, change, changes, moved}
use Rattle.settling.specs.Measures.{below}
use Rattle.settling.specs.Steps.{step, part_of, is_compared, is_allowed, passes, measure_at, ranked_at, larger_at, passes_at, improves}
use Rattle.settling.specs.Steps.{ranking, or_else, first_move, first_column, step_at, step_of, next_step}
use Rattle.settling.specs.Verdicts.{Listed, Improving}
use Rattle.settling.proofs.Views.{moved_length, moved_at}
use Rattle.settling.proofs.Insertion.{each_ranked}
use Rattle.settling.proofs.Passing.{passes_measured}

not_take : {i : ℕ} {o : Move} → None ≡ Some (step i o) → ⊥
not_take {i} {o} e = never (cc)

same_step : {s t : Step} → Some s ≡ Some t → s ≡ t
same_step {s} {t} e = cc

same_column : {i j : ℕ} {o u : Move} → Some (step i o) ≡ Some (step j u) → i ≡ j
same_column e = ap (λ (s : Step). s.column) (same_step e)

same_move : {i j : ℕ} {o u : Move} → Some (step i o) ≡ Some (step j u) → u ≡ o
same_move e = ap (λ (s : Step). s.o) (sym (same_step e))

first_move_lem : (good : Move → Bool) (j i : ℕ) (o : Move) (R : List Move) → first_move good j R ≡ Some (step i o)
    → (j ≡ i) × (good o ≡ true) × Listed o R
unfolding first_move
first_move_lem good j i o [] e = absurd (not_take e)
first_move_lem good j i o (u ∷ R) e = go (good u) refl e (first_move_lem good j i o R)
  where
    go : (b : Bool) → good u ≡ b → cond b (Some (step j u)) (first_move good j R) ≡ Some (step i o)
        → (first_move good j R ≡ Some (step i o) → (j ≡ i) × (good o ≡ true) × Listed o R) → (j ≡ i) × (good o ≡ true) × Listed o (u ∷ R)
    go true g e ih = (same_column e, ap good (same_move e) ∙ g, inl (same_move e))
    go false g e ih = ((ih e).0, (ih e).1, inr (ih e).2)

first_column_lem : (Q : ℕ → Type 0) (f : ℕ → Option Step) (i : ℕ) (o : Move) (L : List ℕ) → Each Q L → first_column f L ≡ Some (step i o)
    → (j : ℕ) × Q j × (f j ≡ Some (step i o))
unfolding first_column
first_column_lem Q f i o [] a e = absurd (not_take e)
first_column_lem Q f i o (j ∷ L) a e = go (f j) refl e (first_column_lem Q f i o L a.1)
  where
    go : (z : Option Step) → f j ≡ z → or_else z (first_column f L) ≡ Some (step i o)
        → (first_column f L ≡ Some (step i o) → (c : ℕ) × Q c × (f c ≡ Some (step i o)))
        → (c : ℕ) × Q c × (f c ≡ Some (step i o))
    go None g e ih = ih e
    go (Some s) g e ih = (j, a.0, g ∙ e)

module _ (p : Part) (C : Columns) (N : List (List ℤ)) (v : List ℤ) where
  pub step_taken : (i : ℕ) (o : Move) → step_of p C N v ≡ Some (step i o) → Improving p C N v i o
  unfolding step_of step_at
  step_taken i o e =
      let c = first_column_lem Ranked (step_at p C N v) i o (ranking p C v)
      (each_ranked Ranked (ranked_at p C v) (larger_at p C v) C.count 0 (λ j l h r. (omega arith, r))) e in
      let m = first_move_lem (λ u. improves p C N v u c.0) c.0 i o (moves (length N)) c.2 in
      subst (λ (j : ℕ). Improving p C N v j o) m.0 (record { inside = c.1.0; ranked = c.1.1; listed = m.2; good = m.1 })
    where
      Ranked : ℕ → Type 0
      Ranked j = (j < C.count) × (ranked_at p C v j ≡ true)

pub next_taken : (C : Columns) (N : List (List ℤ)) (v : List ℤ) (i : ℕ) (o : Move) → next_step C N v ≡ Some (step i o)
    → Improving (part_of C v) C N v i o
unfolding next_step
next_taken C N v i o e = step_taken (part_of C v) C N v i o e

-- ---- what it leaves
module _ (p : Part) (C : Columns) (N : List (List ℤ)) (v : List ℤ) (i : ℕ) (o : Move) (t : Improving p C N v i o) where
  both : (changes N o i ≡ true) × (every C.count (passes_at p C N v o (measure_at p C v i)) ≡ true)
  unfolding improves
  both = both_true (changes N o i) (every C.count (passes_at p C N v o (measure_at p C v i))) t.good

  pub taken_changes : changes N o i ≡ true
  taken_changes = both.0

  all_pass : (j : ℕ) → j < C.count → passes_at p C N v o (measure_at p C v i) j ≡ true
  all_pass j l = every_at C.count (passes_at p C N v o (measure_at p C v i)) j both.1 l

  pub taken_allowed : (j : ℕ) → j < C.count → is_allowed p (cell C (moved N o v) j) ≡ true
  unfolding passes
  taken_allowed j l = (both_true _ _ (all_pass j l)).0

  pub taken_below : (j : ℕ) → j < C.count → is_compared p (cell C (moved N o v) j) ≡ true → is_zero (change N o j) ≡ false
      → below (measure_at p C (moved N o v) j) (measure_at p C v i) ≡ true
  taken_below j l c e =
      sym (passes_measured p (cell C (moved N o v) j) (change N o j) (measure_at p C v i) (taken_allowed j l) e c) ∙ all_pass j l

-- past the end of a list both values are 0
pub moved_still : (N : List (List ℤ)) (o : Move) (v : List ℤ) (j : ℕ) → is_zero (change N o j) ≡ true → entry j (moved N o v) ≡ entry j v
moved_still N o v j e =
    ⊎_elim
    (λ l. moved_at N o v j l ∙ ap (λ (x : ℤ). entry j v +ℤ x) (is_zero_true (change N o j) e) ∙ +ℤ_idr (entry j v))
    (λ l. get_or-eq_default (moved N o v) (pos 0) {n = j} (omega (arith, moved_length N o v)) ∙ sym (get_or-eq_default v (pos 0) {n = j} l))
    (lt_or_ge j (length v))
