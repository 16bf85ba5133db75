-- What a preview says.
--   preview_continue   it equals Continue with limit 1 on a copy of the list
--   preview_room       where the list after has not n numbers it is turned back with 1 or 2
--   preview_step       what it names is a step
--   preview_rest       where it names none no move improves
--   preview_small      whose column and move are such as a problem can have
--   preview_limit      the limit held beside the problem plays no part
-- Assumes nothing.
use mathlib.Core.Path.{◌≡◌, refl, sym, ◌∙◌, ap, ap₂, subst}
use mathlib.Core.Bool.{Bool, true, false, cond, ◌&&◌, true≢false}
use mathlib.Core.List.{List}
use Prim.Native.Nat.{ℕ, ◌+◌, ◌*◌, ◌<◌, ◌≤◌}
use native.Mathlib.Omega.{arith}
use borrow.Author.Tests.{ne_eqb, eqb-true}
use lib.Dec.{eqb}
use lib.IntN.{ℤ}
use lib.ListN.{length}
use Rattle.whole.specs.Lists.{zeros}
use Rattle.whole.proofs.Never.{never, untrue}
use Rattle.problem.specs.Limits.{max_columns, max_rows}
use Rattle.problem.specs.Answers.{no_steps, verdict_counts, answer_counts, is_verdict}
use Rattle.problem.specs.Checks.{Posed, sizes_fit, row_lengths_fit, column_lengths_fit, ideal_lengths_fit, lent_fit}
use Rattle.problem.specs.Checks.{rows_fit, bounds_fit, goals_fit, limit_fits, or_next, first_cause}
use Rattle.problem.specs.declared.Counts.{Counts}
use Rattle.problem.proofs.CheckLaws.{Fits}
use Rattle.problem.specs.declared.Lent.{Lent}
use Rattle.problem.specs.declared.Refusal.{Refusal}
use Rattle.problem.specs.declared.Refusal.TheVariants.{Size, Length, Coefficient, Bound, Goal, Limit, Elimination, Standing}
use Rattle.problem.specs.Answers.{Answer}
use Rattle.problem.specs.Checks.{Check}
use Rattle.std.specs.Prelude.{Option, Some, None, Result, Ok, Err}
use Rattle.settling.specs.declared.Move.{Move}
use Rattle.settling.specs.declared.Part.{Part}
use Rattle.settling.specs.declared.Part.TheVariants.{Bounds, Goals}
use Rattle.settling.specs.declared.Step.{Step}
use Rattle.settling.specs.Columns.{Columns}
use Rattle.settling.specs.Moves.{moved}
use Rattle.settling.specs.Settle.{Settled, at_rest, counted, settle_from, settle}
use Rattle.settling.specs.Steps.{part_of, step, next_step}
use Rattle.settling.specs.Verdicts.{Improving}
use Rattle.settling.specs.Views.{OfBasis}
use Rattle.settling.proofs.Settlings.{step_good, settle_rest, settle_spent, settle_on_lem}
use Rattle.settling.proofs.Stepping.{next_taken}
use Rattle.settling.proofs.Verdicts.{rest_exactly}
use Rattle.engine.specs.Assign.{Buffers, Done, n, m, columns, lent_of, refused, settle_on, stands, formed}
use Rattle.engine.specs.Ground.{Grounded, grounded, laid_ground}
use Rattle.engine.specs.Outcomes.{basis_left}
use Rattle.engine.specs.Preview.{Seen, next, Shown, with_limit, list_length, lent_beside, unshown, on_cause, told, after, shown_on}
use Rattle.engine.specs.Preview.{preview_fit, preview}
use Rattle.engine.specs.Preview.{copied, Equals, EqualsContinue, PreviewContinue, PreviewRoom}
use Rattle.engine.specs.Preview.{NamesStep, PreviewStep, AtRest, PreviewRest, PreviewLimit}
use Rattle.engine.specs.declared.preview.Next.{Next}
use Rattle.engine.proofs.Forming.{basis_few}
use Rattle.engine.proofs.Grounding.{by_rounds, Clear, clear, clear_fits, continue_ground}
use Rattle.engine.proofs.Showing.{both_long, preview_ground}

-- ---- counts
no_step : (p : Part) → no_steps ≡ counted p no_steps → ⊥
no_step Bounds e = omega (arith, ap (λ (k : Counts). k.bounds) e)
no_step Goals e = omega (arith, ap (λ (k : Counts). k.goals) e)

same_part : (p q : Part) → counted p no_steps ≡ counted q no_steps → p ≡ q
same_part Bounds Bounds e = refl
same_part Bounds Goals e = absurd (omega (arith, ap (λ (k : Counts). k.bounds) e))
same_part Goals Bounds e = absurd (omega (arith, ap (λ (k : Counts). k.bounds) e))
same_part Goals Goals e = refl

turned_not : (a : Answer) (why : Refusal) → is_verdict a ≡ true → a ≡ Err why → ⊥
turned_not a why v e = true≢false (sym v ∙ ap is_verdict e)

-- ---- a step as it is told
abbrev told_next : Part → ℕ → Move → Seen
told_next p i o = Ok (Some (next p i o))

abbrev told_seen : Option Next → Seen
told_seen x = Ok x

-- the step in what is told, or else d
abbrev step_in : Next → Seen → Next
step_in d (Ok None) = d
step_in d (Ok (Some x)) = x
step_in d (Err why) = d

same_next : (p q : Part) (i j : ℕ) (o u : Move) → told_next p i o ≡ told_next q j u → (p ≡ q) × (i ≡ j) × (o ≡ u)
same_next p q i j o u e =
    let h : next p i o ≡ next q j u = ap (step_in (next p i o)) e in
    (ap (λ (x : Next). x.part) h, ap (λ (x : Next). x.column) h, ap (λ (x : Next). x.o) h)

-- ---- what it is to equal Continue, by what is shown
refused_equal : (v : List ℤ) (B : Buffers) (why : Refusal) (t : List ℤ) → Equals (unshown why t B) (refused why t (copied v B)) B.values
refused_equal v B why t = record {
  refused = λ other. ((λ e. cc), (λ e. cc));
  rests = ((λ e. never (cc)), (λ e. untrue e.0));
  steps = λ p. ((λ x. let e = x.is in never (cc)), (λ e. absurd (no_step p e)));
  rounds = refl;
  tableau = refl;
  strides = refl;
  after = λ e. untrue e;
  kept = λ e. refl;
}

-- how settling ends: a verdict with these counts and values
record EndsWith (z : Settled) (k : Counts) (w : List ℤ) : Type 0 where
  counts : verdict_counts z.verdict ≡ k
  values : z.values ≡ w

module _ (x : Shown) (d : Done) (before : List ℤ) (v : is_verdict d.answer ≡ true) (r : x.rounds ≡ d.rounds) (t : x.tableau ≡ d.tableau)
    (s : x.strides ≡ d.strides) (a : x.after ≡ d.values) where
  rest_equal : x.seen ≡ Ok None → answer_counts d.answer ≡ no_steps → Equals x d before
  rest_equal e k = record {
    refused = λ why. ((λ h. never (cc)), (λ h. absurd (turned_not d.answer why v h)));
    rests = ((λ h. (v, k)), (λ h. e));
    steps = λ p. ((λ y. let h = y.is in never (cc)), (λ h. absurd (no_step p (sym k ∙ h))));
    rounds = r;
    tableau = t;
    strides = s;
    after = λ h. a;
    kept = λ h. absurd (true≢false (sym v ∙ h));
  }

  step_equal : (p : Part) (i : ℕ) (o : Move) → x.seen ≡ Ok (Some (next p i o)) → answer_counts d.answer ≡ counted p no_steps → Equals x d before
  step_equal p i o e k = record {
    refused = λ why. ((λ h. never (cc)), (λ h. absurd (turned_not d.answer why v h)));
    rests = ((λ h. never (cc)), (λ h. absurd (no_step p (sym h.1 ∙ k))));
    steps = λ q. (
      (λ y. k ∙ ap (λ (r : Part). counted r no_steps) (same_next p q i y.column o y.move (sym e ∙ y.is)).0),
      (λ h. record { column = i; move = o; is = e ∙ ap (λ (r : Part). told_next r i o) (same_part p q (sym k ∙ h)) }),
    );
    rounds = r;
    tableau = t;
    strides = s;
    after = λ h. a;
    kept = λ h. absurd (true≢false (sym v ∙ h));
  }

-- ---- settling with limit 1
module _ (C : Columns) (N : List (List ℤ)) where
  rest_ends : (p : Part) (k : Counts) (v : List ℤ) → EndsWith (record { verdict = at_rest p k; values = v }) k v
  rest_ends Bounds k v = record { counts = refl; values = refl }
  rest_ends Goals k v = record { counts = refl; values = refl }

  none_left : (k : Counts) (v : List ℤ) → EndsWith (settle_from 0 C N k v) k v
  none_left k v = go (next_step C N v) refl
    where
      go : (z : Option Step) → next_step C N v ≡ z → EndsWith (settle_from 0 C N k v) k v
      go None e = subst (λ (z : Settled). EndsWith z k v) (sym (settle_rest C N k v 0 e)) (rest_ends (part_of C v) k v)
      go (Some u) e =
          subst (λ (z : Settled). EndsWith z k v) (sym (settle_spent C N k v 0 u.column u.o refl e)) (record { counts = refl; values = refl })

  module _ (v : List ℤ) where
    rests_ends : next_step C N v ≡ None → EndsWith (settle 1 C N v) no_steps v
    unfolding settle
    rests_ends e = subst (λ (z : Settled). EndsWith z no_steps v) (sym (settle_rest C N no_steps v 1 e)) (rest_ends (part_of C v) no_steps v)

    step_ends : (i : ℕ) (o : Move) → next_step C N v ≡ Some (step i o) → EndsWith (settle 1 C N v) (counted (part_of C v) no_steps) (moved N o v)
    unfolding settle
    step_ends i o e =
        subst (λ (z : Settled). EndsWith z (counted (part_of C v) no_steps) (moved N o v))
        (sym (settle_on_lem C N no_steps v 1 i o (λ h. omega (arith, h)) e))
        (none_left (counted (part_of C v) no_steps) (moved N o v))

-- ---- over the form
shown_equal :
    (P : Posed) (v : List ℤ) (T N : List (List ℤ)) (before : List ℤ) → Equals (shown_on P T N v) (settle_on (with_limit 1 P) T N v) before
unfolding settle_on
shown_equal P v T N before = go (next_step C N v) refl
  where
    C : Columns
    C = columns P

    go : (z : Option Step) → next_step C N v ≡ z → Equals (shown_on P T N v) (settle_on (with_limit 1 P) T N v) before
    go None e =
        let w = rests_ends C N v e in
        rest_equal (shown_on P T N v) (settle_on (with_limit 1 P) T N v) before refl refl refl refl (ap (after N v) e ∙ sym w.values)
        (ap (λ (z : Option Step). told_seen (told (part_of C v) z)) e) w.counts
    go (Some u) e =
        let w = step_ends C N v u.column u.o e in
        step_equal (shown_on P T N v) (settle_on (with_limit 1 P) T N v) before refl refl refl refl (ap (after N v) e ∙ sym w.values)
        (part_of C v) u.column u.o (ap (λ (z : Option Step). told_seen (told (part_of C v) z)) e) w.counts

-- ---- whole
same_lengths : (n a b : ℕ) → b ≡ n → list_length n a b ≡ a
same_lengths n a b e = go (eqb a n) refl
  where
    go : (t : Bool) → eqb a n ≡ t → cond t b a ≡ a
    go true h = e ∙ sym (eqb-true a n h)
    go false h = refl

module _ (P : Posed) (v : List ℤ) (B : Buffers) where
  abbrev x : Shown
  x = shown_on P (formed P).table (basis_left P) v

  abbrev d : Done
  d = settle_on (with_limit 1 P) (formed P).table (basis_left P) v

  by_rounds_lem :
      (c : Result ℕ Refusal) (t : List ℤ)
      → Equals (by_rounds (λ why t. unshown why t B) x c t) (by_rounds (λ why t. refused why t (copied v B)) d c t) B.values
  by_rounds_lem (Ok u) t = shown_equal P v (formed P).table (basis_left P) B.values
  by_rounds_lem (Err why) t = refused_equal v B why t

  module _ (e : length B.values ≡ n P) where
    same_lent : lent_beside (n P) v B ≡ lent_of (copied v B)
    same_lent =
        ap (λ (k : ℕ). record { tableau = length B.tableau; values = k; strides = length B.strides })
        (same_lengths (n P) (length v) (length B.values) e)

    equal : EqualsContinue P v B
    equal =
        let g : Grounded = laid_ground (with_limit 1 P) v (lent_of (copied v B)) B.tableau in
        rw (preview_ground P v B, continue_ground (with_limit 1 P) (copied v B), same_lent) (by_rounds_lem g.rounds g.tableau)

pub preview_continue : PreviewContinue
preview_continue P v B e = equal P v B e

-- ---- no room for the copy
short_lent : (a b c : Bool) → b ≡ false → a && (b && c) ≡ false
short_lent true b c e = rw e refl
short_lent false b c e = refl

first_short :
    (a b c d : Bool) (r : Check)
    → or_next a Size (or_next b Length (or_next c Length (or_next d Length (or_next false Length r)))) ≡ Err (cond a Length Size)
first_short false b c d r = refl
first_short true false c d r = refl
first_short true true false d r = refl
first_short true true true false r = refl
first_short true true true true r = refl

short_cause :
    (P : Posed) (L : Lent) → lent_fit P.problem L ≡ false
    → first_cause P L ≡ Err (cond (sizes_fit max_columns max_rows P.problem) Length Size)
unfolding first_cause
short_cause P L e =
    rw e (first_short (sizes_fit max_columns max_rows P.problem) (row_lengths_fit P.problem P.coefficients P.rights)
    (column_lengths_fit P.problem P.lower P.upper P.low P.high) (ideal_lengths_fit P.problem P.given P.ideals)
    (or_next (rows_fit P.coefficients P.rights) Coefficient (or_next (bounds_fit P.lower P.upper) Bound
    (or_next (goals_fit P.lower P.low P.high) Goal (or_next (limit_fits P.problem) Limit (Ok tt))))))

turned : (P : Posed) (v : List ℤ) (B : Buffers) (why : Refusal) → first_cause (with_limit 1 P) (lent_beside (n P) v B) ≡ Err why
    → preview P v B ≡ unshown why B.tableau B
unfolding preview
turned P v B why e = rw e refl

pub preview_room : PreviewRoom
preview_room P v B f =
    turned P v B _
    (short_cause (with_limit 1 P) (lent_beside (n P) v B)
    (short_lent (eqb (length B.tableau) (n P * (m P + n P))) (eqb (list_length (n P) (length v) (length B.values)) (n P))
    (eqb (length B.strides) (n P))
    (ne_eqb _ (n P) (λ e. f (both_long (n P) (length v) (length B.values) e).1))))

-- ---- what is named
module _ (P : Posed) (v : List ℤ) (p : Part) (i : ℕ) (o : Move) where
  shown_names : (T : List (List ℤ)) → (shown_on P T (basis_left P) v).seen ≡ Ok (Some (next p i o))
      → NamesStep P v (shown_on P T (basis_left P) v) p i o
  shown_names T = go (next_step C N v) refl
    where
      C : Columns
      C = columns P

      N : List (List ℤ)
      N = basis_left P

      go : (z : Option Step) → next_step C N v ≡ z → told_seen (told (part_of C v) (next_step C N v)) ≡ told_next p i o
          → NamesStep P v (shown_on P T N v) p i o
      go None e h =
          let f : told_seen None ≡ told_next p i o = sym (ap (λ (z : Option Step). told_seen (told (part_of C v) z)) e) ∙ h in
          never (cc)
      go (Some u) e h =
          let f : told_next (part_of C v) u.column u.o ≡ told_next p i o = sym (ap (λ (z : Option Step). told_seen (told (part_of C v) z)) e) ∙ h in
          let g : (part_of C v ≡ p) × (u.column ≡ i) × (u.o ≡ o) = same_next (part_of C v) p u.column i u.o o f in
          let named : next_step C N v ≡ Some (step i o) = e ∙ ap₂ (λ (a : ℕ) (b : Move). Some (step a b)) g.1 g.2 in
          record {
            part = g.0;
            step = named;
            improving = subst (λ (q : Part). Improving q C N v i o) g.0 (next_taken C N v i o named);
            after = ap (after N v) named;
          }

  module _ (B : Buffers) where
    names : (c : Result ℕ Refusal) (t : List ℤ) → (by_rounds (λ why t. unshown why t B) (x P v B) c t).seen ≡ Ok (Some (next p i o))
        → NamesStep P v (by_rounds (λ why t. unshown why t B) (x P v B) c t) p i o
    names (Ok u) t e = shown_names (formed P).table e
    names (Err why) t e = never (cc)

pub preview_step : PreviewStep
preview_step P v B p i o e =
    let g : Grounded = laid_ground (with_limit 1 P) v (lent_beside (n P) v B) B.tableau in
    rw (preview_ground P v B) (names P v p i o B g.rounds g.tableau (rw (preview_ground P v B) at e))

-- ---- at rest
module _ (P : Posed) (v : List ℤ) where
  shown_rests : (T : List (List ℤ)) → (shown_on P T (basis_left P) v).seen ≡ Ok None → AtRest P v (shown_on P T (basis_left P) v)
  shown_rests T = go (next_step C N v) refl
    where
      C : Columns
      C = columns P

      N : List (List ℤ)
      N = basis_left P

      go : (z : Option Step) → next_step C N v ≡ z → told_seen (told (part_of C v) (next_step C N v)) ≡ told_seen None
          → AtRest P v (shown_on P T N v)
      go None e h = record { none = (rest_exactly C N v).0 e; after = ap (after N v) e }
      go (Some u) e h =
          let f : told_next (part_of C v) u.column u.o ≡ told_seen None = sym (ap (λ (z : Option Step). told_seen (told (part_of C v) z)) e) ∙ h in
          never (cc)

  rests : (B : Buffers) (c : Result ℕ Refusal) (t : List ℤ) → (by_rounds (λ why t. unshown why t B) (x P v B) c t).seen ≡ Ok None
      → AtRest P v (by_rounds (λ why t. unshown why t B) (x P v B) c t)
  rests B (Ok u) t e = shown_rests (formed P).table e
  rests B (Err why) t e = never (cc)

pub preview_rest : PreviewRest
preview_rest P v B e =
    let g : Grounded = laid_ground (with_limit 1 P) v (lent_beside (n P) v B) B.tableau in
    rw (preview_ground P v B) (rests P v B g.rounds g.tableau (rw (preview_ground P v B) at e))

-- ---- how large it is
no_refusal : (P : Posed) (v : List ℤ) (B : Buffers) (p : Part) (i : ℕ) (o : Move) (c : Result ℕ Refusal) (t : List ℤ)
    → (by_rounds (λ why t. unshown why t B) (x P v B) c t).seen ≡ Ok (Some (next p i o)) → (k : ℕ) × (c ≡ Ok k)
no_refusal P v B p i o (Ok k) t e = (k, refl)
no_refusal P v B p i o (Err why) t e = never (cc)

module _ (P : Posed) (v : List ℤ) (B : Buffers) (p : Part) (i : ℕ) (o : Move) (e : (preview P v B).seen ≡ Ok (Some (next p i o))) where
  abbrev L : Lent
  L = lent_beside (n P) v B

  abbrev g : Grounded
  g = laid_ground (with_limit 1 P) v L B.tableau

  is_clear : Clear (with_limit 1 P) v L B.tableau g.tableau
  is_clear =
      clear (with_limit 1 P) v L B.tableau
      (ap (λ (c : Result ℕ Refusal). grounded c g.tableau)
      (sym (no_refusal P v B p i o g.rounds g.tableau (rw (preview_ground P v B) at e)).1))

  abbrev fit : Fits (with_limit 1 P) L
  fit = clear_fits _ _ _ _ is_clear

  pub preview_small : (i < max_columns) × OfBasis max_columns o
  preview_small =
      let s : NamesStep P v (preview P v B) p i o = preview_step P v B p i o e in
      let g : OfBasis (length (basis_left P)) o = (step_good (columns P) (basis_left P) v i o s.step).0 in
      let k : length (basis_left P) ≤ n P = basis_few P in
      let f : n P ≤ max_columns = fit.few_columns in (
        omega (arith, s.improving.inside),
        record { s = omega (arith, g.s); t = omega (arith, g.t); a = g.a; b = g.b },
      )

-- ---- the limit
or_not : (t : Bool) (why : Refusal) (c : Check) → (why ≡ Limit → ⊥) → (c ≡ Err Limit → ⊥) → or_next t why c ≡ Err Limit → ⊥
or_not true why c f g e = g e
or_not false why c f g e = let h : why ≡ Limit = cc in f h

abbrev passed : Check
passed = Ok tt

passes_not : passed ≡ Err Limit → ⊥
passes_not e = never (cc)

first_not : (P : Posed) (L : Lent) → first_cause (with_limit 1 P) L ≡ Err Limit → ⊥
unfolding first_cause
first_not P L =
    or_not (sizes_fit max_columns max_rows (with_limit 1 P).problem) Size _ (λ (e : Size ≡ Limit). never (cc))
    (or_not (row_lengths_fit (with_limit 1 P).problem P.coefficients P.rights) Length _ length_not
    (or_not (column_lengths_fit (with_limit 1 P).problem P.lower P.upper P.low P.high) Length _ length_not
    (or_not (ideal_lengths_fit (with_limit 1 P).problem P.given P.ideals) Length _ length_not
    (or_not (lent_fit (with_limit 1 P).problem L) Length _ length_not
    (or_not (rows_fit P.coefficients P.rights) Coefficient _ (λ (e : Coefficient ≡ Limit). never (cc))
    (or_not (bounds_fit P.lower P.upper) Bound _ (λ (e : Bound ≡ Limit). never (cc))
    (or_not (goals_fit P.lower P.low P.high) Goal _ (λ (e : Goal ≡ Limit). never (cc)) passes_not)))))))
  where
    length_not : Length ≡ Limit → ⊥
    length_not e = never (cc)

module _ (P : Posed) (v : List ℤ) (B : Buffers) where
  shown_not : (z : Option Next) → told_seen z ≡ Err Limit → ⊥
  shown_not z e = never (cc)

  fit_not : (s o : Bool) → (cond s (cond o (unshown Elimination (zeros (length B.tableau)) B) (x P v B)) (unshown Standing B.tableau B)).seen
      ≡ Err Limit → ⊥
  fit_not false o e = never (cc)
  fit_not true true e = never (cc)
  fit_not true false e = shown_not (told (part_of (columns P) v) (next_step (columns P) (basis_left P) v)) e

  never_limit : (preview P v B).seen ≡ Err Limit → ⊥
  unfolding preview
  never_limit = go (first_cause (with_limit 1 P) (lent_beside (n P) v B)) refl
    where
      go : (c : Check) → first_cause (with_limit 1 P) (lent_beside (n P) v B) ≡ c → (on_cause c B (preview_fit P v B)).seen ≡ Err Limit → ⊥
      go (Ok u) h e = fit_not (stands P v) (formed P).over e
      go (Err why) h e = let w : why ≡ Limit = cc in first_not P (lent_beside (n P) v B) (h ∙ ap Err w)

pub preview_limit : PreviewLimit
unfolding preview
preview_limit P v B = record { same = λ k. refl; never = never_limit P v B }
