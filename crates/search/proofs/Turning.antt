-- From one step to the next.
--   part_goals, -bounds   the part that is reached, by whether a column is ranked in the bounds part
--   gathered_goals, -bounds   the same, by the columns gathered for the bounds part
--   reached_rankable      the columns can be ranked in that part
--   gathered_ranked        its columns, put into their ranking
--   ranked_part           a ranking that is kept is of that part
--   ready_turnable        ready columns can be ranked in the part that is reached
--   ranked_few, -allowed, -order   a ranking of that part can be searched
--   turned                the step along the ranking is the next step
--   arranged_bounds, -none, -next   what is kept of the bounds part, at first, and after a step
--   arranged_listed       in the goals part that has its columns
-- Assumes nothing.
use mathlib.Core.Path.{◌≡◌, refl, sym, ◌∙◌, ap, ap₂, subst}
use mathlib.Core.Bool.{Bool, true, false}
use mathlib.Core.List.{List, [], ◌∷◌, ◌++◌}
use Prim.Native.Nat.{ℕ, ◌<◌, ◌≤◌}
use native.Mathlib.Omega.{arith}
use borrow.Author.Tests.{eqb-true, eq-eqb, ltb-true, ltb-false}
use lib.Dec.{ltb, eqb}
use lib.IntN.{ℤ}
use lib.ListN.{length, take, drop, get_or, length-take, length-drop, length-append}
use lib.Seq.{take_at, length-take-le}
use Rattle.std.specs.Prelude.{Some}
use Rattle.whole.proofs.Counted.{every_at, every_all}
use Rattle.whole.proofs.Never.{never}
use Rattle.problem.specs.Limits.{max_columns}
use Rattle.settling.specs.Rankings.{Each, Proper}
use Rattle.settling.specs.declared.Basis.{Basis}
use Rattle.settling.specs.declared.Column.{Column}
use Rattle.settling.specs.declared.Move.{Move}
use Rattle.settling.specs.declared.Part.{Part}
use Rattle.settling.specs.declared.Part.TheVariants.{Bounds, Goals}
use Rattle.settling.specs.Columns.{Columns, columns_in, cell}
use Rattle.settling.specs.Measures.{distance, measure}
use Rattle.settling.specs.Moves.{moved}
use Rattle.settling.specs.Ready.{Ready}
use Rattle.settling.specs.Steps.{in_bounds, part_if, part_of, is_ranked, is_allowed, ranked_at, larger_at, ranking, first_column, step_at, step_of}
use Rattle.settling.specs.Steps.{next_step, step}
use Rattle.settling.specs.Views.{vectors}
use Rattle.settling.proofs.Views.{moved_length}
use Rattle.settling.proofs.Blocking.{weak}
use Rattle.settling.proofs.Insertion.{each_at, each_ranked, ranked_each}
use Rattle.settling.proofs.Rankings.{ranking_below, ranking_in, ranking_falls}
use Rattle.settling.proofs.Stepping.{next_taken, taken_allowed}
use Rattle.search.specs.declared.turns.Ranking.{Ranking}
use Rattle.search.specs.Ranked.{Rankable, Permuted}
use Rattle.search.specs.Given.{Measurable, Allowed, InOrder}
use Rattle.search.specs.Turning.{Unranked, Turnable, Arranged, Gathered, RankedIn}
use Rattle.search.proofs.Ranked.{goals_permuted}
use Rattle.search.proofs.Reached.{ready_measurable, ready_allowed, allowed_measurable, allowed_proper}

-- ---- the part, by the columns out of bounds
module _ (C : Columns) (v : List ℤ) (L : List ℕ) (m : Permuted (ranked_at Bounds C v) C.count L) where
  inside : (d : ℕ) → (ltb 0 d ≡ true → ⊥) → eqb d 0 ≡ true
  inside d f = go (ltb 0 d) refl
    where
      go : (t : Bool) → ltb 0 d ≡ t → eqb d 0 ≡ true
      go true e = absurd (f e)
      go false e = eq-eqb d 0 (omega (arith, ltb-false 0 d e))

  none_ranked : L ≡ [] → in_bounds C v ≡ true
  unfolding is_ranked
  none_ranked e =
      every_all C.count (λ j. eqb (distance (cell C v j)) 0)
      (λ j h. inside (distance (cell C v j)) (λ r.
      ranked_each (λ i. ⊥) (ranked_at Bounds C v) m.by C.count 0 j
      (subst (Each (λ i. ⊥)) (sym e ∙ m.is) tt) (omega arith) (omega arith) r))

  some_ranked : 0 < length L → in_bounds C v ≡ true → ⊥
  unfolding is_ranked
  some_ranked h e =
      let q = each_at (λ j. (j < C.count) × (ranked_at Bounds C v j ≡ true)) 0 L 0
      (subst (Each (λ j. (j < C.count) × (ranked_at Bounds C v j ≡ true))) (sym m.is)
      (each_ranked (λ j. (j < C.count) × (ranked_at Bounds C v j ≡ true)) (ranked_at Bounds C v) m.by C.count 0
      (λ j l g r. (omega arith, r)))) h in
      let i = get_or L 0 0 in
      let z : distance (cell C v i) ≡ 0 = eqb-true _ 0 (every_at C.count (λ j. eqb (distance (cell C v j)) 0) i e q.0) in
      omega (arith, ltb-true 0 (distance (cell C v i)) q.1)

  pub part_goals : length L ≡ 0 → part_of C v ≡ Goals
  part_goals e = ap part_if (none_ranked (empty L e))
    where
      empty : (S : List ℕ) → length S ≡ 0 → S ≡ []
      empty [] e = refl
      empty (x ∷ S) e = absurd (omega arith)

  pub part_bounds : 0 < length L → part_of C v ≡ Bounds
  part_bounds h = ap part_if (go (in_bounds C v) refl)
    where
      go : (t : Bool) → in_bounds C v ≡ t → in_bounds C v ≡ false
      go true e = absurd (some_ranked h e)
      go false e = e

-- ---- the columns gathered for the bounds part
module _ (T : List Column) (v : List ℤ) (x : Ranking) (m : length v ≤ max_columns) (p : x.part ≡ Bounds) (g : Gathered T v x) where
  abbrev C : Columns
  C = columns_in (length v) T

  many : length (take x.len x.order) ≡ x.len
  many = length-take-le x.len x.order (omega (arith, g.few, g.long))

  outside : Permuted (ranked_at Bounds C v) C.count (take x.len x.order)
  outside = subst (λ (p : Part). Permuted (ranked_at p C v) C.count (take x.len x.order)) p g.columns

  pub gathered_goals : x.len ≡ 0 → part_of (columns_in (length v) T) v ≡ Goals
  gathered_goals e = part_goals C v (take x.len x.order) outside (many ∙ e)

  pub gathered_bounds : 0 < x.len → part_of (columns_in (length v) T) v ≡ Bounds
  gathered_bounds h = part_bounds C v (take x.len x.order) outside (omega (arith, many))

-- ---- the part that is reached
pub goals_measurable : (T : List Column) (v : List ℤ) → Turnable T v → part_of (columns_in (length v) T) v ≡ Goals → Measurable Goals T v
goals_measurable T v t e = (t.goals e).measurable

pub reached_rankable : (T : List Column) (v : List ℤ) → Turnable T v → (p : Part) → p ≡ part_of (columns_in (length v) T) v → Rankable p T v
reached_rankable T v t Bounds e = t.bounds
reached_rankable T v t Goals e = t.goals (sym e)

pub gathered_ranked : (T : List Column) (v : List ℤ) (K : List ℕ) (x : Ranking) → x.part ≡ part_of (columns_in (length v) T) v → Gathered T v x
    → x.len ≤ length x.order → length K ≡ x.len → K ≡ ranking x.part (columns_in (length v) T) v
    → RankedIn T v (record x { order = K ++ drop x.len x.order })
gathered_ranked T v K x p g room e f = record {
  long = length-append K (drop x.len x.order) ∙ omega (arith, length-drop x.len x.order, g.long, e, room);
  part = p;
  few = g.few;
  columns = take_at K (drop x.len x.order) x.len e ∙ f;
}

-- ---- ready columns
module _ {B : Basis} {T : List Column} {v : List ℤ} (r : Ready B v T) where
  abbrev reached : Part
  reached = part_of (columns_in B.columns T) v

  rankable : (p : Part) → p ≡ reached → Rankable p T v
  rankable p e =
      let a = ready_allowed B T v r p e in
      record {
        measurable = allowed_measurable B T v r p a;
        proper = λ j h g.
            subst (λ (n : ℕ). Proper p (columns_in n T) v j) (sym r.values_long)
            (allowed_proper B T v r p a j (omega (arith, r.values_long))
            (subst (λ (n : ℕ). ranked_at p (columns_in n T) v j ≡ true) r.values_long g));
      }

  bounds_rankable : Rankable Bounds T v
  unfolding measure
  bounds_rankable = record { measurable = ready_measurable B T v r; proper = λ j h g. omega arith }

  pub ready_turnable : Turnable T v
  ready_turnable = record {
    bounds = bounds_rankable;
    goals = λ e. rankable Goals (sym e ∙ ap (λ (n : ℕ). part_of (columns_in n T) v) r.values_long);
  }

  -- ---- its ranking
  in_order : (p : Part) → p ≡ reached → (L : List ℕ) → L ≡ ranking p (columns_in B.columns T) v → length L ≤ max_columns
      → InOrder p (columns_in B.columns T) v L
  in_order p e L f h =
      let C = columns_in B.columns T in
      let n = B.columns in
      let proper = allowed_proper B T v r p (ready_allowed B T v r p e) in
      record {
        few = h;
        below = λ x l. subst (λ (M : List ℕ). get_or M x 0 < n) (sym f)
            (ranking_below (ranked_at p C v) (larger_at p C v) n n 0 x (omega arith) (subst (λ (M : List ℕ). x < length M) f l));
        proper = λ x l. subst (λ (M : List ℕ). Proper p C v (get_or M x 0)) (sym f)
            (ranking_in (Proper p C v) (larger_at p C v) (weak p C v) (ranked_at p C v) n proper x (subst (λ (M : List ℕ). x < length M) f l));
        falls = λ x y g l. subst (λ (M : List ℕ). larger_at p C v (get_or M y 0) (get_or M x 0) ≡ false) (sym f)
            (ranking_falls (Proper p C v) (larger_at p C v) (weak p C v) (ranked_at p C v) n proper x y g (subst (λ (M : List ℕ). y < length M) f l));
      }

  module _ {x : Ranking} (q : RankedIn T v x) where
    pub ranked_part : x.part ≡ part_of (columns_in B.columns T) v
    ranked_part = q.part ∙ ap (λ (n : ℕ). part_of (columns_in n T) v) r.values_long

    ranked_is : take x.len x.order ≡ ranking x.part (columns_in B.columns T) v
    ranked_is = q.columns ∙ ap (λ (n : ℕ). ranking x.part (columns_in n T) v) r.values_long

    pub ranked_few : x.len ≤ length x.order
    ranked_few = omega (arith, q.few, q.long, r.few, r.values_long)

    pub ranked_allowed : Allowed x.part (columns_in B.columns T) v
    ranked_allowed = ready_allowed B T v r x.part ranked_part

    pub ranked_order : InOrder x.part (columns_in B.columns T) v (take x.len x.order)
    ranked_order =
        in_order x.part ranked_part (take x.len x.order) ranked_is (omega (arith, length-take x.len x.order, q.few, r.few, r.values_long))

    pub turned :
        first_column (step_at x.part (columns_in B.columns T) (vectors B) v) (take x.len x.order) ≡ next_step (columns_in B.columns T) (vectors B) v
    unfolding next_step step_of
    turned =
        let C = columns_in B.columns T in
        ap (first_column (step_at x.part C (vectors B) v)) ranked_is ∙ ap (λ (p : Part). step_of p C (vectors B) v) ranked_part

-- ---- after a step of the goals part
goals_stay : (C : Columns) (N : List (List ℤ)) (v : List ℤ) (i : ℕ) (o : Move) → next_step C N v ≡ Some (step i o) → part_of C v ≡ Goals
    → part_of C (moved N o v) ≡ Goals
goals_stay C N v i o e g =
    ap part_if (every_all C.count (λ j. eqb (distance (cell C (moved N o v) j)) 0) (λ j h. allowed j h))
  where
    allowed : (j : ℕ) → j < C.count → eqb (distance (cell C (moved N o v) j)) 0 ≡ true
    allowed j h =
        subst (λ (p : Part). is_allowed p (cell C (moved N o v) j) ≡ true) g (taken_allowed (part_of C v) C N v i o (next_taken C N v i o e) j h)

-- ---- what is kept
pub arranged_bounds : (T : List Column) (v : List ℤ) (x : Ranking) → x.part ≡ Bounds → length x.order ≡ max_columns → Arranged T v x
arranged_bounds T v x b l = record {
  long = l;
  part = λ e. absurd (apart e);
  few = λ e. absurd (apart e);
  columns = λ e. absurd (apart e);
}
  where
    apart : x.part ≡ Goals → ⊥
    apart e = let p : x.part ≡ Bounds = b in never (cc)

pub arranged_none : (T : List Column) (v : List ℤ) (x : Ranking) → Unranked x → Arranged T v x
arranged_none T v x u = arranged_bounds T v x u.part u.long

pub arranged_listed : (T : List Column) (v : List ℤ) (x : Ranking) → Arranged T v x → x.part ≡ Goals
    → (x.part ≡ part_of (columns_in (length v) T) v) × Gathered T v x
arranged_listed T v x a e = (
  e ∙ sym (a.part e),
  record {
    long = a.long;
    few = a.few e;
    columns = subst (λ (p : Part). Permuted (ranked_at p (columns_in (length v) T) v) (length v) (take x.len x.order)) (sym e) (a.columns e);
  },
)

module _
    {B : Basis} {T : List Column} {v : List ℤ} (r : Ready B v T) {x : Ranking} (q : RankedIn T v x) {i : ℕ} {o : Move}
    (e : next_step (columns_in B.columns T) (vectors B) v ≡ Some (step i o))
  where
    abbrev next : List ℤ
    next = moved (vectors B) o v

    long : length next ≡ length v
    long = moved_length (vectors B) o v

    pub arranged_next : Arranged T (moved (vectors B) o v) x
    arranged_next = record {
      long = q.long;
      part = λ g.
          ap (λ (n : ℕ). part_of (columns_in n T) next) (long ∙ r.values_long)
          ∙ goals_stay (columns_in B.columns T) (vectors B) v i o e (sym (ranked_part r q) ∙ g);
      few = λ g. omega (arith, q.few, long);
      columns = λ g.
          goals_permuted (length next) T v next (take x.len x.order)
          (q.columns ∙ ap₂ (λ (p : Part) (n : ℕ). ranking p (columns_in n T) v) g (sym long));
    }
