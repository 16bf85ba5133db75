-- Document 02, (xiii): a step lowers the measures of its part.
--   measures_determinate   the measures that a part compares are not 0/0; `measures_down` sorted, none stands before a larger one
--   taken_lower            a taken step lowers the measures that its part compares, sorted
--   next_lower             so does the next step, in the part that the values are in
-- Nothing is asked of the problem, the basis or the list: a ratio with a goal is never 0/0, whatever the value.
-- Assumes nothing.
use mathlib.Core.Path.{◌≡◌, refl, sym, ◌∙◌, ap, subst}
use mathlib.Core.Logic.{⊎_elim}
use mathlib.Core.Bool.{Bool, true, false, cond}
use mathlib.Core.List.{List, ◌∷◌}
use Prim.Native.Nat.{ℕ, zero, suc, ◌+◌, ◌*◌, ◌<◌, ◌≤◌}
use native.Mathlib.Omega.{arith}
use borrow.Author.Tests.{eqb-false, ltb-true, not-true}
use lib.IntN.{ℤ, nat_abs}
use Rattle.whole.specs.Lists.{entry}
use Rattle.whole.specs.Tests.{is_zero}
use Rattle.settling.specs.declared.Cell.{Cell}
use Rattle.settling.specs.declared.Measure.{Measure}
use Rattle.settling.specs.declared.Move.{Move}
use Rattle.settling.specs.declared.Part.{Part}
use Rattle.settling.specs.declared.Part.TheVariants.{Bounds, Goals}
use Rattle.std.specs.Prelude.{Some}
use Rattle.settling.specs.Steps.{step}
use Rattle.settling.specs.declared.Column.{Column}
use Rattle.settling.specs.Columns.{Columns, valued, cell}
use Rattle.settling.proofs.Fronts.{lt_or_ge}
use Rattle.settling.specs.Moves.{change, moved}
use Rattle.settling.specs.Measures.{fraction, below, ratio, measure}
use Rattle.settling.specs.Steps.{part_of, is_ranked, is_compared, measure_at, next_step}
use Rattle.settling.specs.Verdicts.{Improving}
use Rattle.settling.proofs.Orders.{Determinate, below_weak}
use Rattle.settling.specs.Rankings.{Each, Down}
use Rattle.settling.proofs.Stepping.{next_taken, taken_changes, taken_below, moved_still}
use Rattle.runs.specs.Sorted.{above, sorted}
use Rattle.runs.specs.Runs.{measures_from, measures, lower_than}
use Rattle.runs.proofs.Lowering.{sorted_down, Falls, none, stays, sinks, first, falls_lower}

-- ---- no measure is 0/0
-- the larger one is the second only where the high goal is not 0
ratio_determinate : (low high v : ℕ) → 0 < low → Determinate (ratio low high v)
ratio_determinate low high v a = go (below (fraction (1000 * v) low) (fraction high (1000 * v))) refl
  where
    some : (k n : ℕ) → n < k * low → 0 < k
    some zero n h = absurd (omega (arith, h))
    some (suc k) n h = omega arith

    go :
        (t : Bool) → below (fraction (1000 * v) low) (fraction high (1000 * v)) ≡ t
        → Determinate (cond t (fraction high (1000 * v)) (fraction (1000 * v) low))
    go true e = omega (arith, some high (1000 * v * (1000 * v)) (ltb-true (1000 * v * (1000 * v)) (high * low) e))
    go false e = omega arith

measure_determinate : (p : Part) (c : Cell) → is_compared p c ≡ true → Determinate (measure p c)
unfolding measure
measure_determinate Bounds c e = omega arith
measure_determinate Goals c e = ratio_determinate (nat_abs c.low) (nat_abs c.high) (nat_abs c.value) above
  where
    above : 0 < nat_abs c.low
    above = ⊎_elim (λ h. h) (λ h. absurd (eqb-false (nat_abs c.low) 0 (not-true _ e) (omega arith))) (lt_or_ge 0 (nat_abs c.low))

pub measures_determinate : (p : Part) (C : Columns) (v : List ℤ) (k j : ℕ) → Each Determinate (measures_from p C v k j)
unfolding measures_from
measures_determinate p C v zero j = tt
measures_determinate p C v (suc k) j = go (is_compared p (cell C v j)) refl (measures_determinate p C v k (suc j))
  where
    go : (t : Bool) → is_compared p (cell C v j) ≡ t → Each Determinate (measures_from p C v k (suc j))
        → Each Determinate (cond t (measure_at p C v j ∷ measures_from p C v k (suc j)) (measures_from p C v k (suc j)))
    go true e a = (measure_determinate p (cell C v j) e, a)
    go false e a = a

-- so they are sorted in earnest: none stands before a larger one
pub measures_down : (p : Part) (C : Columns) (v : List ℤ) → Down (above below) (sorted below (measures p C v))
measures_down p C v = sorted_down below_weak (measures p C v) (measures_determinate p C v C.count 0)

-- ---- a step that is taken
ranked_compared : (p : Part) (c : Cell) → is_ranked p c ≡ true → is_compared p c ≡ true
unfolding is_ranked
ranked_compared Bounds c e = refl
ranked_compared Goals c e = e

-- whether a column is compared does not hang on its value
compared_still : (p : Part) (c : Column) (x y : ℤ) → is_compared p (valued c x) ≡ is_compared p (valued c y)
compared_still Bounds c x y = refl
compared_still Goals c x y = refl

module _ (p : Part) (C : Columns) (N : List (List ℤ)) (v : List ℤ) (i : ℕ) (o : Move) (t : Improving p C N v i o) where
  abbrev old : Measure
  old = measure_at p C v i

  abbrev after : List ℤ
  after = moved N o v

  still : (j : ℕ) → is_compared p (cell C v j) ≡ is_compared p (cell C after j)
  still j = compared_still p (C.column j) (entry j v) (entry j after)

  compared : is_compared p (cell C v i) ≡ true
  compared = ranked_compared p (cell C v i) t.ranked

  -- one column more
  more : {b : Bool} (j : ℕ) (L K : List Measure) → j < C.count → Falls below old b L K
      → Falls below old b (cond (is_compared p (cell C v j)) (measure_at p C v j ∷ L) L)
      (cond (is_compared p (cell C after j)) (measure_at p C after j ∷ K) K)
  more {b} j L K l f =
      subst (λ (s : Bool). Falls below old b (cond (is_compared p (cell C v j)) (measure_at p C v j ∷ L) L) (cond s (measure_at p C after j ∷ K) K))
      (still j)
      (go (is_compared p (cell C v j)) (is_zero (change N o j)) refl refl)
    where
      same : is_zero (change N o j) ≡ true → measure_at p C v j ≡ measure_at p C after j
      same e = ap (λ (x : ℤ). measure p (valued (C.column j) x)) (sym (moved_still N o v j e))

      go : (s z : Bool) → is_compared p (cell C v j) ≡ s → is_zero (change N o j) ≡ z
          → Falls below old b (cond s (measure_at p C v j ∷ L) L) (cond s (measure_at p C after j ∷ K) K)
      go true true c e = stays _ _ (same e) f
      go true false c e = sinks _ _ (taken_below p C N v i o t j l (sym (still j) ∙ c) e) f
      go false z c e = f

  -- the column i
  itself : (L K : List Measure) → Falls below old false L K
      → Falls below old true (cond (is_compared p (cell C v i)) (old ∷ L) L) (cond (is_compared p (cell C after i)) (measure_at p C after i ∷ K) K)
  itself L K f =
      let e : is_compared p (cell C after i) ≡ true = sym (still i) ∙ compared in
      subst (λ (s : Bool). Falls below old true (cond s (old ∷ L) L) (cond (is_compared p (cell C after i)) (measure_at p C after i ∷ K) K))
      (sym compared)
      (subst (λ (s : Bool). Falls below old true (old ∷ L) (cond s (measure_at p C after i ∷ K) K)) (sym e)
      (first _ _ refl (taken_below p C N v i o t i t.inside e (not-true _ (taken_changes p C N v i o t))) f))

  others : (k j : ℕ) → j + k ≤ C.count → Falls below old false (measures_from p C v k j) (measures_from p C after k j)
  unfolding measures_from
  others zero j l = none
  others (suc k) j l = more j _ _ (omega arith) (others k (suc j) (omega arith))

  falling : (k j : ℕ) → j + k ≤ C.count → j ≤ i → i < j + k → Falls below old true (measures_from p C v k j) (measures_from p C after k j)
  unfolding measures_from
  falling zero j l a b = absurd (omega arith)
  falling (suc k) j l a b =
      ⊎_elim
      (λ m. more j _ _ (omega arith) (falling k (suc j) (omega arith) (omega arith) (omega arith)))
      (λ m.
      let e : i ≡ j = omega arith in
      subst (λ (c : ℕ). Falls below old true (measures_from p C v (suc k) c) (measures_from p C after (suc k) c)) e
      (itself _ _ (others k (suc i) (omega arith))))
      (lt_or_ge j i)

  pub taken_lower : lower_than (measures p C after) (measures p C v) ≡ true
  taken_lower =
      falls_lower below_weak old (measures p C v) (measures p C after) (measure_determinate p _ compared)
      (measures_determinate p C v C.count 0) (measures_determinate p C after C.count 0)
      (falling C.count 0 (omega arith) (omega arith) (omega (arith, t.inside)))

pub next_lower : (C : Columns) (N : List (List ℤ)) (v : List ℤ) (i : ℕ) (o : Move) → next_step C N v ≡ Some (step i o)
    → lower_than (measures (part_of C v) C (moved N o v)) (measures (part_of C v) C v) ≡ true
next_lower C N v i o e = taken_lower (part_of C v) C N v i o (next_taken C N v i o e)
