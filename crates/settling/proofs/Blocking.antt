-- What the search may skip. Along the ranking the measure to come below only falls: a move that improves a column also improves each higher
-- column that it changes, so that it has to be tried only at the highest column that it changes.
--   fit_proper         a column has a proper measure, where it fits, is ranked and has a value that a move may leave
--   weak               proper columns are ordered by their measures
--   passes_up          a column that passes for a measure passes for one that is not below it
--   unchanged          a move improves no column that it leaves as it is
--   blocked            one that does not improve a column that it changes improves none that is not larger
-- Assumes nothing.
use mathlib.Core.Path.{◌≡◌, refl, sym, ◌∙◌, ap, ap₂}
use mathlib.Core.Bool.{Bool, true, false, not, cond, ◌&&◌, ◌||◌, false≢true, true≢false}
use mathlib.Core.List.{List}
use Prim.Native.Nat.{ℕ, zero, suc, ◌*◌, ◌<◌}
use native.Mathlib.Omega.{arith}
use borrow.Author.Tests.{eqb-true, eqb-false, not-true}
use lib.IntN.{ℤ, pos, nat_abs}
use lib.Signed.{le_z}
use Rattle.whole.proofs.Counted.{every_at, every_all}
use Rattle.whole.specs.Tests.{is_zero, every}
use Rattle.whole.proofs.Tests.{both_true}
use Rattle.settling.specs.declared.Cell.{Cell}
use Rattle.settling.specs.declared.Move.{Move}
use Rattle.settling.specs.declared.Measure.{Measure}
use Rattle.settling.specs.declared.Part.{Part}
use Rattle.settling.specs.declared.Part.TheVariants.{Bounds, Goals}
use Rattle.settling.specs.declared.Column.{Column}
use Rattle.settling.specs.Columns.{Columns, valued}
use Rattle.settling.specs.Moves.{changes}
use Rattle.settling.specs.Measures.{fraction, below, distance, ratio, measure}
use Rattle.settling.specs.Steps.{is_ranked, is_compared, is_allowed, passes, measure_at, larger_at, passes_at, improves}
use Rattle.settling.specs.Rankings.{Proper}
use Rattle.settling.specs.Ready.{FitColumn}
use Rattle.settling.proofs.Sizes.{inside_above}
use Rattle.settling.proofs.Orders.{Weak, under_past, below_weak, weak_by}

-- ---- measures with a bottom above 0 are ordered as fractions
pub weak : (p : Part) (C : Columns) (v : List ℤ) → Weak (Proper p C v) (larger_at p C v)
weak p C v = weak_by (measure_at p C v) (λ i h. h)

-- ---- what makes a measure a fraction
ratio_proper : (low high w : ℕ) → 0 < low → 0 < w → 0 < (ratio low high w).bottom
ratio_proper low high w a b = go (below (fraction (1000 * w) low) (fraction high (1000 * w)))
  where
    go : (t : Bool) → 0 < (cond {A = Measure} t (fraction high (1000 * w)) (fraction (1000 * w) low)).bottom
    go true = omega arith
    go false = a

above_none : (z : ℤ) → is_zero z ≡ false → 0 < nat_abs z
above_none z e = go (nat_abs z) (eqb-false (nat_abs z) 0 e)
  where
    go : (k : ℕ) → (k ≡ 0 → ⊥) → 0 < k
    go zero f = absurd (f refl)
    go (suc k) f = omega arith

pub fit_proper :
    (p : Part) (c : Column) (x : ℤ) → FitColumn c → is_allowed p (valued c x) ≡ true → is_ranked p (valued c x) ≡ true
    → 0 < (measure p (valued c x)).bottom
unfolding is_ranked measure
fit_proper Bounds c x f a r = omega arith
fit_proper Goals c x f a r =
    let g : is_zero c.low ≡ false = not-true _ r in
    let l : le_z (pos 1) c.lower ≡ true = sym (ap (λ (t : Bool). t || le_z (pos 1) c.lower) g) ∙ f.above in
    ratio_proper (nat_abs c.low) (nat_abs c.high) (nat_abs x) (above_none c.low g)
    (inside_above (valued c x) l (eqb-true (distance (valued c x)) 0 a))

-- ---- a move that improves i improves each higher column that it changes
pub passes_up : (p : Part) (c : Cell) (e : ℤ) (q r : Measure) → 0 < r.bottom → below r q ≡ false → passes p c e q ≡ true → passes p c e r ≡ true
unfolding passes
passes_up p c e q r k b f = go (is_allowed p c) (not (not (is_zero e) && is_compared p c)) (below (measure p c) q) refl f
  where
    go : (a n d : Bool) → below (measure p c) q ≡ d → a && (n || d) ≡ true → a && (n || below (measure p c) r) ≡ true
    go true true d x f = refl
    go true false true x f = under_past below_weak (measure p c) q r (omega (arith, k)) x b
    go true false false x f = absurd (false≢true f)
    go false n d x f = absurd (false≢true f)

module _ (p : Part) (C : Columns) (N : List (List ℤ)) (v : List ℤ) where
  improves_up : (o : Move) (i j : ℕ) → Proper p C v j → larger_at p C v i j ≡ false → changes N o j ≡ true
      → improves p C N v o i ≡ true → improves p C N v o j ≡ true
  unfolding improves
  improves_up o i j b l c e =
      let x = both_true (changes N o i) (every C.count (passes_at p C N v o (measure_at p C v i))) e in
      ap₂ ◌&&◌ c
      (every_all C.count (passes_at p C N v o (measure_at p C v j))
      (λ k h. passes_up p _ _ (measure_at p C v i) (measure_at p C v j) b l
      (every_at C.count (passes_at p C N v o (measure_at p C v i)) k x.1 h)))

  pub unchanged : (o : Move) (i : ℕ) → changes N o i ≡ false → improves p C N v o i ≡ false
  unfolding improves
  unchanged o i e = ap (λ (t : Bool). t && every C.count (passes_at p C N v o (measure_at p C v i))) e

  pub blocked : (o : Move) (i j : ℕ) → Proper p C v j → larger_at p C v i j ≡ false → changes N o j ≡ true
      → improves p C N v o j ≡ false → improves p C N v o i ≡ false
  blocked o i j b l c e = go (improves p C N v o i) refl
    where
      go : (t : Bool) → improves p C N v o i ≡ t → improves p C N v o i ≡ false
      go true g = absurd (true≢false (sym (improves_up o i j b l c g) ∙ e))
      go false g = g
