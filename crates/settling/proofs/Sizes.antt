-- How large distances and measures are.
--   abs_less            how large a difference is
--   between, inside_small   a value in bounds is no larger than they are; `inside_above` nor 0, where the lower bound is 1 or more
--   measure_room        the measure of a sized column has room
--   allowed_sized       a value that a move may leave in part p can be measured there; `sized_near` one that can be measured is near
--   fit_sized           a column that fits, with a value within the part's reach, is sized
-- Assumes nothing.
use mathlib.Core.Path.{◌≡◌, refl, sym, ◌∙◌, ap}
use mathlib.Core.Bool.{Bool, true, false, cond, true≢false, false≢true}
use Prim.Native.Nat.{ℕ, zero, suc, ◌+◌, ◌*◌, ◌<◌, ◌≤◌}
use native.Mathlib.Omega.{arith}
use borrow.Author.Tests.{ltb-false, lt-ltb, eqb-true}
use lib.IntN.{ℤ, pos, negsuc, neg_ℤ, nat_abs, ◌+ℤ◌, ◌-ℤ◌}
use lib.Signed.{lt_z, le_z}
use Rattle.whole.proofs.Integers.{rep, diff_rel}
use Rattle.whole.proofs.Signed.{abs_add, abs_neg}
use Rattle.problem.specs.Limits.{max_bound, max_goal}
use Rattle.settling.specs.declared.Cell.{Cell}
use Rattle.settling.specs.declared.Part.{Part}
use Rattle.settling.specs.declared.Part.TheVariants.{Bounds, Goals}
use Rattle.settling.specs.declared.Column.{Column}
use Rattle.settling.specs.Columns.{valued}
use Rattle.settling.specs.Measures.{fraction, below, distance, ratio, measure}
use Rattle.settling.specs.Steps.{is_allowed}
use Rattle.settling.specs.Ready.{FitColumn}
use Rattle.settling.specs.Sizes.{Crossable, FitCell, reach}

-- ---- distances
pub abs_less : (x y : ℤ) → nat_abs (x -ℤ y) ≤ nat_abs x + nat_abs y
abs_less x y = omega (arith, abs_add x (neg_ℤ y), abs_neg y)

distance_small : (c : Cell) → distance c ≤ nat_abs c.lower + nat_abs c.upper + nat_abs c.value
distance_small c = go c.lower c.upper c.value (lt_z c.value c.lower) (lt_z c.upper c.value)
  where
    go : (lo hi x : ℤ) (a b : Bool) → cond a (nat_abs (lo -ℤ x)) (cond b (nat_abs (x -ℤ hi)) 0) ≤ nat_abs lo + nat_abs hi + nat_abs x
    go lo hi x true b = omega (arith, abs_less lo x)
    go lo hi x false true = omega (arith, abs_less x hi)
    go lo hi x false false = omega arith

-- ---- values in bounds
pub between : (k : ℕ) (lo hi y : ℤ) → nat_abs lo ≤ k → nat_abs hi ≤ k → lt_z y lo ≡ false → lt_z hi y ≡ false → nat_abs y ≤ k
between k lo (pos h) (pos y) a b e f = omega (arith, ltb-false h y f)
between k lo (negsuc h) (pos y) a b e f = absurd (true≢false f)
between k (pos l) hi (negsuc y) a b e f = absurd (true≢false e)
between k (negsuc l) hi (negsuc y) a b e f = omega (arith, ltb-false l y e)

pub inside_small : (k : ℕ) (c : Cell) → nat_abs c.lower ≤ k → nat_abs c.upper ≤ k → distance c ≡ 0 → nat_abs c.value ≤ k
inside_small k c a b d = at c.lower c.upper c.value a b d
  where
    at : (lo hi y : ℤ) → nat_abs lo ≤ k → nat_abs hi ≤ k → cond (lt_z y lo) (nat_abs (lo -ℤ y)) (cond (lt_z hi y) (nat_abs (y -ℤ hi)) 0) ≡ 0
        → nat_abs y ≤ k
    at lo hi y a b d = go (lt_z y lo) (lt_z hi y) refl refl d
      where
        from_lower : lo +ℤ neg_ℤ (lo -ℤ y) ≡ y
        from_lower = rw (rep lo, rep y) (simp diff_rel (omega arith))

        from_upper : hi +ℤ (y -ℤ hi) ≡ y
        from_upper = rw (rep hi, rep y) (simp diff_rel (omega arith))

        go : (s t : Bool) → lt_z y lo ≡ s → lt_z hi y ≡ t → cond s (nat_abs (lo -ℤ y)) (cond t (nat_abs (y -ℤ hi)) 0) ≡ 0 → nat_abs y ≤ k
        go true t e f d = omega (arith, ap nat_abs from_lower, abs_add lo (neg_ℤ (lo -ℤ y)), abs_neg (lo -ℤ y))
        go false true e f d = omega (arith, ap nat_abs from_upper, abs_add hi (y -ℤ hi))
        go false false e f d = between k lo hi y a b e f

above_under : (lo hi y : ℤ) → le_z (pos 1) lo ≡ true → cond (lt_z y lo) (nat_abs (lo -ℤ y)) (cond (lt_z hi y) (nat_abs (y -ℤ hi)) 0) ≡ 0
    → 0 < nat_abs y
above_under lo hi (pos (suc k)) a d = omega arith
above_under lo hi (negsuc k) a d = omega arith
above_under (negsuc k) hi (pos zero) a d = absurd (false≢true a)
above_under (pos zero) hi (pos zero) a d = absurd (false≢true a)
above_under (pos (suc k)) hi (pos zero) a d =
    let e : lt_z (pos 0) (pos (suc k)) ≡ true = lt-ltb 0 (suc k) (omega arith) in
    absurd (omega (arith, sym (ap (λ (t : Bool). cond t (nat_abs (pos (suc k) -ℤ pos 0)) (cond (lt_z hi (pos 0)) (nat_abs (pos 0 -ℤ hi)) 0)) e) ∙ d))

pub inside_above : (c : Cell) → le_z (pos 1) c.lower ≡ true → distance c ≡ 0 → 0 < nat_abs c.value
inside_above c a d = above_under c.lower c.upper c.value a d

-- ---- measures
ratio_room : (low high v : ℕ) → low ≤ max_goal → high ≤ max_goal → v ≤ max_bound → Crossable (ratio low high v)
ratio_room low high v a b d = go (below (fraction (1000 * v) low) (fraction high (1000 * v)))
  where
    go : (t : Bool) → Crossable (cond t (fraction high (1000 * v)) (fraction (1000 * v) low))
    go true = record { top = omega arith; bottom = omega arith }
    go false = record { top = omega arith; bottom = omega arith }

pub measure_room : (p : Part) (c : Cell) → FitCell p c → Crossable (measure p c)
unfolding measure
measure_room Bounds c s = record { top = omega (arith, distance_small c, s.lower, s.upper, s.value); bottom = omega arith }
measure_room Goals c s = ratio_room (nat_abs c.low) (nat_abs c.high) (nat_abs c.value) s.low s.high s.value

pub allowed_sized : (p : Part) (c : Cell) → FitCell Bounds c → is_allowed p c ≡ true → FitCell p c
allowed_sized Bounds c s e = s
allowed_sized Goals c s e =
    record {
      lower = s.lower;
      upper = s.upper;
      low = s.low;
      high = s.high;
      value = inside_small max_bound c s.lower s.upper (eqb-true (distance c) 0 e);
    }

-- and any measured value is near
pub sized_near : (p : Part) (c : Cell) → FitCell p c → FitCell Bounds c
sized_near Bounds c s = s
sized_near Goals c s = record { lower = s.lower; upper = s.upper; low = s.low; high = s.high; value = omega (arith, s.value) }

pub fit_sized : (p : Part) (c : Column) (x : ℤ) → FitColumn c → nat_abs x ≤ reach p → FitCell p (valued c x)
fit_sized p c x f h = record { lower = f.lower; upper = f.upper; low = f.low; high = f.high; value = h }
