-- Laws of the loop that passes the columns of a table t₀ of n rows of w numbers, from the left.
--   Columns t₀ n w t count k c   what the columns left make of the present table t, with k rows done, is what all columns make of t₀, and their
--                        rounds and those counted are all rounds
--   columns_start        it holds at first
--   next_picked          a choice in the next column
--   next_skipped         a column with no choice is passed over
--   next_over, next_few, next_passed   a column with a choice: where it leaves a number beyond ±M, and where it does not
--   columns_done, rows_done   past the last column t is the form, and so it is past the last row
-- Assumes nothing.
use mathlib.Core.Path.{◌≡◌, refl, sym, ◌∙◌, ap, ap₂}
use mathlib.Core.Bool.{false, true}
use mathlib.Core.List.{List}
use Prim.Native.Nat.{ℕ, zero, suc, ◌+◌, ◌-◌, ◌*◌, ◌<◌, ◌≤◌}
use native.Mathlib.Omega.{arith}
use lib.IntN.{ℤ}
use lib.ListN.{length, drop}
use Rattle.lattice.specs.Rows.{flat, chop}
use Rattle.tableau.specs.Elimination.{Run, none, at, choose, pass_columns, eliminate}
use Rattle.tableau.specs.Tails.{Picked}
use Rattle.tableau.specs.ColumnPass.{Standing, above_of, below_of, passed_of, passed_rounds, rejoined}
use Rattle.tableau.specs.RoundCount.{rounds_from, rounds}
use Rattle.tableau.specs.Within.{Within}
use Rattle.tableau.proofs.Passing.{columns_over, columns_on, columns_skip, tail_of, passed_above, passed_below, passed_on}
use Rattle.tableau.proofs.Passing.{skipped_on, starts, starts_all, picked_of, ends_columns, ends_rows}
use Rattle.tableau.proofs.Counting.{rounds_on, rounds_skip, rounds_past, rounds_done, rounds_all, passed_few}

pub record Columns (t₀ : List ℤ) (n w : ℕ) (t : List ℤ) (count k c : ℕ) : Type 0 where
  pub same : length t ≡ length t₀
  pub stands : Standing n w c k t
  pub rest : pass_columns (w - c) c (above_of w k t) (below_of n w k t) ≡ eliminate w (chop n w t₀)
  pub sum : count + rounds_from (w - c) c (above_of w k t) (below_of n w k t) ≡ rounds w (chop n w t₀)
  pub few : count ≤ 31 * c

pub columns_start : (t₀ : List ℤ) (n w : ℕ) → length t₀ ≡ n * w → Within t₀ → Columns t₀ n w t₀ 0 0 0
columns_start t₀ n w l s = record {
  same = refl;
  stands = starts l s;
  rest = starts_all n w t₀;
  sum = omega (arith, rounds_all n w t₀);
  few = omega arith;
}

-- there is no choice where no row is left
some_left : {j p : ℕ} (c m w : ℕ) (t : List ℤ) → at j p ≡ choose c (chop m w t) → 0 < m
unfolding choose
some_left c zero w t e = let z : ◌≡◌ {A = ℕ} 0 1 = cc in absurd (omega arith)
some_left c (suc m) w t e = omega arith

module _ {t₀ t : List ℤ} {n w count k c : ℕ} (v : Columns t₀ n w t count k c) (h : c < w) where
  -- one column less is left
  less : w - (c + 1) ≡ w - c - 1
  less = omega arith

  pub next_skipped : choose c (below_of n w k t) ≡ none → Columns t₀ n w t count k (c + 1)
  next_skipped e = record {
    same = v.same;
    stands = skipped_on v.stands e;
    rest = rw less (sym (columns_skip (w - c) c (above_of w k t) (below_of n w k t) (omega arith) e) ∙ v.rest);
    sum = rw less (omega (arith, rounds_skip (w - c) c (above_of w k t) (below_of n w k t) (omega arith) e, v.sum));
    few = omega (arith, v.few);
  }

  pub next_picked : {j p : ℕ} → at j p ≡ choose c (below_of n w k t) → Picked (n - k) w c (drop (k * w) t) j
  next_picked e = picked_of (tail_of v.stands h) (some_left c (n - k) w (drop (k * w) t) e) (sym e)

  pub next_over : (passed_of n w c k t).over ≡ true → (eliminate w (chop n w t₀)).over ≡ true
  next_over e = ap (λ (x : Run). x.over) (sym v.rest) ∙ columns_over (w - c) c (above_of w k t) (below_of n w k t) (omega arith) e

  pub next_few : passed_rounds n w c k t ≤ 31
  next_few = passed_few v.stands h

  pub next_passed : {j : ℕ} {u : List ℤ} → Picked (n - k) w c (drop (k * w) t) j → (passed_of n w c k t).over ≡ false
      → u ≡ flat (rejoined (passed_of n w c k t)).table → length u ≡ length t
      → Columns t₀ n w u (count + passed_rounds n w c k t) (k + 1) (c + 1)
  next_passed {j} {u} g o s l =
      let A = passed_above v.stands h g o s l in
      let B = passed_below v.stands h g o s l in
      record {
        same = l ∙ v.same;
        stands = passed_on v.stands h g o s l;
        rest =
            rw less
            (ap₂ (pass_columns (w - c - 1) (c + 1)) A B
            ∙ sym (columns_on (w - c) c (above_of w k t) (below_of n w k t) (omega arith) o)
            ∙ v.rest);
        sum =
            rw less
            (omega (
              arith,
              ap₂ (rounds_from (w - c - 1) (c + 1)) A B,
              rounds_on (w - c) c (above_of w k t) (below_of n w k t) (omega arith),
              v.sum,
            ));
        few = omega (arith, v.few, next_few);
      }

pub columns_done : {t₀ t : List ℤ} {n w count k c : ℕ} → Columns t₀ n w t count k c → w ≤ c
    → ((eliminate w (chop n w t₀)).over ≡ false) × (t ≡ flat (eliminate w (chop n w t₀)).table) × (count ≡ rounds w (chop n w t₀))
columns_done {t₀} {t} {n} {w} {count} {k} {c} v h =
    let z : w - c ≡ 0 = omega arith in
    let o = ends_columns (w - c) v.stands v.rest z in
    (o.0, o.1, omega (arith, v.sum, rounds_past (w - c) c (above_of w k t) (below_of n w k t) z))

pub rows_done : {t₀ t : List ℤ} {n w count k c : ℕ} → Columns t₀ n w t count k c → k ≡ n
    → ((eliminate w (chop n w t₀)).over ≡ false) × (t ≡ flat (eliminate w (chop n w t₀)).table) × (count ≡ rounds w (chop n w t₀))
rows_done {t₀} {t} {n} {w} {count} {k} {c} v e =
    let o = ends_rows (w - c) v.stands v.rest e in
    (o.0, o.1, omega (arith, v.sum, rounds_done (w - c) c w (above_of w k t) t e))
