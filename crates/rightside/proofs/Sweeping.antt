-- Laws of taking rows from a list, one after the other.
--   over_left, kept_left   what taking rows leaves, with a number beyond ±M and without
--   Sweeps          the loop: the rows that are still ahead are to be taken from v
--   next, next-..   the row that comes next, its lead, and that it is a pivot there
--   sweep_starts, -on, -stops, -ends   at first, after a row, at a number beyond ±M, past the last row
--   sweep_within    a whole sweep keeps numbers within ±M where it marks none beyond
-- Assumes nothing.
use mathlib.Core.Path.{◌≡◌, refl, sym, ◌∙◌, ap, subst}
use mathlib.Core.Bool.{Bool, true, false, ◌||◌}
use mathlib.Core.List.{List, [], ◌∷◌}
use Prim.Native.Nat.{ℕ, zero, suc, ◌+◌, ◌-◌, ◌<◌}
use native.Mathlib.Omega.{arith}
use lib.IntN.{ℤ, pos, negsuc}
use lib.ListN.{length, drop}
use Rattle.whole.specs.Lists.{entry, zeros}
use Rattle.whole.specs.Tests.{Positive}
use Rattle.whole.proofs.Integers.{positive_nonzero}
use Rattle.lattice.specs.Rows.{ZeroTo, lead, chop}
use Rattle.lattice.specs.Span.{All}
use Rattle.lattice.proofs.RowsAhead.{row, rows, apart, row_wide}
use Rattle.tableau.specs.Elimination.{Left, kept, reduced}
use Rattle.tableau.specs.RightSide.{further, sweep}
use Rattle.tableau.specs.Within.{Within}
use Rattle.whole.proofs.Tests.{neither}
use Rattle.tableau.proofs.Within.{within_take, within_drop}
use Rattle.std.specs.Prelude.{Result, Ok}
use Rattle.tableau.specs.declared.Beyond.{Beyond}
use Rattle.tableau.specs.RowSteps.{unless, Pivot, Leads, left_after}
use Rattle.tableau.proofs.Walking.{reduced_step}
use Rattle.rightside.specs.Sweeps.{Sweepable}
use Rattle.rightside.proofs.Staircase.{Walks, starts, goes_on}

-- ---- a row
lead_front : (r : List ℤ) → ZeroTo (lead r) r
unfolding lead
lead_front [] = tt
lead_front (pos zero ∷ r) = (refl, lead_front r)
lead_front (pos (suc n) ∷ r) = tt
lead_front (negsuc n ∷ r) = tt

lead_inside : (r : List ℤ) → Leads r → lead r < length r
unfolding lead
lead_inside [] h = absurd (positive_nonzero h refl)
lead_inside (pos zero ∷ r) h = omega (arith, lead_inside r h)
lead_inside (pos (suc n) ∷ r) h = omega arith
lead_inside (negsuc n ∷ r) h = omega arith

-- ---- what is left, by the mark
pub over_left : (x : Left) (v : List ℤ) → x.over ≡ true → left_after x v ≡ zeros (length v)
over_left x v e = rw e refl

pub kept_left : (x : Left) (v : List ℤ) → x.over ≡ false → left_after x v ≡ x.row
kept_left x v e = rw e refl

-- ---- the loop
pub record Sweeps (w k : ℕ) (t v₀ v : List ℤ) (at left c : ℕ) : Type 0 where
  pub walk : Walks w t at left c
  pub wide : length v ≡ w
  pub small : Within v
  pub leads : All Leads (chop left w (drop at t))
  pub rest : sweep (chop left w (drop at t)) v ≡ sweep (chop k w t) v₀

pub sweep_starts : (k : ℕ) (t v : List ℤ) → Sweepable (length v) k t → Within v → Sweeps (length v) k t v v 0 k 0
sweep_starts k t v a h = record { walk = starts (length v) k t a.long a.rises; wide = refl; small = h; leads = a.leads; rest = refl }

module _ {w k : ℕ} {t v₀ v : List ℤ} {at left c : ℕ} (h : Sweeps w k t v₀ v at left c) (some : 0 < left) where
  abbrev pub next : List ℤ
  next = row h.walk.room some

  both_lead : All Leads (next ∷ rows h.walk.room some)
  both_lead = subst (All Leads) (apart h.walk.room some) h.leads

  pub next_inside : lead next < w
  next_inside = omega (arith, row_wide h.walk.room some, lead_inside next both_lead.0)

  pub next_pivot : {l : ℕ} → l ≡ lead next → Within t → Pivot (length v) l next
  next_pivot e s = record {
    wide = row_wide h.walk.room some ∙ sym h.wide;
    small = within_take w (drop at t) (within_drop at t s);
    front = subst (λ (i : ℕ). ZeroTo i next) (sym e) (lead_front next);
    lead = subst (λ (i : ℕ). Positive (entry i next)) (sym e) both_lead.0;
  }

  one : sweep (chop k w t) v₀ ≡ further (reduced (lead next) next v).over (sweep (rows h.walk.room some) (reduced (lead next) next v).row)
  unfolding sweep
  one = sym h.rest ∙ ap (λ (T : List (List ℤ)). sweep T v) (apart h.walk.room some)

  pub sweep_stops : {l : ℕ} → l ≡ lead next → (reduced l next v).over ≡ true → (sweep (chop k w t) v₀).over ≡ true
  sweep_stops d o =
      ap (λ (x : Left). x.over) one
      ∙ ap (λ (b : Bool). b || (sweep (rows h.walk.room some) (reduced (lead next) next v).row).over)
      (ap (λ (i : ℕ). (reduced i next v).over) (sym d) ∙ o)

  pub sweep_on : {l : ℕ} {u : List ℤ} → l ≡ lead next → (reduced l next v).over ≡ false → u ≡ left_after (reduced l next v) v
      → Sweeps w k t v₀ u (at + w) (left - 1) (l + 1)
  sweep_on {l} {u} d m f =
      let o : (reduced (lead next) next v).over ≡ false = ap (λ (i : ℕ). (reduced i next v).over) (sym d) ∙ m in
      let e : u ≡ (reduced (lead next) next v).row = f ∙ kept_left (reduced l next v) v m ∙ ap (λ (i : ℕ). (reduced i next v).row) d in
      record {
        walk = goes_on h.walk some d;
        wide = ap length e ∙ (reduced_step (lead next) next).wide v ∙ h.wide;
        small = subst Within (sym e) ((reduced_step (lead next) next).holds v h.small o);
        leads = both_lead.1;
        rest =
            ap (sweep (rows h.walk.room some)) e
            ∙ ap (λ (b : Bool). further b (sweep (rows h.walk.room some) (reduced (lead next) next v).row)) (sym o)
            ∙ sym one;
      }

pub sweep_ends : {w k : ℕ} {t v₀ v : List ℤ} {at left c : ℕ} → Sweeps w k t v₀ v at left c → left ≡ 0
    → (◌≡◌ {A = Result (Unit {0}) Beyond} (Ok tt) (unless (sweep (chop k w t) v₀).over tt)) × (v ≡ left_after (sweep (chop k w t) v₀) v₀)
unfolding sweep
sweep_ends {w} {k} {t} {v₀} {v} {at} {left} h e =
    let all : sweep (chop k w t) v₀ ≡ kept v = sym h.rest ∙ ap (λ (n : ℕ). sweep (chop n w (drop at t)) v) e in
    rw all (refl, refl)

-- ---- a whole sweep
pub sweep_within : (T : List (List ℤ)) (v : List ℤ) → Within v → (sweep T v).over ≡ false → Within (sweep T v).row
unfolding sweep
sweep_within [] v h e = h
sweep_within (r ∷ T) v h e =
    let x : Left = reduced (lead r) r v in
    let d : (x.over ≡ false) × ((sweep T x.row).over ≡ false) = neither x.over (sweep T x.row).over e in
    sweep_within T x.row ((reduced_step (lead r) r).holds v h d.0) d.1
