-- Laws of a form that is parted behind its h leading rows.
--   few_leading, few   there are no more leading rows than rows
--   inside          they lie in the list
--   first, second   the rows in front are the leading ones, and those behind are the remaining ones
--   first-.., second_sweepable   each part may be swept
-- Assumes nothing.
use mathlib.Core.Path.{◌≡◌, sym, ◌∙◌, ap, subst}
use mathlib.Core.Bool.{Bool, true, false, cond}
use mathlib.Core.List.{List, [], ◌∷◌, ◌++◌}
use Prim.Native.Nat.{ℕ, suc, ◌+◌, ◌*◌, ◌-◌, ◌≤◌}
use native.Mathlib.Nat.{mul-le-mul_right}
use native.Mathlib.Omega.{arith}
use lib.Dec.{ltb}
use lib.IntN.{ℤ}
use lib.ListN.{length, take, drop, length-drop}
use lib.Seq.{length-take-le, take_at, drop_at}
use Rattle.lattice.specs.Rows.{lead, chop}
use Rattle.lattice.specs.Span.{All}
use Rattle.lattice.proofs.Span.{all_append}
use Rattle.lattice.specs.Hermite.{Rising}
use Rattle.lattice.proofs.Hermite.{rising_parts}
use Rattle.lattice.proofs.FlatLaws.{chop_split, chop_take, length_chop}
use Rattle.tableau.specs.RightSide.{leading, remaining}
use Rattle.tableau.proofs.RightLaws.{rising_split}
use Rattle.tableau.specs.RowSteps.{Leads}
use Rattle.tableau.proofs.Within.{within_take, within_drop}
use Rattle.rightside.specs.Sweeps.{Sweepable}

leading_few : (m : ℕ) (T : List (List ℤ)) → length (leading m T) ≤ length T
unfolding leading
leading_few m [] = omega arith
leading_few m (r ∷ T) = go (ltb (lead r) m) (leading_few m T)
  where
    go : (b : Bool) → length (leading m T) ≤ length T → length (cond b (r ∷ leading m T) (leading m T)) ≤ suc (length T)
    go true h = omega arith
    go false h = omega arith

pub few_leading : (m w k : ℕ) (t : List ℤ) → length (leading m (chop k w t)) ≤ k
few_leading m w k t = omega (arith, leading_few m (chop k w t), length_chop k w t)

module _ (m : ℕ) {w k h : ℕ} {t : List ℤ} (a : Sweepable w k t) (e : h ≡ length (leading m (chop k w t))) where
  abbrev L : List (List ℤ)
  L = leading m (chop k w t)

  abbrev R : List (List ℤ)
  R = remaining m (chop k w t)

  split : L ++ R ≡ chop k w t
  split = rising_split m 0 (chop k w t) a.rises

  pub few : h ≤ k
  few = omega (arith, few_leading m w k t)

  pub inside : h * w ≤ length t
  inside = omega (arith, a.long, mul-le-mul_right w few)

  behind : k * w ≡ h * w + (k - h) * w
  behind = let n : k ≡ h + (k - h) = omega (arith, few) in ap (λ (i : ℕ). i * w) n ∙ omega arith

  whole : chop h w t ++ chop (k - h) w (drop (h * w) t) ≡ L ++ R
  whole =
      let n : h + (k - h) ≡ k = omega (arith, few) in
      sym (chop_split h (k - h) w t) ∙ ap (λ (i : ℕ). chop i w t) n ∙ sym split

  pub first : chop h w (take (h * w) t) ≡ L
  first =
      chop_take h w (h * w) t (omega arith)
      ∙ sym (take_at (chop h w t) (chop (k - h) w (drop (h * w) t)) h (length_chop h w t))
      ∙ ap (take h) whole
      ∙ take_at L R h (sym e)

  pub second : chop (k - h) w (drop (h * w) t) ≡ R
  second =
      sym (drop_at (chop h w t) (chop (k - h) w (drop (h * w) t)) h (length_chop h w t))
      ∙ ap (drop h) whole
      ∙ drop_at L R h (sym e)

  leads : All Leads L × All Leads R
  leads = (all_append Leads L R).0 (subst (All Leads) (sym split) a.leads)

  rises : Rising 0 L × Rising 0 R
  rises = rising_parts 0 L R (subst (Rising 0) (sym split) a.rises)

  pub first_sweepable : Sweepable w h (take (h * w) t)
  first_sweepable = record {
    long = length-take-le (h * w) t inside;
    leads = subst (All Leads) (sym first) leads.0;
    rises = subst (Rising 0) (sym first) rises.0;
    small = within_take (h * w) t a.small;
  }

  pub second_sweepable : Sweepable w (k - h) (drop (h * w) t)
  second_sweepable = record {
    long = length-drop (h * w) t ∙ omega (arith, a.long, behind);
    leads = subst (All Leads) (sym second) leads.1;
    rises = subst (Rising 0) (sym second) rises.1;
    small = within_drop (h * w) t a.small;
  }
