-- Laws of a round of gathering on a tail.
--   swapped       the chosen row and the others, once they have changed places
--   chosen_low, ends_inside   the chosen row is one of the tail, and lies in the list
--   below_wide    the rows below it
--   lift_asks     what bringing it there asks for
--   round_is      a round: this pivot, and the lower rows by it
--   pivot_is, below_is_wide, -small   the same of what the code has then
--   round_stops   and what it answers and leaves once it has taken the pivot from the lower rows
-- Assumes nothing.
use mathlib.Core.Path.{◌≡◌, refl, sym, ◌∙◌, ap, ap₂, subst}
use Rattle.std.specs.Prelude.{Result, Ok, Err}
use mathlib.Core.List.{List, [], ◌∷◌, ◌++◌}
use Prim.Native.Nat.{ℕ, zero, suc, ◌+◌, ◌*◌, ◌-◌, ◌<◌, ◌≤◌}
use native.Mathlib.Nat.{zero-mul, suc-mul}
use native.Mathlib.Omega.{arith}
use lib.IntN.{ℤ, pos, negsuc}
use lib.ListN.{length, take, drop, length-append, length-drop}
use lib.Seq.{length-take-le, take_at, drop_at, drop-drop}
use Rattle.whole.specs.Lists.{entry}
use Rattle.whole.specs.Tests.{Positive}
use Rattle.whole.specs.Quotient.{nearest_quotient}
use Rattle.whole.proofs.Integers.{positive_of}
use Rattle.lattice.specs.Rows.{ZeroTo, flat, chop}
use Rattle.lattice.proofs.RowLaws.{length_neg, ZeroTo_neg}
use Rattle.lattice.specs.Span.{All}
use Rattle.lattice.proofs.Span.{all_at}
use Rattle.lattice.proofs.FlatLaws.{one_less, chop_next, chop_row, chop_set, length_chop, row_in_table, first_wide}
use Rattle.tableau.specs.Elimination.{clear_by, round_by}
use Rattle.tableau.specs.Elimination.{Gathered, Choice, at, exchange, signed, clear}
use Rattle.tableau.proofs.GatherLaws.{chosen_stands, round_lead}
use Rattle.tableau.specs.Within.{Within}
use Rattle.tableau.proofs.Within.{within_take, within_drop, within_append}
use Rattle.tableau.specs.RowSteps.{StopsRun, each_of, Pivot}
use Rattle.tableau.specs.Tails.{Tail, Picked, lower_first, lifted_row, Lifted, Gathers, round_of}
use Rattle.tableau.specs.declared.Beyond.{Beyond}
use Rattle.tableau.specs.declared.rows.Way.TheVariants.{Below}
use Rattle.tableau.proofs.Lifting.{lowered_first, lowered_next}
use Rattle.tableau.proofs.Staying.{signed_all}

-- ---- the exchange
exchanged : (k w j p : ℕ) (t : List ℤ) → length t ≡ suc k * w → j < suc k
    → exchange (at j p) (take w t) (chop k w (drop w t)) ≡ (take w (drop (j * w) t), chop k w (drop w (lower_first w j t)))
unfolding exchange
exchanged k w zero p t l h =
    ap₂ (λ (a : List ℤ) (b : List (List ℤ)). (a, b)) (ap (λ (n : ℕ). take w (drop n t)) (sym (zero-mul w)))
    (ap (chop k w) (sym (lowered_first w t (omega (arith, suc-mul k w)))))
exchanged k w (suc j) p t l h =
    let r : length (drop w t) ≡ k * w = omega (arith, length-drop w t, suc-mul k w) in
    let m : suc j * w ≡ w + j * w = omega (arith, suc-mul j w) in
    let e : suc j - 1 ≡ j = omega arith in
    ap₂ (λ (a : List ℤ) (b : List (List ℤ)). (a, b))
    (chop_row k w j (drop w t) (take w t) (omega arith)
    ∙ ap (take w) (drop-drop (j * w) w t ∙ ap (λ (n : ℕ). drop n t) (sym m)))
    (sym (chop_set k w j (drop w t) (take w t) r (omega arith) (first_wide k w t l))
    ∙ ap (chop k w)
    (sym
    (lowered_next w (suc j) t (omega (arith, suc-mul k w)) (omega arith)
    ∙ ap (λ (n : ℕ). take (n * w) (drop w t) ++ (take w t ++ drop (n * w + w) (drop w t))) e)))

pub swapped : (k w j p : ℕ) (t : List ℤ) → length t ≡ k * w → j < k
    → exchange (at j p) (take w t) (chop (k - 1) w (drop w t)) ≡ (take w (drop (j * w) t), chop (k - 1) w (drop w (lower_first w j t)))
swapped zero w j p t l h = absurd (omega arith)
swapped (suc k) w j p t l h = let e : suc k - 1 ≡ k = omega arith in rw e (exchanged k w j p t l h)

-- ---- a row of the right sign
signed_wide : (z : ℤ) (r : List ℤ) → length (signed z r) ≡ length r
signed_wide (pos n) r = refl
signed_wide (negsuc n) r = length_neg r

signed_front : (c : ℕ) (z : ℤ) (r : List ℤ) → ZeroTo c r → ZeroTo c (signed z r)
signed_front c (pos n) r h = h
signed_front c (negsuc n) r h = ZeroTo_neg c r h

-- ---- the round
module _ {k w c j : ℕ} {t : List ℤ} (h : Tail k w c t) (g : Picked k w c t j) where
  pub chosen_low : j < k
  chosen_low = omega (arith, (chosen_stands g.is).1, length_chop (k - 1) w (drop w t), g.some)

  pub ends_inside : j * w + w ≤ length t
  ends_inside = omega (arith, row_in_table k w j chosen_low, h.wide)

  abbrev row : List ℤ
  row = take w (drop (j * w) t)

  row_wide : length row ≡ w
  row_wide = length-take-le w (drop (j * w) t) (omega (arith, length-drop (j * w) t, ends_inside))

  row_front : ZeroTo c row
  row_front =
      subst (ZeroTo c) (chop_row k w j t [] chosen_low)
      (all_at (ZeroTo c) (chop k w t) j [] (omega (arith, chosen_low, length_chop k w t)) h.front)

  -- what bringing row j to the top asks for
  pub lift_asks : ((c < w) × (j * w + w ≤ length t)) × ((ZeroTo c (take w t) × ZeroTo c row) × Within t)
  lift_asks = ((h.column, ends_inside), (((subst (All (ZeroTo c)) (chop_next k w t g.some) h.front).0, row_front), h.small))

  pub round_is : round_of k w c t ≡ clear c (lifted_row w c j t) (chop (k - 1) w (drop w (lower_first w j t)))
  unfolding round_by
  round_is =
      ap (λ (x : List ℤ × List (List ℤ)). clear c (signed (entry c x.0) x.0) x.1)
      (ap (λ (z : Choice). exchange z (take w t) (chop (k - 1) w (drop w t))) g.is.choice
      ∙ swapped k w j g.size t h.wide chosen_low)

  lifted_lead : Positive (entry c (lifted_row w c j t))
  unfolding clear_by
  lifted_lead =
      subst (λ (x : ℤ). Positive x)
      (sym (ap (λ (x : Gathered). entry c x.pivot) (sym round_is) ∙ round_lead g.is nearest_quotient))
      (positive_of g.size (chosen_stands g.is).0)

  lifted_pivot : Pivot w c (lifted_row w c j t)
  lifted_pivot = record {
    wide = signed_wide (entry c row) row ∙ row_wide;
    small = signed_all (entry c row) row (within_take w (drop (j * w) t) (within_drop (j * w) t h.small));
    front = signed_front c (entry c row) row row_front;
    lead = lifted_lead;
  }

  first_width : length (take w t) ≡ w
  first_width = length-take-le w t (omega (arith, ends_inside))

  all_wide : length (lower_first w j t) ≡ length t
  all_wide =
      length-append (take (j * w) t) (take w t ++ drop (j * w + w) t)
      ∙ ap₂ ◌+◌ (length-take-le (j * w) t (omega (arith, ends_inside)))
      (length-append (take w t) (drop (j * w + w) t) ∙ ap₂ ◌+◌ first_width (length-drop (j * w + w) t))
      ∙ omega (arith, ends_inside)

  pub below_wide : length (drop w (lower_first w j t)) ≡ (k - 1) * w
  below_wide = omega (arith, length-drop w (lower_first w j t), all_wide, h.wide, one_less k w g.some)

  below_small : Within (drop w (lower_first w j t))
  below_small =
      within_drop w (lower_first w j t)
      (within_append (take (j * w) t) (take w t ++ drop (j * w + w) t) (within_take (j * w) t h.small)
      (within_append (take w t) (drop (j * w + w) t) (within_take w t h.small) (within_drop (j * w + w) t h.small)))

-- ---- what the code has once the chosen row is at the top: the pivot p and the tail u
own : {w c : ℕ} {r : List ℤ} → Pivot w c r → Pivot (length r) c r
own h = record { wide = refl; small = h.small; front = h.front; lead = h.lead }

module _ {k w c j : ℕ} {t p u : List ℤ} (h : Tail k w c t) (g : Picked k w c t j) (l : Lifted c j w t p u) where
  pub pivot_is : Pivot (length p) c p
  pivot_is = subst (λ (r : List ℤ). Pivot (length r) c r) (sym l.pivot) (own (lifted_pivot h g))

  pivot_wide : length p ≡ w
  pivot_wide = ap length l.pivot ∙ (lifted_pivot h g).wide

  top_is : take w u ≡ p
  top_is = ap (take w) l.tail ∙ take_at p (drop w (lower_first w j t)) w pivot_wide

  below_is : drop w u ≡ drop w (lower_first w j t)
  below_is = ap (drop w) l.tail ∙ drop_at p (drop w (lower_first w j t)) w pivot_wide

  pub below_is_wide : length (drop w u) ≡ (k - 1) * length p
  below_is_wide = ap length below_is ∙ below_wide h g ∙ ap (λ (n : ℕ). (k - 1) * n) (sym pivot_wide)

  pub below_is_small : Within (drop w u)
  below_is_small = subst Within (sym below_is) (below_small h g)

  -- the lower rows by the pivot are the round's
  same_rows : round_of k w c t ≡ clear c p (chop (k - 1) (length p) (drop w u))
  same_rows =
      round_is h g
      ∙ ap₂ (λ (r : List ℤ) (B : List (List ℤ)). clear c r B) (sym l.pivot)
      (ap₂ (λ (n : ℕ) (v : List ℤ). chop (k - 1) n v) (sym pivot_wide) (sym below_is))

  pub round_stops : (b : Result (Unit {0}) Beyond) (v : List ℤ) → StopsRun (each_of Below c p (k - 1) (drop w u)) b v
      → Gathers (round_of k w c t) b (take w u ++ v) p
  unfolding clear_by
  round_stops (Ok a) v s = (
    ap (λ (x : Gathered). x.over) same_rows ∙ s.0,
    (
      ap₂ (λ (x y : List ℤ). x ++ y) top_is s.1 ∙ ap (λ (x : Gathered). flat (x.pivot ∷ x.below)) (sym same_rows),
      ap (λ (x : Gathered). x.pivot) (sym same_rows),
    ),
  )
  round_stops (Err e) v s = ap (λ (x : Gathered). x.over) same_rows ∙ s
