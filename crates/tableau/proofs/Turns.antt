-- Laws of the rounds of a column on a tail t, which a round with no number beyond ±M leaves as u.
--   next_tail      u is such a tail again
--   next_top, -below   its first row and the others are the round's
--   marked         a number beyond ±M in the round is one in gathering
--   last_round     where the choice has one binary digit, the rows below have only 0 at c then
--   finished       where they have, gathering is done, with one round
--   going_on       else it goes on with a choice of at most half, among the rows below, and has one round more
--   Turned t₀ k w c most t j count   the loop of rounds, from t₀ to t: by `turned`, at first, and past a round: `turned_over`, where it leaves a
--                  number beyond ±M, `turned_done`, where nothing is left to choose, as after the last digit, `turned_last`, and else `turned_on`
-- Assumes nothing.
use mathlib.Core.Path.{◌≡◌, refl, sym, ◌∙◌, ap, ap₂, subst}
use mathlib.Core.Bool.{Bool, true, false, ◌||◌}
use mathlib.Core.List.{List, ◌∷◌}
use Prim.Native.Nat.{ℕ, suc, ◌+◌, ◌*◌, ◌-◌, ◌<◌, ◌≤◌}
use native.Mathlib.Numerals.{add-one}
use native.Mathlib.Omega.{arith}
use lib.IntN.{ℤ}
use lib.ListN.{length, take, drop, length-drop}
use lib.Seq.{take_at, drop_at}
use Rattle.whole.specs.Quotient.{nearest_quotient}
use Rattle.whole.specs.BitLength.{bit_length}
use Rattle.whole.proofs.BitLength.{bits_some, bits_half}
use Rattle.lattice.specs.Rows.{ZeroTo, flat, chop}
use Rattle.lattice.proofs.RowLaws.{ZeroTo_plus, ZeroTo_neg}
use Rattle.lattice.specs.Span.{All, Len}
use Rattle.lattice.proofs.Span.{steps_length, steps_all}
use Rattle.lattice.proofs.FlatLaws.{one_less, chop_next, chop_flat, flat_chop, length_chop}
use Rattle.tableau.specs.Elimination.{clear_by}
use Rattle.tableau.specs.Elimination.{Gathered, Choice, none, at, choose, onward}
use Rattle.tableau.specs.Gathering.{Chosen, magnitude, gathering, gathering_rounds}
use Rattle.tableau.proofs.GatherLaws.{nearest_shrinks, chosen_stands, round_steps, round_next, round_half, following, gathering_round}
use Rattle.tableau.proofs.RoundLaws.{following_rounds, gathering_rounds_round}
use Rattle.tableau.specs.Within.{Within}
use Rattle.std.specs.Prelude.{Ok}
use Rattle.tableau.specs.Tails.{Tail, Picked, Gathers, lower_first, round_of, gathering_of, gathering_rounds_of}
use Rattle.tableau.proofs.Walking.{each_count}
use Rattle.tableau.proofs.Staying.{flat_all, all_flat, round_all}
use Rattle.tableau.proofs.Rounds.{chosen_low, round_is}

module _ {k w c j : ℕ} {t : List ℤ} (h : Tail k w c t) (g : Picked k w c t j) where
  abbrev x : Gathered
  x = round_of k w c t

  pub marked : x.over ≡ true → (gathering_of k w c t).over ≡ true
  marked e = ap (λ (y : Gathered). y.over) (gathering_round g.is) ∙ go (choose c x.below)
    where
      go : (z : Choice) → (following c z x).over ≡ true
      go none = e
      go (at i p) = ap (λ (b : Bool). b || (gathering c x.pivot x.below).over) e

  pub finished : choose c x.below ≡ none → gathering_of k w c t ≡ x
  finished e = gathering_round g.is ∙ ap (λ (z : Choice). following c z x) e

  pub finished_rounds : choose c x.below ≡ none → gathering_rounds_of k w c t ≡ 1
  finished_rounds e = gathering_rounds_round g.is ∙ ap (λ (z : Choice). suc (following_rounds c z x)) e

  pub last_round : bit_length g.size ≤ 1 → choose c x.below ≡ none
  last_round l =
      round_next g.is nearest_shrinks (λ (z : Choice). 2 * magnitude z ≤ g.size → z ≡ none) (λ _ _. refl)
      (λ i p _ h' q.
      absurd (omega (arith, bits_some p (chosen_stands h').0, bits_half p g.size (chosen_stands g.is).0 q)))
      (round_half g.is)

  -- ---- what the round leaves
  rows_wide : All (Len w) (x.pivot ∷ x.below)
  rows_wide = steps_length w (round_steps nearest_quotient c (take w t) (chop (k - 1) w (drop w t))) g.is.wide

  count : length x.below ≡ k - 1
  unfolding clear_by
  count =
      ap (λ (y : Gathered). length y.below) (round_is h g)
      ∙ each_count _ (chop (k - 1) w (drop w (lower_first w j t)))
      ∙ length_chop (k - 1) w (drop w (lower_first w j t))

  small : x.over ≡ false → Within (flat (x.pivot ∷ x.below))
  small e =
      flat_all (x.pivot ∷ x.below)
      (round_all c (take w t) (chop (k - 1) w (drop w t))
      (subst (All Within) (chop_next k w t g.some) (all_flat (chop k w t) (rw (flat_chop k w t h.wide) h.small))) e)

  front : All (ZeroTo c) (x.pivot ∷ x.below)
  front =
      steps_all (ZeroTo c) (ZeroTo_neg c) (ZeroTo_plus c) (round_steps nearest_quotient c (take w t) (chop (k - 1) w (drop w t)))
      (subst (All (ZeroTo c)) (chop_next k w t g.some) h.front)

  module _ {u : List ℤ} (o : x.over ≡ false) (s : u ≡ flat (x.pivot ∷ x.below)) (l : length u ≡ length t) where
    pub next_top : take w u ≡ x.pivot
    next_top = ap (take w) s ∙ take_at x.pivot (flat x.below) w rows_wide.0

    pub next_below : chop (k - 1) w (drop w u) ≡ x.below
    next_below =
        ap (λ (v : List ℤ). chop (k - 1) w (drop w v)) s
        ∙ ap (chop (k - 1) w) (drop_at x.pivot (flat x.below) w rows_wide.0)
        ∙ ap (λ (n : ℕ). chop n w (flat x.below)) (sym count)
        ∙ chop_flat w x.below rows_wide.1

    pub next_tail : Tail k w c u
    next_tail = record {
      wide = l ∙ h.wide;
      column = h.column;
      small = subst Within (sym s) (small o);
      front = subst (All (ZeroTo c)) (sym (chop_next k w u g.some ∙ ap₂ (λ (r : List ℤ) (B : List (List ℤ)). r ∷ B) next_top next_below)) front;
    }

    same : gathering_of k w c u ≡ gathering c x.pivot x.below
    same = ap₂ (gathering c) next_top next_below

    same_rounds : gathering_rounds_of k w c u ≡ gathering_rounds c x.pivot x.below
    same_rounds = ap₂ (gathering_rounds c) next_top next_below

    pub going_on : (i p : ℕ) → choose c x.below ≡ at i p
        → (gathering_of k w c u ≡ gathering_of k w c t)
        × (suc (gathering_rounds_of k w c u) ≡ gathering_rounds_of k w c t)
        × (2 * p ≤ g.size)
        × Chosen w c (take w u) (chop (k - 1) w (drop w u)) (i + 1) p
    going_on i p e =
        let n : Chosen w c x.pivot x.below (suc i) p =
        round_next g.is nearest_shrinks (λ (z : Choice). z ≡ at i p → Chosen w c x.pivot x.below (suc i) p)
        (λ _ f. absurd (never f))
        (λ i' p' _ h' f.
        let a : i' ≡ i = cc in
        let b : p' ≡ p = cc in
        subst (λ (m : ℕ). Chosen w c x.pivot x.below (suc m) p) a (subst (Chosen w c x.pivot x.below (suc i')) b h'))
        e in (
          same
              ∙ sym
              (gathering_round g.is
              ∙ ap (λ (z : Choice). following c z x) e
              ∙ ap (λ (b : Bool). onward b (gathering c x.pivot x.below)) o),
          ap suc same_rounds ∙ sym (gathering_rounds_round g.is ∙ ap (λ (z : Choice). suc (following_rounds c z x)) e),
          subst (λ (z : Choice). 2 * magnitude z ≤ g.size) e (round_half g.is),
          subst (λ (m : ℕ). Chosen w c (take w u) (chop (k - 1) w (drop w u)) m p) (sym (add-one i)) (rw (next_top, next_below) n),
        )
      where
        never : none ≡ at i p → ⊥
        never f = let z : ◌≡◌ {A = ℕ} 0 1 = cc in omega arith

-- ---- the loop of rounds: what is left to gather of the present tail t is what was to gather of t₀ at first, its rounds and those counted are all
-- rounds, and each round takes a binary digit from the choice
pub record Turned (t₀ : List ℤ) (k w c most : ℕ) (t : List ℤ) (j count : ℕ) : Type 0 where
  pub same : length t ≡ length t₀
  pub tail : Tail k w c t
  pub picked : Picked k w c t j
  pub rest : gathering_of k w c t ≡ gathering_of k w c t₀
  pub sum : count + gathering_rounds_of k w c t ≡ gathering_rounds_of k w c t₀
  pub digits : count + bit_length picked.size ≤ most

-- what it asks for: the magnitude chosen falls
abbrev pub chosen_size_of : ℕ → ℕ → ℕ → List ℤ → ℕ
chosen_size_of k w c t = magnitude (choose c (take w t ∷ chop (k - 1) w (drop w t)))

pub turned : {t₀ : List ℤ} {k w c most j : ℕ} → Tail k w c t₀ → (g : Picked k w c t₀ j) → bit_length g.size ≤ most → Turned t₀ k w c most t₀ j 0
turned h g d = record { same = refl; tail = h; picked = g; rest = refl; sum = omega arith; digits = omega arith }

module _ {t₀ t : List ℤ} {k w c most j count : ℕ} (v : Turned t₀ k w c most t j count) where
  pub turned_over : (round_of k w c t).over ≡ true → (gathering_of k w c t₀).over ≡ true
  turned_over e = ap (λ (y : Gathered). y.over) (sym v.rest) ∙ marked v.tail v.picked e

  pub turned_digit : count + 1 ≤ most
  turned_digit = omega (arith, v.digits, bits_some v.picked.size (chosen_stands v.picked.is).0)

  module _ {u p : List ℤ} (o : ((round_of k w c t).over ≡ false) × ((u ≡ flat ((round_of k w c t).pivot ∷ (round_of k w c t).below))
      × (p ≡ (round_of k w c t).pivot))) (l : length u ≡ length t) where
    after : Tail k w c u
    after = next_tail v.tail v.picked o.0 o.1.0 l

    low : choose c (chop (k - 1) w (drop w u)) ≡ choose c (round_of k w c t).below
    low = ap (choose c) (next_below v.tail v.picked o.0 o.1.0 l)

    pub turned_room : length (drop w u) ≡ (k - 1) * w
    turned_room = omega (arith, length-drop w u, after.wide, one_less k w v.picked.some)

    pub turned_done : choose c (chop (k - 1) w (drop w u)) ≡ none
        → Gathers {A = ℕ} (gathering_of k w c t₀) (Ok (count + 1)) u p × (count + 1 ≡ gathering_rounds_of k w c t₀)
    turned_done e =
        let f : choose c (round_of k w c t).below ≡ none = sym low ∙ e in (
          subst (λ (y : Gathered). Gathers {A = ℕ} y (Ok (count + 1)) u p) (sym (finished v.tail v.picked f) ∙ v.rest) o,
          sym (ap (λ (i : ℕ). count + i) (finished_rounds v.tail v.picked f)) ∙ v.sum,
        )

    -- as many rounds as digits: nothing is left to choose
    pub turned_last : count + 1 ≡ most → choose c (chop (k - 1) w (drop w u)) ≡ none
    turned_last e = low ∙ last_round v.tail v.picked (omega (arith, v.digits))

    module _ {i q : ℕ} (e : at i q ≡ choose c (chop (k - 1) w (drop w u))) where
      more : (gathering_of k w c u ≡ gathering_of k w c t)
          × (suc (gathering_rounds_of k w c u) ≡ gathering_rounds_of k w c t)
          × (2 * q ≤ v.picked.size)
          × Chosen w c (take w u) (chop (k - 1) w (drop w u)) (i + 1) q
      more = going_on v.tail v.picked o.0 o.1.0 l i q (sym low ∙ sym e)

      again : Picked k w c u (i + 1)
      again = record { some = v.picked.some; size = q; is = more.3 }

      pub turned_low : i + 1 < k
      turned_low = chosen_low after again

      pub turned_on : Turned t₀ k w c most u (i + 1) (count + 1)
      unfolding again
      turned_on = record {
        same = l ∙ v.same;
        tail = after;
        picked = again;
        rest = more.0 ∙ v.rest;
        sum = omega (arith, more.1, v.sum);
        digits = omega (arith, v.digits, bits_half q v.picked.size (chosen_stands v.picked.is).0 more.2);
      }

      pub turned_smaller : chosen_size_of k w c u < chosen_size_of k w c t
      turned_smaller =
          omega (arith, more.2, (chosen_stands v.picked.is).0, ap magnitude more.3.choice, ap magnitude v.picked.is.choice)
