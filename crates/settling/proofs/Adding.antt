-- Laws of seating's loops: the one over the vectors, whose leads rise, and the one that adds a row, from one number other than 0 to the next.
--   rises_row, -on          where the leads rise from column c on: that of vector s lies there or behind, and the next ones behind it
--   Added q r v w j         on the way from v to v + q r, w has that list's first j numbers, and its others are still those of v
--   added_none, -from       so it is of v itself, before the first number, and up to the row's lead
--   added_next, small_next  so it is up to the row's next number other than 0, and none of the numbers passed lies beyond ±M
--   small_from, -on         the numbers so far lie within ±M, up to the row's lead and with one more
--   far_at, within_all      what the addition comes to, where a number lies beyond ±M and where none does
--   added_on, -all          with the number at j stored, up to the next one; the row's end is reached
--   turn_makes, added_turn  the number at j as the machine makes it, and the list with it
-- Assumes nothing.
use Rattle.std.specs.Prelude.{Ok, Err}
use Rattle.problem.specs.declared.Refusal.TheVariants.{Seating}
use mathlib.Core.Path.{◌≡◌, refl, sym, ◌∙◌, ap, subst}
use mathlib.Core.Logic.{⊎_elim}
use mathlib.Core.Bool.{Bool, true, false, ◌||◌}
use mathlib.Core.List.{List, [], ◌∷◌}
use Prim.Native.Nat.{ℕ, zero, suc, ◌+◌, ◌-◌, ◌*◌, ◌<◌, ◌≤◌}
use native.Mathlib.Nat.{le_refl}
use native.Mathlib.Omega.{arith}
use native.Mathlib.Numerals.{add-one}
use borrow.Author.Count.{below_more}
use borrow.Author.Tests.{lt-ltb, le-ltb}
use mir.Syntax.{w64}
use mir.Val.{to_z, of_z}
use lib.IntN.{ℤ, pos, negsuc, nat_abs, ◌+ℤ◌, ◌*ℤ◌}
use lib.ListN.{length, drop, set, length-set, length-drop}
use lib.Seq.{ext_get_or, get_or-drop, get_or-set_same, get_or-set_other}
use Rattle.whole.specs.Lists.{entry}
use Rattle.whole.proofs.Integers.{add_none}
use Rattle.lattice.specs.Rows.{plus, lead}
use Rattle.lattice.proofs.RowLaws.{length_plus, entry_plus}
use Rattle.lattice.specs.Hermite.{Rising}
use Rattle.problem.specs.Limits.{M, max_bound, beyond, any_beyond}
use Rattle.settling.specs.declared.Basis.{Basis}
use Rattle.settling.specs.Moves.{vector}
use Rattle.settling.specs.Seats.{within, Addable}
use Rattle.settling.proofs.Fitting.{added_read}
use Rattle.settling.proofs.Fronts.{lt_or_ge}
use Rattle.settling.specs.Views.{vectors}
use Rattle.settling.proofs.Views.{vectors_drop}

-- ---- leads that rise
module _ (B : Basis) (c s : ℕ) (h : s < B.vectors) (a : Rising c (drop s (vectors B))) where
  rising : Rising c (vector (vectors B) s ∷ drop (suc s) (vectors B))
  rising = subst (Rising c) (vectors_drop B s h) a

  pub rises_row : c ≤ lead (vector (vectors B) s)
  rises_row = rising.0

  pub rises_on : Rising (lead (vector (vectors B) s) + 1) (drop (s + 1) (vectors B))
  rises_on = rw (add-one (lead (vector (vectors B) s)), add-one s) rising.1

-- ---- the numbers before a lead
lead_most : (r : List ℤ) → lead r ≤ length r
unfolding lead
lead_most [] = omega arith
lead_most (pos zero ∷ r) = omega (arith, lead_most r)
lead_most (pos (suc n) ∷ r) = omega arith
lead_most (negsuc n ∷ r) = omega arith

zero_before : (r : List ℤ) (x : ℕ) → x < lead r → entry x r ≡ pos 0
unfolding lead
zero_before [] x h = refl
zero_before (pos zero ∷ r) zero h = refl
zero_before (pos zero ∷ r) (suc x) h = zero_before r x (omega arith)
zero_before (pos (suc n) ∷ r) x h = absurd (omega arith)
zero_before (negsuc n ∷ r) x h = absurd (omega arith)

zero_behind : (r : List ℤ) (i x : ℕ) → i ≤ x → x < i + lead (drop i r) → entry x r ≡ pos 0
zero_behind r i x a b =
    let e : i + (x - i) ≡ x = omega arith in
    sym (get_or-drop i r (x - i) (pos 0) ∙ ap (λ (k : ℕ). entry k r) e) ∙ zero_before (drop i r) (x - i) (omega arith)

-- how far the row's next number other than 0 lies at most
next_most : (r : List ℤ) (j k : ℕ) → j ≤ length r → k ≡ j + lead (drop j r) → k ≤ length r
next_most r j k h e = omega (arith, lead_most (drop j r), length-drop j r)

-- ---- a value beyond ±M, or none
beyond_at : (r : List ℤ) (i : ℕ) → i < length r → M < nat_abs (entry i r) → any_beyond r ≡ true
unfolding any_beyond
beyond_at [] i h l = absurd (omega arith)
beyond_at (x ∷ r) zero h l = ap (λ (t : Bool). t || any_beyond r) (lt-ltb M (nat_abs x) l)
beyond_at (x ∷ r) (suc i) h l = ap (λ (t : Bool). beyond x || t) (beyond_at r i (omega arith) l) ∙ either (beyond x)
  where
    either : (t : Bool) → (t || true) ≡ true
    either true = refl
    either false = refl

all_within : (r : List ℤ) → ((x : ℕ) → x < length r → nat_abs (entry x r) ≤ M) → any_beyond r ≡ false
unfolding any_beyond
all_within [] a = refl
all_within (x ∷ r) a =
    ap (λ (t : Bool). t || any_beyond r) (le-ltb M (nat_abs x) (a 0 (omega arith)))
    ∙ all_within r (λ i h. a (suc i) (omega arith))

-- ---- the loops
pub record Added (q : ℤ) (r v w : List ℤ) (j : ℕ) : Type 0 where
  pub long : length w ≡ length v
  pub done : (x : ℕ) → x < j → entry x w ≡ entry x (plus q r v)
  pub rest : (x : ℕ) → j ≤ x → entry x w ≡ entry x v

module _ (q : ℤ) (r v : List ℤ) (e : length r ≡ length v) where
  pub added_none : Added q r v v 0
  added_none = record { long = refl; done = λ x h. absurd (omega arith); rest = λ x h. refl }

  -- where the row is 0 nothing changes, and so nothing does before its lead
  kept_at_zero : (x : ℕ) → x < length r → entry x r ≡ pos 0 → entry x (plus q r v) ≡ entry x v
  kept_at_zero x h z = entry_plus x q r v (omega (arith, e)) ∙ add_none q (entry x v) (entry x r) z

  pub unmoved : (x : ℕ) → x < lead r → entry x (plus q r v) ≡ entry x v
  unmoved x h = kept_at_zero x (omega (arith, lead_most r)) (zero_before r x h)

  pub added_from : (c : ℕ) → c ≤ lead r → Added q r v v c
  added_from c h = record { long = refl; done = λ x m. sym (unmoved x (omega arith)); rest = λ x m. refl }

  pub added_next : (w : List ℤ) (j k : ℕ) → j ≤ length r → k ≡ j + lead (drop j r) → Added q r v w j → Added q r v w k
  added_next w j k h n d = record {
    long = d.long;
    done = λ x m.
        ⊎_elim (λ l. d.done x l) (λ l. d.rest x l ∙ sym (kept_at_zero x (omega (arith, next_most r j k h n)) (zero_behind r j x l (omega arith))))
        (lt_or_ge x j);
    rest = λ x m. d.rest x (omega arith);
  }

  module _ (w : List ℤ) (j : ℕ) (d : Added q r v w j) where
    pub added_on : (y : ℤ) → j < length r → y ≡ entry j v +ℤ q *ℤ entry j r → Added q r v (set w j y) (j + 1)
    added_on y h f = record {
      long = length-set w j y ∙ d.long;
      done = below_more (λ x. entry x (set w j y) ≡ entry x (plus q r v)) j
          (λ x m. get_or-set_other w j x y (pos 0) (λ p. omega arith) ∙ d.done x m)
          (get_or-set_same w j y (pos 0) (omega (arith, d.long)) ∙ f ∙ sym (entry_plus j q r v (omega arith)));
      rest = λ x m. get_or-set_other w j x y (pos 0) (λ p. omega arith) ∙ d.rest x (omega arith);
    }

    pub added_all : length r ≤ j → w ≡ plus q r v
    added_all h = ext_get_or (pos 0) w (plus q r v) (d.long ∙ sym (length_plus q r v)) (λ x m. d.done x (omega (arith, d.long)))

    -- as the machine makes it of a factor k that it reads back as q
    module _ (k : ℤ) (f : q ≡ k) (h : j < length r) (a : nat_abs k ≤ M + max_bound + 1) (b : nat_abs (entry j v) ≤ 2 * M)
        (m : nat_abs (entry j r) ≤ M) where
      abbrev made : ℤ
      made = to_z w64 (of_z w64 (to_z w64 (of_z w64 (entry j w)) +ℤ to_z w64 (of_z w64 (to_z w64 (of_z w64 k) *ℤ to_z w64 (of_z w64 (entry j r))))))

      pub turn_makes : made ≡ entry j v +ℤ q *ℤ entry j r
      turn_makes =
          let n : nat_abs (entry j w) ≤ 2 * M = rw (d.rest j (le_refl j)) b in
          added_read (entry j w) k (entry j r) n a m ∙ (λ i. d.rest j (le_refl j) i +ℤ sym f i *ℤ entry j r)

      pub added_turn : Added q r v (set w j made) (j + 1)
      added_turn = added_on made h turn_makes

pub ruleset row_loop = (added_none, added_all)

-- ---- so long as no value lies beyond ±M
module _ (q : ℤ) (r v : List ℤ) (a : Addable v r) where
  pub small_from : (c : ℕ) → c ≤ lead r → (x : ℕ) → x < c → nat_abs (entry x (plus q r v)) ≤ M
  small_from c h x m = rw (unmoved q r v a.long x (omega arith)) (a.values_small x)

  pub small_on :
      (j : ℕ) (y : ℤ) → ((x : ℕ) → x < j → nat_abs (entry x (plus q r v)) ≤ M) → j < length r → y ≡ entry j v +ℤ q *ℤ entry j r → nat_abs y ≤ M
      → (x : ℕ) → x < j + 1 → nat_abs (entry x (plus q r v)) ≤ M
  small_on j y s h e m =
      below_more (λ x. nat_abs (entry x (plus q r v)) ≤ M) j s (rw (entry_plus j q r v (omega (arith, a.long)), sym e) m)

  pub small_next :
      (j k : ℕ) → j ≤ length r → k ≡ j + lead (drop j r) → ((x : ℕ) → x < j → nat_abs (entry x (plus q r v)) ≤ M)
      → (x : ℕ) → x < k → nat_abs (entry x (plus q r v)) ≤ M
  small_next j k h n s x m =
      ⊎_elim (λ l. s x l)
      (λ l. rw (kept_at_zero q r v a.long x (omega (arith, next_most r j k h n)) (zero_behind r j x l (omega arith))) (a.values_small x))
      (lt_or_ge x j)

  pub far_at : (j : ℕ) → j < length r → M < nat_abs (entry j v +ℤ q *ℤ entry j r) → Err Seating ≡ within (plus q r v)
  far_at j h l =
      let m : M < nat_abs (entry j (plus q r v)) = rw (entry_plus j q r v (omega (arith, a.long))) l in
      rw (beyond_at (plus q r v) j (omega (arith, length_plus q r v, a.long)) m)

  pub within_all :
      (w : List ℤ) (j : ℕ) → Added q r v w j → ((x : ℕ) → x < j → nat_abs (entry x (plus q r v)) ≤ M) → length r ≤ j → Ok w ≡ within (plus q r v)
  within_all w j d s h =
      rw (all_within (plus q r v) (λ x m. s x (omega (arith, length_plus q r v, a.long))))
      (ap (λ (u : List ℤ). Ok u) (added_all q r v a.long w j d h))
