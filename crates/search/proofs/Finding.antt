-- How the sets of a basis are found.
--   shifted               what the machine makes of 1 << s
--   support-..            the set of the places at which a row is not 0, from the last number on; none lies beyond the row
--   Holding w s k v l     s is being added to the sets of the list k at the places of the set w: l is what it has come to, and those of v are left
--   hold-..               for the loop that adds it, from the first place on
--   Filled N n S H        the sets have the first n vectors of the basis N
--   fill-..               for the loop over the vectors
--   set_lent              a set that is read out of a list, whatever a place behind it has
--   cleared               a list of empty sets, as it is made
--   unnoted               a list of notes, as it is made
-- Assumes nothing.
use mathlib.Core.Path.{◌≡◌, refl, sym, ◌∙◌, ap, ap₂, subst}
use mathlib.Core.Logic.{⊎_elim}
use mathlib.Core.Bool.{Bool, true, false, not, cond, ◌&&◌, ◌||◌, and-true, and-false, or-false, and-eq-true_iff}
use mathlib.Core.List.{List, [], ◌∷◌}
use Prim.Native.Nat.{ℕ, zero, suc, ◌+◌, ◌-◌, ◌*◌, ◌%◌, ◌^◌, ◌≤◌, ◌<◌}
use native.Mathlib.Nat.{lt_of_lt_of_le, eq-or-lt_of_le, one-mul, pow-succ'}
use native.Mathlib.Omega.{arith}
use borrow.Author.Tests.{eq-eqb, eqb-true, eqb-false, ltb-false, ltb-true, lt-ltb, le-ltb}
use lib.Dec.{eqb, ltb}
use lib.IntN.{ℤ, pos}
use lib.ListN.{length, drop, get_or, set, length-set, replicate, length-drop, get_or-eq_default}
use lib.Pow.{pow_mono, shl_exact}
use lib.Seq.{drop-cons, drop-length, get_or-set_same, get_or-set_other}
use Rattle.std.proofs.lemmas.List.{get_or_default}
use Rattle.whole.specs.Lists.{entry}
use Rattle.whole.specs.Tests.{is_zero}
use Rattle.problem.specs.Limits.{max_columns}
use Rattle.settling.specs.declared.Basis.{Basis}
use Rattle.settling.specs.Moves.{vector}
use Rattle.settling.specs.Views.{vectors}
use Rattle.settling.proofs.Views.{vector_long}
use Rattle.search.specs.declared.seen.Note.{Note}
use Rattle.search.specs.Notes.{noted, Noted}
use Rattle.search.specs.Sets.{has, touches, Taken, Indexed, Held, Blank}
use Rattle.search.proofs.Partners.{two_signs}
use Rattle.search.proofs.Setting.{none_has, double_first, double_later, taken_in, taken_rest}
use Rattle.search.proofs.Singles.{note}

-- 1 << s, which the machine has as a product cut to 64 digits
pub shifted : (s : ℕ) → s < 64 → (1 * 2 ^ s) % 2 ^ 64 ≡ 2 ^ s
shifted s h = shl_exact {a = 1} 1 s 64 (omega arith) (omega arith) ∙ one-mul (2 ^ s)

-- ---- the places at which a row is not 0
one_more : (f : ℕ → Bool) (n s : ℕ) → (ltb s n && f s) || (eqb s n && f n) ≡ ltb s (n + 1) && f s
one_more f n s = go (eqb s n) refl (ltb s n) refl
  where
    go : (a : Bool) → eqb s n ≡ a → (b : Bool) → ltb s n ≡ b → (b && f s) || (a && f n) ≡ ltb s (n + 1) && f s
    go true e true d = absurd (omega (arith, eqb-true s n e, ltb-true s n d))
    go true e false d = rw (lt-ltb s (n + 1) (omega (arith, eqb-true s n e))) (ap f (sym (eqb-true s n e)))
    go false e true d = rw (lt-ltb s (n + 1) (omega (arith, ltb-true s n d))) (or-false (f s))
    go false e false d = rw (le-ltb s (n + 1) (omega (arith, eqb-false s n e, ltb-false s n d))) refl

unfoldable pub support_of : List ℤ → ℕ
support_of [] = 0
support_of (x ∷ v) = 2 * support_of v + cond (is_zero x) 0 1

bit : (b : Bool) → cond b 0 1 < 2
bit true = omega arith
bit false = omega arith

support_has : (v : List ℤ) (j : ℕ) → has (support_of v) j ≡ not (is_zero (entry j v))
unfolding support_of
support_has [] j = none_has j
support_has (x ∷ v) zero = double_first (support_of v) (cond (is_zero x) 0 1) (bit (is_zero x)) ∙ go (is_zero x)
  where
    go : (b : Bool) → eqb (cond b 0 1) 1 ≡ not b
    go true = refl
    go false = refl
support_has (x ∷ v) (suc j) = double_later (support_of v) (cond (is_zero x) 0 1) j (bit (is_zero x)) ∙ support_has v j

support_small : (v : List ℤ) → support_of v < 2 ^ length v
unfolding support_of
support_small [] = omega arith
support_small (x ∷ v) = omega (arith, support_small v, bit (is_zero x), pow-succ' 2 (length v))

module _ (v : List ℤ) where
  pub support_end : support_of (drop (length v) v) ≡ 0
  unfolding support_of
  support_end = ap support_of (drop-length v)

  -- one number more, before the others
  pub support_step : (j : ℕ) → 0 < j → j ≤ length v
      → support_of (drop (j - 1) v) ≡ 2 * support_of (drop j v) + cond (is_zero (entry (j - 1) v)) 0 1
  unfolding support_of
  support_step j h k =
      ap support_of (drop-cons v (j - 1) (pos 0) (omega arith))
      ∙ ap (λ (i : ℕ). 2 * support_of (drop i v) + cond (is_zero (entry (j - 1) v)) 0 1) next
    where
      next : suc (j - 1) ≡ j
      next = omega arith

  -- what comes of the number before place j, which is 0 or not
  module _ (j w : ℕ) (e : w ≡ support_of (drop j v)) (h : 0 < j) (k : j ≤ length v) where
    pub support_even : is_zero (entry (j - 1) v) ≡ true → 2 * w ≡ support_of (drop (j - 1) v)
    support_even z = omega (arith, e, support_step j h k, ap {B = ℕ} (λ (b : Bool). cond b 0 1) z)

    pub support_odd : is_zero (entry (j - 1) v) ≡ false → 2 * w + 1 ≡ support_of (drop (j - 1) v)
    support_odd z = omega (arith, e, support_step j h k, ap {B = ℕ} (λ (b : Bool). cond b 0 1) z)

    pub support_room : length v ≤ max_columns → 2 * w + 1 < 2 ^ 64
    support_room m =
        let small : support_of (drop j v) < 2 ^ 48 =
        lt_of_lt_of_le (support_small (drop j v)) (pow_mono {j = 48} (omega (arith, length-drop j v))) in
        omega (arith, e, small)

  past : (j : ℕ) → length v ≤ j → not (is_zero (entry j v)) ≡ false
  past j h = ap (λ (x : ℤ). not (is_zero x)) (get_or-eq_default v (pos 0) {n = j} h)

  -- none lies beyond the row
  support_inside : (j : ℕ) → not (is_zero (entry j v)) ≡ ltb j (length v) && not (is_zero (entry j v))
  support_inside j = go (ltb j (length v)) refl
    where
      go : (b : Bool) → ltb j (length v) ≡ b → not (is_zero (entry j v)) ≡ b && not (is_zero (entry j v))
      go true e = refl
      go false e = past j (ltb-false j (length v) e)

  pub support_in : (j : ℕ) → not (is_zero (entry j v)) ≡ true → j < length v
  support_in j e =
      ltb-true j (length v) ((and-eq-true_iff (ltb j (length v)) (not (is_zero (entry j v)))).0 (sym (support_inside j) ∙ e)).0

  pub support_all : (w k : ℕ) → w ≡ support_of (drop k v) → k ≡ 0 → (j : ℕ) → has w j ≡ not (is_zero (entry j v))
  support_all w k e z j = ap (λ (u : ℕ). has u j) (e ∙ ap (λ (i : ℕ). support_of (drop i v)) z) ∙ support_has v j

  pub support_none : length v ≡ 0 → (j : ℕ) → has 0 j ≡ not (is_zero (entry j v))
  support_none e j = none_has j ∙ sym (past j (omega arith))

pub ruleset supports = (support_end, support_even, support_odd, support_room, support_all)

-- ---- a place added to the sets at the places of a set
pub record Holding (w s : ℕ) (k : List ℕ) (v : ℕ) (l : List ℕ) : Type 0 where
  pub long : length l ≡ length k
  pub inside : (j : ℕ) → has v j ≡ true → j < length l
  pub each : (j t : ℕ) → has (get_or l j 0) t || (has v j && eqb t s) ≡ has (get_or k j 0) t || (has w j && eqb t s)

module _ (w s : ℕ) (k : List ℕ) where
  pub hold_starts : ((j : ℕ) → has w j ≡ true → j < length k) → Holding w s k w k
  hold_starts h = record { long = refl; inside = h; each = λ j t. refl }

  pub hold_ends : {v : ℕ} {l : List ℕ} → v ≡ 0 → Holding w s k v l → Held w s k l
  hold_ends {v} {l} e h = record {
    long = h.long;
    each = λ j t.
        sym (or-false (has (get_or l j 0) t))
        ∙ ap (λ (b : Bool). has (get_or l j 0) t || (b && eqb t s)) (sym (ap (λ (i : ℕ). has i j) e ∙ none_has j)) ∙ h.each j t;
  }

  module _ {v j u : ℕ} {l : List ℕ} (h : Holding w s k v l) (p : Taken v j u) where
    pub hold_inside : j < length l
    hold_inside = h.inside j (taken_in p)

    pub hold_more : (x : ℕ) → ((t : ℕ) → has x t ≡ has (get_or l j 0) t || eqb t s) → Holding w s k u (set l j x)
    hold_more x f =
        record {
          long = length-set l j x ∙ h.long;
          inside = λ i e. omega (arith, length-set l j x, h.inside i (left i e));
          each = λ i t. go i t (eqb i j) refl ∙ h.each i t;
        }
      where
        left : (i : ℕ) → has u i ≡ true → has v i ≡ true
        left i e = ((and-eq-true_iff (has v i) (not (eqb i j))).0 (sym (taken_rest p i) ∙ e)).0

        go : (i t : ℕ) (b : Bool) → eqb i j ≡ b
            → has (get_or (set l j x) i 0) t || (has u i && eqb t s) ≡ has (get_or l i 0) t || (has v i && eqb t s)
        go i t true e =
            subst (λ (i : ℕ). has (get_or (set l j x) i 0) t || (has u i && eqb t s) ≡ has (get_or l i 0) t || (has v i && eqb t s))
            (sym (eqb-true i j e)) same
          where
            gone : has u j ≡ false
            gone = taken_rest p j ∙ ap₂ (λ (a b : Bool). a && not b) (taken_in p) (self j)
              where
                self : (n : ℕ) → eqb n n ≡ true
                self n = eq-eqb n n refl

            same : has (get_or (set l j x) j 0) t || (has u j && eqb t s) ≡ has (get_or l j 0) t || (has v j && eqb t s)
            same = rw (get_or-set_same l j x 0 hold_inside, gone, taken_in p) (or-false (has x t) ∙ f t)
        go i t false e =
            ap₂ (λ (y : ℕ) (b : Bool). has y t || (b && eqb t s)) (get_or-set_other l j i x 0 (eqb-false i j e))
            (taken_rest p i ∙ ap (λ (b : Bool). has v i && not b) e ∙ and-true (has v i))

-- ---- the sets of the first n vectors
pub record Filled (N : List (List ℤ)) (n : ℕ) (supports holders : List ℕ) : Type 0 where
  pub supports_long : length supports ≡ max_columns
  pub holders_long : length holders ≡ max_columns
  pub support : (s : ℕ) → s < n → (j : ℕ) → has (get_or supports s 0) j ≡ touches N s j
  pub holder : (j s : ℕ) → has (get_or holders j 0) s ≡ ltb s n && touches N s j

pub fill_starts : (N : List (List ℤ)) (S H : List ℕ) → length S ≡ max_columns → Blank H → Filled N 0 S H
fill_starts N S H l k =
    record {
      supports_long = l;
      holders_long = k.long;
      support = λ s h j. absurd (omega arith);
      holder = λ j s. ap (λ (w : ℕ). has w s) (k.none j) ∙ none_has s ∙ sym (ap (λ (t : Bool). t && touches N s j) (le-ltb s 0 (omega arith)));
    }

pub fill_more : (N : List (List ℤ)) (n : ℕ) (S H : List ℕ) → Filled N n S H → n < max_columns
    → (w : ℕ) → ((j : ℕ) → has w j ≡ touches N n j) → (G : List ℕ) → Held w n H G → Filled N (n + 1) (set S n w) G
fill_more N n S H f h w is G g =
    record {
      supports_long = length-set S n w ∙ f.supports_long;
      holders_long = g.long ∙ f.holders_long;
      support = λ s k j. ⊎_elim (λ e. same s j e) (λ l. before s j l) (eq-or-lt_of_le (omega arith));
      holder = λ j s.
          g.each j s ∙ ap₂ ◌||◌ (f.holder j s) (ap (λ (b : Bool). b && eqb s n) (is j) ∙ swap (touches N n j) (eqb s n))
          ∙ one_more (λ i. touches N i j) n s;
    }
  where
    swap : (a b : Bool) → a && b ≡ b && a
    swap true b = sym (and-true b)
    swap false b = sym (and-false b)

    same : (s j : ℕ) → s ≡ n → has (get_or (set S n w) s 0) j ≡ touches N s j
    same s j e =
        subst (λ (i : ℕ). has (get_or (set S n w) i 0) j ≡ touches N i j) (sym e)
        (rw (get_or-set_same S n w 0 (omega (arith, f.supports_long))) (is j))

    before : (s j : ℕ) → s < n → has (get_or (set S n w) s 0) j ≡ touches N s j
    before s j l = rw (get_or-set_other S n s w 0 (λ e. omega arith)) (f.support s l j)

pub fill_ends : (B : Basis) (S H : List ℕ) → Filled (vectors B) B.vectors S H → Indexed B S H
fill_ends B S H f =
    record {
      supports_long = f.supports_long;
      holders_long = f.holders_long;
      support = λ s h j.
          f.support s h j ∙ support_inside (vector (vectors B) s) j
          ∙ ap (λ (m : ℕ). ltb j m && touches (vectors B) s j) (vector_long B s h);
      holder = λ j h s. f.holder j s;
    }

-- ---- a set that is read out of a list
pub set_lent : (l : List ℕ) (j x : ℕ) → j < length l → get_or l j x ≡ get_or l j 0
set_lent l j x h = get_or_default l j x 0 h

-- ---- empty sets
alike : {A : Type 0} (x : A) (n j : ℕ) → get_or (replicate n x) j x ≡ x
alike x zero j = refl
alike x (suc n) zero = refl
alike x (suc n) (suc j) = alike x n j

pub cleared : Blank (replicate max_columns 0)
cleared = record { long = refl; none = alike 0 max_columns }

pub unnoted : (n : ℕ) → Noted n (replicate max_columns (note 0 0))
unnoted n = record {
  long = refl;
  each = λ h c x. subst (λ (i : Note). noted i x < n) (sym (alike (note 0 0) max_columns c)) (two_signs (λ x. noted (note 0 0) x < n) h h x);
}
