-- Document 02, (ii): the reader's ideals are those of its clauses.
--   some_fails       a test that does not hold at every place fails at one
--   shared, shares   a shared row, by the test of the rows; neighbour, a neighbour, by its test; plain, such an interval
--   columns t k h    the columns that a test admits, of k from h on: their numbers are those chosen, each stands once, and they are all
--   readers_rule     the rule
-- Assumes nothing.
use Rattle.std.specs.Prelude.{None, Some}
use mathlib.Core.Path.{◌≡◌, refl, sym, ◌∙◌, ap, subst}
use mathlib.Core.Logic.{◌↔◌, inl, inr, ⊎_elim}
use mathlib.Core.Bool.{Bool, true, false, not, cond, ◌&&◌, true≢false}
use mathlib.Core.List.{List, [], ◌∷◌, map}
use Prim.Native.Nat.{ℕ, zero, suc, ◌+◌, ◌<◌, ◌≤◌}
use native.Mathlib.Omega.{arith}
use borrow.Author.Tests.{not-true, not-false, lt-ltb, ltb-true, ltb-false}
use lib.Dec.{ltb}
use lib.IntN.{ℤ, pos}
use lib.ListN.{length, length-map}
use Rattle.whole.specs.Quotient.{floor_quotient}
use Rattle.whole.specs.Tests.{is_zero, every, positive}
use Rattle.whole.proofs.Counted.{every_not}
use Rattle.whole.proofs.Integers.{is_zero_true, floor_quotient_low, floor_quotient_high}
use Rattle.whole.proofs.Tests.{both_true}
use Rattle.neighbours.specs.Neighbours.{Stated, in_row, shares, is_neighbour, ideal_of, chosen, neighbour_ideals}
use Rattle.neighbours.specs.Neighbours.{total, mean_by, mean, is_plain_interval, neighbour_wish}
use Rattle.neighbours.specs.Rule.{SharedRow, Neighbour, Plain, Apart, Among, HandsMean, ReadersRule}

-- ---- tests
record Failing (n : ℕ) (f : ℕ → Bool) : Type 0 where
  at : ℕ
  inside : at < n
  fails : f at ≡ false

some_fails : (n : ℕ) (f : ℕ → Bool) → every n f ≡ false → Failing n f
unfolding every
some_fails zero f e = absurd (true≢false e)
some_fails (suc n) f e = go (λ h. some_fails n f h) (every n f) refl
  where
    go : (every n f ≡ false → Failing n f) → (t : Bool) → every n f ≡ t → Failing (suc n) f
    go before false h = let x = before h in record { at = x.at; inside = omega (arith, x.inside); fails = x.fails }
    go before true h = record { at = n; inside = omega arith; fails = sym (ap (λ (t : Bool). t && f n) h) ∙ e }

not_zero : (x : ℤ) → not (is_zero x) ≡ true → x ≡ pos 0 → ⊥
not_zero x h e = true≢false (sym h ∙ ap (λ (y : ℤ). not (is_zero y)) e)

zero_not : (x : ℤ) → (x ≡ pos 0 → ⊥) → not (is_zero x) ≡ true
zero_not x f = go (is_zero x) refl
  where
    go : (t : Bool) → is_zero x ≡ t → not (is_zero x) ≡ true
    go true h = absurd (f (is_zero_true x h))
    go false h = ap not h

and-true : (a b : Bool) → a ≡ true → b ≡ true → a && b ≡ true
and-true a b p q = ap (λ (t : Bool). t && b) p ∙ q

module _ (S : Stated) (j : ℕ) where
  abbrev lacks : ℕ → ℕ → Bool
  lacks h i = not (in_row S i j && in_row S i h)

  shared : (h : ℕ) → shares S j h ≡ true → SharedRow S j h
  shared h e =
      let x = some_fails S.rows (lacks h) (not-true _ e) in
      let b = both_true (in_row S x.at j) (in_row S x.at h) (not-false _ x.fails) in
      record { row = x.at; inside = x.inside; first = not_zero _ b.0; second = not_zero _ b.1 }

  has_row : (h : ℕ) → SharedRow S j h → shares S j h ≡ true
  has_row h x =
      let b : in_row S x.row j && in_row S x.row h ≡ true =
      and-true (in_row S x.row j) (in_row S x.row h) (zero_not _ x.first) (zero_not _ x.second) in
      ap not (every_not S.rows (lacks h) x.row x.inside (ap not b))

  neighbour : (h : ℕ) → h < S.intervals → is_neighbour S j h ≡ true → Neighbour S j h
  neighbour h l e =
      let b = both_true (not (is_zero (S.low h))) (shares S j h) e in
      record { interval = l; goal = not_zero _ b.0; shared = shared h b.1 }

  is_neighbour_lem : (h : ℕ) → Neighbour S j h → is_neighbour S j h ≡ true
  is_neighbour_lem h x = and-true (not (is_zero (S.low h))) (shares S j h) (zero_not _ x.goal) (has_row h x.shared)

  plain : is_plain_interval S j ≡ true → Plain S j
  plain e =
      let b = both_true (ltb j S.intervals) (is_zero (S.low j)) e in
      record { interval = ltb-true j S.intervals b.0; goal = is_zero_true _ b.1 }

  is_plain : Plain S j → is_plain_interval S j ≡ true
  is_plain x = and-true (ltb j S.intervals) (is_zero (S.low j)) (lt-ltb _ _ x.interval) (ap is_zero x.goal)

-- ---- the columns that a test admits
unfoldable columns : (ℕ → Bool) → ℕ → ℕ → List ℕ
columns t zero h = []
columns t (suc k) h = cond (t h) (h ∷ columns t k (suc h)) (columns t k (suc h))

-- by what the test says of the first
module _ (t : ℕ → Bool) (x : ℕ → ℤ) where
  chosen_map : (k h : ℕ) → chosen t x k h ≡ map x (columns t k h)
  unfolding chosen columns
  chosen_map zero h = refl
  chosen_map (suc k) h = go (t h) (chosen_map k (suc h))
    where
      go : (b : Bool) → chosen t x k (suc h) ≡ map x (columns t k (suc h))
          → cond b (x h ∷ chosen t x k (suc h)) (chosen t x k (suc h)) ≡ map x (cond b (h ∷ columns t k (suc h)) (columns t k (suc h)))
      go true e = ap (λ (l : List ℤ). x h ∷ l) e
      go false e = e

later : (c d : ℕ) (l : List ℕ) → c ≤ d → Apart d l → Apart c l
later c d [] e a = tt
later c d (h ∷ l) e a = (omega (arith, e, a.0), a.1)

module _ (t : ℕ → Bool) where
  apart : (k h : ℕ) → Apart h (columns t k h)
  unfolding columns
  apart zero h = tt
  apart (suc k) h = go (t h) (apart k (suc h))
    where
      go : (b : Bool) → Apart (suc h) (columns t k (suc h)) → Apart h (cond b (h ∷ columns t k (suc h)) (columns t k (suc h)))
      go true a = (omega arith, a)
      go false a = later h (suc h) (columns t k (suc h)) (omega arith) a

  admitted : (k h g : ℕ) → Among g (columns t k h) → (t g ≡ true) × (g < h + k)
  unfolding columns
  admitted zero h g a = absurd a
  admitted (suc k) h g a = go (λ b. let r = admitted k (suc h) g b in (r.0, omega (arith, r.1))) (t h) refl a
    where
      go : (Among g (columns t k (suc h)) → (t g ≡ true) × (g < h + suc k)) → (b : Bool) → t h ≡ b
          → Among g (cond b (h ∷ columns t k (suc h)) (columns t k (suc h)))
          → (t g ≡ true) × (g < h + suc k)
      go behind true e y = ⊎_elim (λ p. (ap t p ∙ e, omega (arith, p))) behind y
      go behind false e y = behind y

  admits : (k h g : ℕ) → h ≤ g → g < h + k → t g ≡ true → Among g (columns t k h)
  unfolding columns
  admits zero h g a b e = absurd (omega (arith, a, b))
  admits (suc k) h g a b e = go (λ c. admits k (suc h) g c (omega (arith, b)) e) (t h) refl (ltb h g) refl
    where
      go : (suc h ≤ g → Among g (columns t k (suc h))) → (c : Bool) → t h ≡ c → (d : Bool) → ltb h g ≡ d
          → Among g (cond c (h ∷ columns t k (suc h)) (columns t k (suc h)))
      go behind true p true q = inr (behind (ltb-true h g q))
      go behind true p false q = inl (omega (arith, a, ltb-false h g q))
      go behind false p true q = behind (ltb-true h g q)
      go behind false p false q =
          let s : g ≡ h = omega (arith, a, ltb-false h g q) in
          absurd (true≢false (sym e ∙ ap t s ∙ p))

-- ---- the mean
module _ (S : Stated) (j : ℕ) where
  beside : List ℕ
  beside = columns (is_neighbour S j) S.intervals 0

  beside_ideals : neighbour_ideals S j ≡ map (ideal_of S) beside
  unfolding beside
  beside_ideals = chosen_map (is_neighbour S j) (ideal_of S) S.intervals 0

  beside_all : (h : ℕ) → Neighbour S j h ↔ Among h beside
  unfolding beside
  beside_all h = (
    (λ x. admits (is_neighbour S j) S.intervals 0 h (omega arith) (omega (arith, x.interval)) (is_neighbour_lem S j h x)),
    (λ a. let r = admitted (is_neighbour S j) S.intervals 0 h a in neighbour S j h (omega (arith, r.1)) r.0),
  )

  beside_once : Apart 0 beside
  unfolding beside
  beside_once = apart (is_neighbour S j) S.intervals 0

  mean_is : mean (neighbour_ideals S j) ≡ mean_by (total (map (ideal_of S) beside)) (length beside)
  mean_is = ap mean beside_ideals ∙ ap (mean_by (total (map (ideal_of S) beside))) (length-map beside (ideal_of S))

  hands : is_plain_interval S j ≡ true → (l : List ℕ) → beside ≡ l → (h : ℕ) → Among h l → HandsMean S j
  unfolding neighbour_wish
  hands p [] e h a = absurd a
  hands p (k ∷ l) e h a =
      let x : ℤ = floor_quotient (total (map (ideal_of S) (k ∷ l))) (pos (length (k ∷ l))) in
      let w : neighbour_wish S j ≡ Some x =
      rw p (mean_is ∙ ap (λ (u : List ℕ). mean_by (total (map (ideal_of S) u)) (length u)) e) in
      record {
        number = x;
        is = w;
        mean = record {
          neighbours = k ∷ l;
          all = subst (λ (u : List ℕ). (h : ℕ) → Neighbour S j h ↔ Among h u) e beside_all;
          once = subst (Apart 0) e beside_once;
          low = floor_quotient_low (total (map (ideal_of S) (k ∷ l))) (positive (length l));
          high = floor_quotient_high (total (map (ideal_of S) (k ∷ l))) (positive (length l));
        };
      }

  none_beside : (l : List ℕ) → beside ≡ l → ((h : ℕ) → Among h l → ⊥) → mean (neighbour_ideals S j) ≡ None
  none_beside [] e f = mean_is ∙ ap (λ (u : List ℕ). mean_by (total (map (ideal_of S) u)) (length u)) e
  none_beside (k ∷ l) e f = absurd (f k (inl refl))

  -- where nothing is asked of it, or there is nothing to take the mean of
  unset : (t : Bool) → is_plain_interval S j ≡ t → (is_plain_interval S j ≡ true → mean (neighbour_ideals S j) ≡ None) → neighbour_wish S j ≡ None
  unfolding neighbour_wish
  unset true p f = rw p (f p)
  unset false p f = rw p refl

-- ---- the rule
pub readers_rule : ReadersRule
readers_rule S j = record {
  mean = λ p h x. hands S j (is_plain S j p) (beside S j) refl h ((beside_all S j h).0 x);
  none = λ f. unset S j (is_plain_interval S j) refl (λ p. none_beside S j (beside S j) refl (λ h a. f h ((beside_all S j h).1 a)));
  other = λ f. unset S j (is_plain_interval S j) refl (λ p. absurd (f (plain S j p)));
}
