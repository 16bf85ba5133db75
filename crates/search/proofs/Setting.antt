-- Laws of sets that are kept as words.
--   none_has               the empty set has no place
--   double_first, -later   a place more below the others, which go up by one
--   add_has, -small        a place more above the others
--   first_has, -small, -le   the first place is in its set, and its digit is one of the word
--   first_least            no place of the set is below it
--   rest_has, -less        the rest of a set has its other places
--   meet_has, union_has    the places of both of two sets, or of either
--   subset_le              a set whose places are all in another is no larger
--   minus_has              a set without such a one has its other places
--   below_has, only_has    the places below n, and n alone
--   rest_word              w & (w - 1) is the rest of the set w
--   has_some               a set with a place is not empty
--   taken-..               of a place taken out of a set: it is the least, and the others are left
--   Walk I D Q w           a loop over a set: the places of w are left, and I holds of them; Q holds of the others of which D speaks
--   walk-..                for its turns, from the first place on
-- Assumes nothing.
use mathlib.Core.Path.{◌≡◌, refl, sym, ◌∙◌, ap, ap₂, subst}
use mathlib.Core.Logic.{◌⊎◌, inl, inr, ⊎_elim}
use mathlib.Core.Bool.{Bool, true, false, not, ◌&&◌, ◌||◌, and-true, or-false, and-eq-true_iff, true≢false}
use Prim.Native.Nat.{ℕ, zero, suc, ◌+◌, ◌-◌, ◌*◌, ◌/◌, ◌%◌, ◌^◌, ◌≤◌, ◌<◌, min, max}
use native.Mathlib.Nat.{pow-succ', min-le_left, min-le_right, max-le, zero-add}
use native.Mathlib.Omega.{arith}
use borrow.Author.Tests.{eq-eqb, eqb-true, lt-ltb, le-ltb}
use lib.Arith.{bin_ind}
use lib.Bits.{bit_and, bit_or, and_step, or_step, and_self}
use lib.Count.{count_trailing_zeros, under}
use lib.Dec.{eqb, ltb, leb-suc-suc, eqb-zero-suc, eqb-suc-zero, eqb-suc-suc}
use lib.Pow.{pow_pos}
use Rattle.search.specs.Sets.{has, first_of, rest_of, Taken}

pub none_has : (j : ℕ) → has 0 j ≡ false
unfolding has
none_has zero = refl
none_has (suc j) = none_has j

-- ---- one digit more, which is the lowest
half : (w x : ℕ) → x < 2 → (2 * w + x) / 2 ≡ w
half w x h = omega arith

digit : (w x : ℕ) → x < 2 → (2 * w + x) % 2 ≡ x
digit w x h = omega arith

pub double_first : (w x : ℕ) → x < 2 → has (2 * w + x) zero ≡ eqb x 1
unfolding has
double_first w x h = ap (λ (d : ℕ). eqb d 1) (digit w x h)

pub double_later : (w x j : ℕ) → x < 2 → has (2 * w + x) (suc j) ≡ has w j
unfolding has
double_later w x j h = ap (λ (v : ℕ). has v j) (half w x h)

-- ---- one digit more, which is the highest
half_lt : (k w : ℕ) → w < 2 ^ suc k → w / 2 < 2 ^ k
half_lt k w h = omega (arith, pow-succ' 2 k)

pub add_has : (s w j : ℕ) → w < 2 ^ s → has (w + 2 ^ s) j ≡ has w j || eqb j s
unfolding has
add_has zero w zero h = ap (λ (v : ℕ). has (v + 1) zero) z ∙ sym (ap (λ (v : ℕ). has v zero || eqb 0 0) z)
  where
    z : w ≡ 0
    z = omega arith
add_has zero w (suc j) h = rw eqb-suc-zero (ap (λ (v : ℕ). has v j) e ∙ sym (or-false (has (w / 2) j)))
  where
    e : (w + 1) / 2 ≡ w / 2
    e = omega arith
add_has (suc s) w zero h = rw eqb-zero-suc (ap (λ (v : ℕ). eqb v 1) e ∙ sym (or-false (eqb (w % 2) 1)))
  where
    e : (w + 2 ^ suc s) % 2 ≡ w % 2
    e = omega (arith, pow-succ' 2 s)
add_has (suc s) w (suc j) h = rw eqb-suc-suc (ap (λ (v : ℕ). has v j) e ∙ add_has s (w / 2) j (half_lt s w h))
  where
    e : (w + 2 ^ suc s) / 2 ≡ w / 2 + 2 ^ s
    e = omega (arith, pow-succ' 2 s)

pub add_small : (s w : ℕ) → w < 2 ^ s → w + 2 ^ s < 2 ^ suc s
add_small s w h = omega (arith, pow-succ' 2 s)

-- ---- the lowest place
-- of the places of w, which lie below k, t is the lowest
record Lowest (k w t : ℕ) : Type 0 where
  pub inside : has w t ≡ true
  pub small : t < k
  pub power : 2 ^ t ≤ w
  pub least : (j : ℕ) → has w j ≡ true → t ≤ j
  pub others : (j : ℕ) → has (w - 2 ^ t) j ≡ has w j && not (eqb j t)

module _ (k w : ℕ) where
  lowest_odd : w % 2 ≡ 1 → Lowest (suc k) w 0
  unfolding has
  lowest_odd e = record { inside = odd; small = omega arith; power = omega arith; least = λ j f. omega arith; others = others }
    where
      odd : eqb (w % 2) 1 ≡ true
      odd = eq-eqb (w % 2) 1 e

      even : (w - 1) % 2 ≡ 0
      even = omega arith

      halved : (w - 1) / 2 ≡ w / 2
      halved = omega arith

      others : (j : ℕ) → has (w - 1) j ≡ has w j && not (eqb j 0)
      others zero = rw (even, odd)
      others (suc j) = rw (eqb-suc-zero, halved) (sym (and-true (has (w / 2) j)))

  -- what the half has, one place up
  lowest_even : (t : ℕ) → w % 2 ≡ 0 → Lowest k (w / 2) t → Lowest (suc k) w (suc t)
  unfolding has
  lowest_even t e l =
      record {
        inside = l.inside;
        small = omega (arith, l.small);
        power = omega (arith, pow-succ' 2 t, l.power);
        least = least;
        others = others;
      }
    where
      least : (j : ℕ) → has w j ≡ true → suc t ≤ j
      least zero f = absurd (omega (arith, e, eqb-true (w % 2) 1 f))
      least (suc j) f = omega (arith, l.least j f)

      even : (w - 2 ^ suc t) % 2 ≡ 0
      even = omega (arith, pow-succ' 2 t)

      halved : (w - 2 ^ suc t) / 2 ≡ w / 2 - 2 ^ t
      halved = omega (arith, pow-succ' 2 t)

      others : (j : ℕ) → has (w - 2 ^ suc t) j ≡ has w j && not (eqb j (suc t))
      others zero = rw (eqb-zero-suc, even, e)
      others (suc j) = rw (eqb-suc-suc, halved) (l.others j)

lowest : (k w : ℕ) → 0 < w → w < 2 ^ k → Lowest k w (count_trailing_zeros k w)
unfolding count_trailing_zeros
lowest zero w h l = absurd (omega arith)
lowest (suc k) w h l = go (w % 2) refl (λ (e : w % 2 ≡ 0). lowest k (w / 2) (omega arith) (half_lt k w l))
  where
    go : (r : ℕ) → w % 2 ≡ r → (w % 2 ≡ 0 → Lowest k (w / 2) (count_trailing_zeros k (w / 2)))
        → Lowest (suc k) w (under r (count_trailing_zeros k (w / 2)))
    go zero e ih = lowest_even k w (count_trailing_zeros k (w / 2)) e (ih e)
    go (suc r) e ih = lowest_odd k w (omega arith)

-- ---- the first place of a word, and the rest
module _ (w : ℕ) (h : 0 < w) (l : w < 2 ^ 64) where
  pub first_has : has w (first_of w) ≡ true
  first_has = (lowest 64 w h l).inside

  pub first_small : first_of w < 64
  first_small = (lowest 64 w h l).small

  pub first_le : 2 ^ first_of w ≤ w
  first_le = (lowest 64 w h l).power

  pub first_least : (j : ℕ) → has w j ≡ true → first_of w ≤ j
  first_least = (lowest 64 w h l).least

  pub rest_less : rest_of w < w
  rest_less = omega (arith, pow_pos (first_of w))

  pub rest_has : (j : ℕ) → has (rest_of w) j ≡ has w j && not (eqb j (first_of w))
  rest_has = (lowest 64 w h l).others

-- ---- two sets, digit by digit
module _
    (op f : ℕ → ℕ → ℕ) (g : Bool → Bool → Bool) (step : (a b : ℕ) → op a b ≡ op (a / 2) (b / 2) * 2 + f (a % 2) (b % 2))
    (small : (x y : ℕ) → x < 2 → y < 2 → f x y < 2) (told : (x y : ℕ) → x < 2 → y < 2 → eqb (f x y) 1 ≡ g (eqb x 1) (eqb y 1))
  where
    each_has : (a b s : ℕ) → has (op a b) s ≡ g (has a s) (has b s)
    unfolding has
    each_has a b zero = ap (λ (x : ℕ). eqb x 1) low ∙ told (a % 2) (b % 2) (omega arith) (omega arith)
      where
        low : op a b % 2 ≡ f (a % 2) (b % 2)
        low = omega (arith, step a b, small (a % 2) (b % 2) (omega arith) (omega arith))
    each_has a b (suc s) = ap (λ (w : ℕ). has w s) high ∙ each_has (a / 2) (b / 2) s
      where
        high : op a b / 2 ≡ op (a / 2) (b / 2)
        high = omega (arith, step a b, small (a % 2) (b % 2) (omega arith) (omega arith))

pub meet_has : (a b s : ℕ) → has (bit_and a b) s ≡ has a s && has b s
meet_has = each_has bit_and min ◌&&◌ and_step small told
  where
    small : (x y : ℕ) → x < 2 → y < 2 → min x y < 2
    small x y h k = omega (arith, min-le_left x y)

    told : (x y : ℕ) → x < 2 → y < 2 → eqb (min x y) 1 ≡ eqb x 1 && eqb y 1
    told zero zero h k = refl
    told zero (suc zero) h k = refl
    told (suc zero) zero h k = refl
    told (suc zero) (suc zero) h k = refl
    told (suc (suc x)) y h k = absurd (omega arith)
    told zero (suc (suc y)) h k = absurd (omega arith)
    told (suc zero) (suc (suc y)) h k = absurd (omega arith)

pub union_has : (a b s : ℕ) → has (bit_or a b) s ≡ has a s || has b s
union_has = each_has bit_or max ◌||◌ or_step small told
  where
    small : (x y : ℕ) → x < 2 → y < 2 → max x y < 2
    small x y h k = let m : max x y ≤ 1 = max-le (omega arith) (omega arith) in omega arith

    told : (x y : ℕ) → x < 2 → y < 2 → eqb (max x y) 1 ≡ eqb x 1 || eqb y 1
    told zero zero h k = refl
    told zero (suc zero) h k = refl
    told (suc zero) zero h k = refl
    told (suc zero) (suc zero) h k = refl
    told (suc (suc x)) y h k = absurd (omega arith)
    told zero (suc (suc y)) h k = absurd (omega arith)
    told (suc zero) (suc (suc y)) h k = absurd (omega arith)

-- ---- a set whose places are all in another
digit_le : (x y : ℕ) → x < 2 → (eqb x 1 ≡ true → eqb y 1 ≡ true) → x ≤ y
digit_le zero y h f = omega arith
digit_le (suc zero) y h f = omega (arith, eqb-true y 1 (f refl))
digit_le (suc (suc x)) y h f = absurd (omega arith)

low_le : (u w : ℕ) → ((t : ℕ) → has w t ≡ true → has u t ≡ true) → w % 2 ≤ u % 2
unfolding has
low_le u w h = digit_le (w % 2) (u % 2) (omega arith) (h 0)

halves : (u w : ℕ) → ((t : ℕ) → has w t ≡ true → has u t ≡ true) → (t : ℕ) → has (w / 2) t ≡ true → has (u / 2) t ≡ true
unfolding has
halves u w h t = h (suc t)

pub subset_le : (u w : ℕ) → ((t : ℕ) → has w t ≡ true → has u t ≡ true) → w ≤ u
subset_le u w =
    bin_ind (λ (n : ℕ). (u : ℕ) → ((t : ℕ) → has n t ≡ true → has u t ≡ true) → n ≤ u)
    (λ u h. omega arith) (λ n ih u h. omega (arith, ih (u / 2) (halves u n h), low_le u n h)) w u

pub minus_has : (u w : ℕ) → ((t : ℕ) → has w t ≡ true → has u t ≡ true) → (s : ℕ) → has (u - w) s ≡ has u s && not (has w s)
unfolding has
minus_has u w h zero = ap (λ (x : ℕ). eqb x 1) low ∙ told (u % 2) (w % 2) (omega arith) (low_le u w h)
  where
    low : (u - w) % 2 ≡ u % 2 - w % 2
    low = omega (arith, subset_le (u / 2) (w / 2) (halves u w h), low_le u w h)

    told : (x y : ℕ) → x < 2 → y ≤ x → eqb (x - y) 1 ≡ eqb x 1 && not (eqb y 1)
    told zero zero k l = refl
    told zero (suc y) k l = absurd (omega arith)
    told (suc zero) zero k l = refl
    told (suc zero) (suc zero) k l = refl
    told (suc zero) (suc (suc y)) k l = absurd (omega arith)
    told (suc (suc x)) y k l = absurd (omega arith)
minus_has u w h (suc s) = ap (λ (x : ℕ). has x s) high ∙ minus_has (u / 2) (w / 2) (halves u w h) s
  where
    high : (u - w) / 2 ≡ u / 2 - w / 2
    high = omega (arith, subset_le (u / 2) (w / 2) (halves u w h), low_le u w h)

-- ---- the places below n, and n alone
pub below_has : (n s : ℕ) → has (2 ^ n - 1) s ≡ ltb s n
unfolding has
below_has zero s = none_has s ∙ sym (le-ltb s 0 (omega arith))
below_has (suc n) zero = ap (λ (x : ℕ). eqb x 1) low ∙ sym (lt-ltb 0 (suc n) (omega arith))
  where
    low : (2 ^ suc n - 1) % 2 ≡ 1
    low = omega (arith, pow-succ' 2 n, pow_pos n)
below_has (suc n) (suc s) = ap (λ (x : ℕ). has x s) high ∙ below_has n s ∙ sym (leb-suc-suc (suc s) n)
  where
    high : (2 ^ suc n - 1) / 2 ≡ 2 ^ n - 1
    high = omega (arith, pow-succ' 2 n, pow_pos n)

pub only_has : (n s : ℕ) → has (2 ^ n) s ≡ eqb s n
only_has n s = ap (λ (w : ℕ). has w s) (sym (zero-add (2 ^ n))) ∙ add_has n 0 s (pow_pos n) ∙ ap (λ (b : Bool). b || eqb s n) (none_has s)

-- without its lowest digit, which borrowing 1 turns round with those below it
lowest_off : (k w : ℕ) → 0 < w → w < 2 ^ k → bit_and w (w - 1) ≡ w - 2 ^ count_trailing_zeros k w
unfolding count_trailing_zeros
lowest_off zero w h l = absurd (omega arith)
lowest_off (suc k) w h l = go (w % 2) refl (λ (e : w % 2 ≡ 0). lowest_off k (w / 2) (omega arith) (half_lt k w l))
  where
    go : (r : ℕ) → w % 2 ≡ r → (w % 2 ≡ 0 → bit_and (w / 2) (w / 2 - 1) ≡ w / 2 - 2 ^ count_trailing_zeros k (w / 2))
        → bit_and w (w - 1) ≡ w - 2 ^ under r (count_trailing_zeros k (w / 2))
    go zero e ih =
        let b : (w - 1) / 2 ≡ w / 2 - 1 = omega arith in
        let t = count_trailing_zeros k (w / 2) in
        omega (arith, and_step w (w - 1), ap (bit_and (w / 2)) b ∙ ih e, min-le_left (w % 2) ((w - 1) % 2), pow-succ' 2 t)
    go (suc r) e ih =
        let b : (w - 1) / 2 ≡ w / 2 = omega arith in
        omega (arith, and_step w (w - 1), ap (bit_and (w / 2)) b ∙ and_self (w / 2), min-le_right (w % 2) ((w - 1) % 2))

pub rest_word : (w : ℕ) → 0 < w → w < 2 ^ 64 → bit_and w (w - 1) ≡ rest_of w
rest_word w h l = lowest_off 64 w h l

-- ---- a place taken out of a set
pub has_some : (w s : ℕ) → has w s ≡ true → 0 < w
has_some zero s e = absurd (true≢false (sym e ∙ none_has s))
has_some (suc w) s e = omega arith

module _ {w s v : ℕ} (t : Taken w s v) where
  pub taken_in : has w s ≡ true
  taken_in = subst (λ (j : ℕ). has w j ≡ true) (sym t.first) (first_has w t.some t.word)

  pub taken_small : s < 64
  taken_small = omega (arith, t.first, first_small w t.some t.word)

  pub taken_least : (j : ℕ) → has w j ≡ true → s ≤ j
  taken_least j e = omega (arith, t.first, first_least w t.some t.word j e)

  pub taken_less : v < w
  taken_less = omega (arith, t.rest, rest_less w t.some t.word)

  pub taken_rest : (j : ℕ) → has v j ≡ has w j && not (eqb j s)
  taken_rest j =
      ap (λ (x : ℕ). has x j) t.rest ∙ rest_has w t.some t.word j ∙ ap (λ (x : ℕ). has w j && not (eqb j x)) (sym t.first)

  -- a place of the set is the one that is taken, or is left
  pub taken_or : (j : ℕ) → has w j ≡ true → (j ≡ s) ⊎ (has v j ≡ true)
  taken_or j e = go (eqb j s) refl
    where
      go : (b : Bool) → eqb j s ≡ b → (j ≡ s) ⊎ (has v j ≡ true)
      go true f = inl (eqb-true j s f)
      go false f = inr (taken_rest j ∙ ap₂ (λ (a b : Bool). a && not b) e f)

  pub taken_left : (j : ℕ) → has v j ≡ true → has w j ≡ true
  taken_left j e = ((and-eq-true_iff (has w j) (not (eqb j s))).0 (sym (taken_rest j) ∙ e)).0

pub ruleset firsts = (first_has, first_least, first_small, has_some)

-- ---- a loop over a set
pub record Walk (I D Q : ℕ → Type 0) (w : ℕ) : Type 0 where
  pub inside : (t : ℕ) → has w t ≡ true → I t
  pub left : (t : ℕ) → D t → (has w t ≡ true) ⊎ Q t

pub walk_starts : {Q : ℕ → Type 0} (w : ℕ) → Walk (λ t. has w t ≡ true) (λ t. has w t ≡ true) Q w
walk_starts w = record { inside = λ t e. e; left = λ t e. inl e }

module _ {I D Q : ℕ → Type 0} {w : ℕ} (g : Walk I D Q w) where
  pub walk_end : w ≡ 0 → (t : ℕ) → D t → Q t
  walk_end e t d = ⊎_elim (λ f. absurd (true≢false (sym f ∙ ap (λ (i : ℕ). has i t) e ∙ none_has t))) (λ q. q) (g.left t d)

  module _ {s v : ℕ} (k : Taken w s v) where
    pub walk_first : I s
    walk_first = g.inside s (taken_in k)

    -- the place taken is done, and what Q says of the others now is P
    pub walk_on : {P : ℕ → Type 0} → ((t : ℕ) → Q t → P t) → (D s → P s) → Walk I D P v
    walk_on {P} f q = record {
      inside = λ t e. g.inside t (taken_left k t e);
      left = λ t d. ⊎_elim
          (λ e. ⊎_elim (λ p. inr (subst P (sym p) (q (subst D p d)))) inl (taken_or k t e)) (λ p. inr (f t p)) (g.left t d);
    }
