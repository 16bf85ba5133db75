-- Laws of tokens at the code's positions.
--   stretch_more, -stop, -end (stretch_steps)   a gap or a run, a byte at a time; run-within: it ends within the text
--   runs_blank, -gap, -first     what opens a text does not count, and then comes the first run
--   digit_low, -high             a digit is 48 to 57
--   worth_none, -more, -stop (worth_steps), -below   what digits are worth, a byte at a time; value-below, plain-below: which is below a power of ten
--   unsigned_is, minus_is        a run's token, from what its digits are worth
--   next_is, next_end            what stands at or after a position
--   tokens_found, tokens_end     what `next_at` finds from a position on is the head of the tokens from there, and the rest stands after it
--   Met, found_token, end_token   and the other way round: the head of these tokens is what it finds
-- Assumes nothing.
-- ---- gaps and runs, a byte at a time
use mathlib.Core.Path.{◌≡◌, refl, sym, ap, ◌∙◌, subst}
use mathlib.Core.Bool.{Bool, true, false, cond, not}
use mathlib.Core.List.{List, [], ◌∷◌, map}
use Prim.Native.Nat.{ℕ, suc, ◌+◌, ◌-◌, ◌*◌, ◌^◌, ◌≤◌, ◌<◌, zero-le}
use native.Mathlib.Numerals.{add-one}
use native.Mathlib.Omega.{arith}
use native.Mathlib.Nat.{pow-zero, pow-succ', mul_assoc, one-mul, pow-le-pow_right, lt_of_lt_of_le}
use borrow.Author.Tests.{not-true, leb-true, lt-ltb, le-ltb, ltb-true, ltb-false}
use lib.IntN.{pos, neg_ℤ}
use lib.ListN.{length, take, drop, get_or, drop_of_length-le, length-drop}
use lib.Dec.{T, ltb, leb, eqb, lit<}
use lib.Seq.{drop-cons, drop-drop}
use Rattle.std.proofs.Common.{Option, Some, None}
use Rattle.text.specs.Tokens.{is_blank, opens, join, runs, is_digit, all_digits, value}
use Rattle.text.specs.Tokens.{Token, no_needless_zero, is_plain, unsigned, after_minus, token_of, tokens}
use Rattle.text.specs.Positions.{belongs, stretch, gap, run, next_from, next_at, plain_worth}

module _ (t : Bool) (s : List ℕ) (i : ℕ) where
  pub stretch_more : i < length s → belongs t (get_or s i 0) ≡ true → stretch t (drop i s) ≡ stretch t (drop (i + 1) s) + 1
  unfolding stretch
  stretch_more h e = rw (drop-cons s i 0 h) (rw e (rw (add-one i, add-one (stretch t (drop (suc i) s)))))

  pub stretch_stop : i < length s → belongs t (get_or s i 0) ≡ false → stretch t (drop i s) ≡ 0
  unfolding stretch
  stretch_stop h e = rw (drop-cons s i 0 h) (rw e)

  pub stretch_end : length s ≤ i → stretch t (drop i s) ≡ 0
  unfolding stretch
  stretch_end h = rw (drop_of_length-le s h)

pub ruleset stretch_steps = (stretch_more, stretch_stop, stretch_end)

pub run_le : (s : List ℕ) → run s ≤ length s
unfolding stretch
run_le [] = zero-le
run_le (b ∷ s) = below (not (is_blank b)) (run_le s)
  where
    below : (t : Bool) → run s ≤ length s → cond t (suc (run s)) 0 ≤ suc (length s)
    below true h = omega arith
    below false h = zero-le

pub run_within : (s : List ℕ) (a : ℕ) → a ≤ length s → a + run (drop a s) ≤ length s
run_within s a h = omega (arith, run_le (drop a s), length-drop a s)

run_closed : (s : List ℕ) → opens s ≡ false → run s ≡ 0
unfolding stretch
run_closed [] h = refl
run_closed (b ∷ s) h = rw h

-- ---- runs: what opens a text does not count, and then comes the first run
pub runs_blank : (b : ℕ) (s : List ℕ) → is_blank b ≡ true → runs (b ∷ s) ≡ runs s
unfolding runs
runs_blank b s e = rw e

gap_blank : (b : ℕ) (s : List ℕ) → is_blank b ≡ true → gap (b ∷ s) ≡ suc (gap s)
unfolding stretch
gap_blank b s e = rw e

gap_other : (b : ℕ) (s : List ℕ) → is_blank b ≡ false → gap (b ∷ s) ≡ 0
unfolding stretch
gap_other b s e = rw e

run_other : (b : ℕ) (s : List ℕ) → is_blank b ≡ false → run (b ∷ s) ≡ suc (run s)
unfolding stretch
run_other b s e = rw e

runs_other : (b : ℕ) (s : List ℕ) → is_blank b ≡ false → runs (b ∷ s) ≡ join (opens s) b (runs s)
unfolding runs
runs_other b s e = rw e

pub runs_gap : (s : List ℕ) → runs s ≡ runs (drop (gap s) s)
unfolding stretch
runs_gap [] = refl
runs_gap (b ∷ s) = at (is_blank b) refl (runs_gap s)
  where
    at : (t : Bool) → is_blank b ≡ t → runs s ≡ runs (drop (gap s) s) → runs (b ∷ s) ≡ runs (drop (gap (b ∷ s)) (b ∷ s))
    at true e h = rw (gap_blank b s e, runs_blank b s e) h
    at false e h = rw (gap_other b s e)

pub runs_first : (s : List ℕ) → opens s ≡ true → runs s ≡ take (run s) s ∷ runs (drop (run s) s)
unfolding runs stretch
runs_first [] h = absurd (subst T (sym h) tt)
runs_first (b ∷ s) h = rw (runs_other b s e, run_other b s e) (at (opens s) refl (runs_first s))
  where
    e : is_blank b ≡ false
    e = not-true (is_blank b) h

    at : (t : Bool) → opens s ≡ t → (opens s ≡ true → runs s ≡ take (run s) s ∷ runs (drop (run s) s))
        → join (opens s) b (runs s) ≡ (b ∷ take (run s) s) ∷ runs (drop (run s) s)
    at true k f = rw (k, f k)
    at false k f = rw (k, run_closed s k)

-- ---- digits, a byte at a time
pub digit_low : (b : ℕ) → is_digit b ≡ true → 48 ≤ b
digit_low b h = at (leb 48 b) refl
  where
    at : (t : Bool) → leb 48 b ≡ t → 48 ≤ b
    at true e = leb-true 48 b e
    at false e = absurd (subst T (sym (rw e at h)) tt)

pub digit_high : (b : ℕ) → is_digit b ≡ true → b ≤ 57
digit_high b h = at (leb 48 b) refl
  where
    at : (t : Bool) → leb 48 b ≡ t → b ≤ 57
    at true e = leb-true b 57 (rw e at h)
    at false e = absurd (subst T (sym (rw e at h)) tt)

pub worth_below : (i v b : ℕ) → v < 10 ^ i → is_digit b ≡ true → v * 10 + (b - 48) < 10 ^ (i + 1)
worth_below i v b h d = rw (add-one i, pow-succ' 10 i) (omega (arith, digit_high b d, digit_low b d))

pub worth_none : (w : List ℕ) (i v : ℕ) → length w ≤ i → cond (all_digits (drop i w)) (Some (value v (drop i w))) None ≡ Some v
unfolding all_digits value
worth_none w i v h = rw (drop_of_length-le w h)

pub worth_more : (w : List ℕ) (i v : ℕ) → i < length w → is_digit (get_or w i 0) ≡ true
    → cond (all_digits (drop i w)) (Some (value v (drop i w))) None
    ≡ cond (all_digits (drop (i + 1) w)) (Some (value (v * 10 + (get_or w i 0 - 48)) (drop (i + 1) w))) None
unfolding all_digits value
worth_more w i v h e = rw (drop-cons w i 0 h, add-one i) (rw e)

pub worth_stop : (w : List ℕ) (i v : ℕ) → i < length w → is_digit (get_or w i 0) ≡ false
    → cond (all_digits (drop i w)) (Some (value v (drop i w))) None ≡ None
unfolding all_digits value
worth_stop w i v h e = rw (drop-cons w i 0 h) (rw e)

pub ruleset worth_steps = (worth_none, worth_more, worth_stop)

-- what k digits after those worth a are worth
pub value_below : (w : List ℕ) (a p : ℕ) → all_digits w ≡ true → a < p → value a w < p * 10 ^ length w
unfolding all_digits value
value_below [] a p h k = rw (pow-zero 10) (omega arith)
value_below (b ∷ w) a p h k = at (is_digit b) refl (value_below w (a * 10 + (b - 48)) (p * 10))
  where
    at : (t : Bool) → is_digit b ≡ t
        → (all_digits w ≡ true → a * 10 + (b - 48) < p * 10 → value (a * 10 + (b - 48)) w < p * 10 * 10 ^ length w)
        → value (a * 10 + (b - 48)) w < p * 10 ^ suc (length w)
    at true e f =
        let m : p * 10 * 10 ^ length w ≡ p * 10 ^ suc (length w) = rw (pow-succ' 10 (length w), mul_assoc p 10 (10 ^ length w)) refl in
        subst (λ (n : ℕ). value (a * 10 + (b - 48)) w < n) m (f (rw e at h) (omega (arith, digit_high b e, digit_low b e)))
    at false e f = absurd (subst T (sym (rw e at h)) tt)

-- ---- what digits are worth
same_digits : {a b : ℕ} → Some a ≡ Some b → a ≡ b
same_digits h = cc

never : {a : ℕ} → Some a ≡ None → ⊥
never h = let z : ◌≡◌ {A = ℕ} 0 1 = cc in omega arith

-- what is worth something is below 10 ^ 10
pub plain_below : (w : List ℕ) (v : ℕ) → plain_worth w ≡ Some v → v < 10 ^ 12
plain_below w v h = at (leb (length w) 10) (no_needless_zero w) (all_digits w) refl refl refl
  where
    at : (l n d : Bool) → leb (length w) 10 ≡ l → no_needless_zero w ≡ n → all_digits w ≡ d → v < 10 ^ 12
    at true true true e₁ e₂ e₃ =
        let s : v ≡ value 0 w = same_digits (sym h ∙ (rw (e₁, e₂, e₃))) in
        rw s
        (lt_of_lt_of_le (value_below w 0 1 e₃ (lit< tt))
        (rw (one-mul (10 ^ length w)) (pow-le-pow_right {n = 10} (lit< tt) {i = length w} {j = 12} (omega (arith, leb-true (length w) 10 e₁)))))
    at true true false e₁ e₂ e₃ = absurd (never (sym h ∙ (rw (e₁, e₂, e₃))))
    at true false d e₁ e₂ e₃ = absurd (never (sym h ∙ (rw (e₁, e₂))))
    at false n d e₁ e₂ e₃ = absurd (never (sym h ∙ (rw e₁)))

-- a run's token, from what its digits are worth
pub unsigned_is : (w : List ℕ) (v : ℕ) → plain_worth w ≡ Some v → unsigned w ≡ Some (pos v)
unsigned_is w v h = at (is_plain w) refl
  where
    at : (t : Bool) → is_plain w ≡ t → unsigned w ≡ Some (pos v)
    at true e = rw e (rw (same_digits (sym (rw e at h))))
    at false e = absurd (never (sym (rw e at h)))

pub minus_is : (w : List ℕ) (v : ℕ) → plain_worth w ≡ Some v → after_minus w ≡ cond (not (eqb v 0)) (Some (neg_ℤ (pos v))) None
minus_is w v h = at (is_plain w) refl
  where
    at : (t : Bool) → is_plain w ≡ t → after_minus w ≡ cond (not (eqb v 0)) (Some (neg_ℤ (pos v))) None
    at true e = rw e (rw (same_digits (sym (rw e at h))))
    at false e = absurd (never (sym (rw e at h)))

-- ---- what stands at or after a position
pub next_is : (s : List ℕ) (at a e : ℕ) (t : Token) → a ≡ at + gap (drop at s) → a < length s → e ≡ a + run (drop a s)
    → t ≡ token_of (take (e - a) (drop a s)) → next_at s at ≡ Some (t, e)
next_is s at a e t p q r h =
    let k : e - a ≡ run (drop a s) = omega arith in
    ap (next_from s) (sym p) ∙ (rw (lt-ltb a (length s) q, sym (rw k at h)) (ap (λ (k : ℕ). Some (t, k)) (sym r)))

pub next_end : (s : List ℕ) (at a : ℕ) → a ≡ at + gap (drop at s) → length s ≤ a → next_at s at ≡ None
next_end s at a p q = ap (next_from s) (sym p) ∙ (rw (le-ltb a (length s) q))

gap_opens : (s : List ℕ) → gap s < length s → opens (drop (gap s) s) ≡ true
unfolding stretch
gap_opens [] h = absurd (omega arith)
gap_opens (b ∷ s) h = at (is_blank b) refl (gap_opens s)
  where
    at : (t : Bool) → is_blank b ≡ t → (gap s < length s → opens (drop (gap s) s) ≡ true) → opens (drop (gap (b ∷ s)) (b ∷ s)) ≡ true
    at true e f = let g = gap_blank b s e in rw g (f (omega arith))
    at false e f = rw (gap_other b s e) (rw e)

never_end : {x : Token × ℕ} → Some x ≡ None → ⊥
never_end h = let z : ◌≡◌ {A = ℕ} 0 1 = cc in omega arith

never_some : {t : Token} {ts : List Token} → [] ≡ t ∷ ts → ⊥
never_some {t} {ts} h = let z : 0 ≡ suc (length ts) = ap length h in omega arith

-- the token t stands at or after a position, and behind it stand those of ts
pub record Met (s : List ℕ) (at : ℕ) (t : Token) (ts : List Token) : Type 0 where
  pub end : ℕ
  pub found : next_at s at ≡ Some (t, end)
  pub rest : tokens (drop end s) ≡ ts

-- the token at a position is the first of those from there, and the others follow it
module _ (s : List ℕ) (at : ℕ) where
  start : ℕ
  start = at + gap (drop at s)

  runs_at : runs (drop at s) ≡ runs (drop start s)
  unfolding start
  runs_at = runs_gap (drop at s) ∙ ap runs (drop-drop (gap (drop at s)) at s)

  start_opens : start < length s → opens (drop start s) ≡ true
  unfolding start
  start_opens h =
      subst (λ (l : List ℕ). opens l ≡ true) (drop-drop (gap (drop at s)) at s)
      (gap_opens (drop at s) (omega (arith, length-drop at s)))

  first : Token
  first = token_of (take (run (drop start s)) (drop start s))

  stop : ℕ
  stop = start + run (drop start s)

  tokens_some : start < length s → tokens (drop at s) ≡ first ∷ tokens (drop stop s)
  unfolding first stop
  tokens_some h =
      ap (map token_of) (runs_at ∙ runs_first (drop start s) (start_opens h)) ∙
      ap (λ (l : List ℕ). token_of (take (run (drop start s)) (drop start s)) ∷ tokens l) (drop-drop (run (drop start s)) start s)

  tokens_none : length s ≤ start → tokens (drop at s) ≡ []
  unfolding runs
  tokens_none h = ap (map token_of) (runs_at ∙ ap runs (drop_of_length-le s h))

  next_some : start < length s → next_at s at ≡ Some (first, stop)
  unfolding start first stop
  next_some h = rw (lt-ltb (at + gap (drop at s)) (length s) h)

  next_none : length s ≤ start → next_at s at ≡ None
  unfolding start
  next_none h = next_end s at start refl h

  inside : {X : Type 0} → (start < length s → X) → (length s ≤ start → X) → X
  inside {X} f g = by (ltb start (length s)) refl
    where
      by : (t : Bool) → ltb start (length s) ≡ t → X
      by true k = f (ltb-true start (length s) k)
      by false k = g (ltb-false start (length s) k)

  pub tokens_found : (t : Token) (e : ℕ) → next_at s at ≡ Some (t, e) → tokens (drop at s) ≡ t ∷ tokens (drop e s)
  tokens_found t e h =
      inside (λ p. same (sym (next_some p) ∙ h) (tokens_some p)) (λ p. absurd (never_end (sym h ∙ next_none p)))
    where
      same : ◌≡◌ {A = Option (Token × ℕ)} (Some (first, stop)) (Some (t, e)) → tokens (drop at s) ≡ first ∷ tokens (drop stop s)
          → tokens (drop at s) ≡ t ∷ tokens (drop e s)
      same k q =
          let p : ◌≡◌ {A = Token × ℕ} (first, stop) (t, e) = cc in
          rw (ap (λ (x : Token × ℕ). x.0) p, ap (λ (x : Token × ℕ). x.1) p) at q

  pub tokens_end : next_at s at ≡ None → tokens (drop at s) ≡ []
  tokens_end h = inside (λ p. absurd (never_end (sym (next_some p) ∙ h))) (λ p. tokens_none p)

  pub found_token : (t : Token) (ts : List Token) → tokens (drop at s) ≡ t ∷ ts → Met s at t ts
  found_token t ts h = inside (λ p. here p (sym (tokens_some p) ∙ h)) (λ p. absurd (never_some (sym (tokens_none p) ∙ h)))
    where
      here : start < length s → first ∷ tokens (drop stop s) ≡ t ∷ ts → Met s at t ts
      here p k =
          let a : first ≡ t = cc in
          let b : tokens (drop stop s) ≡ ts = cc in
          record { end = stop; found = next_some p ∙ ap (λ (u : Token). Some (u, stop)) a; rest = b }

  pub end_token : tokens (drop at s) ≡ [] → next_at s at ≡ None
  end_token h = inside (λ p. absurd (never_some (sym h ∙ tokens_some p))) (λ p. next_none p)
