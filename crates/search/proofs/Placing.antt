-- From place to place.
--   by_signs              every listed move, by its vectors and their signs
--   by_left               every move, where those of a set and those of the vectors outside it are no better
--   explored-..           what was tried: with a smaller incumbent, with a set of the same places, and with a set that loses a vector
--   before_none, -past, -end   before the first place, behind the place of the incumbent, and behind the last place
--   searched-..           the end at an earlier place, the end of the ranking, the next place, and a set of the same places
--   fresh-..              the vectors that are seen at a place: they were not seen before and change its column
--   unfresh, later_zero   the other vectors that were not seen change no column up to the next place
--   singles_done, pairs_done   the singles of a place are no better, and the pairs from a vector on
--   single_ends           a single that improves this place is the end
--   Pairing h u w z y l p   the loop over the pairs of a place: of the set u the vectors of w are seen here, those of p are to be paired,
--                         and l are left; the incumbent was z and is y
--   pairing-..            how it begins, what is left, where it ends early, what its calls ask for, its next turn, and its end
--   final_step            what no move is better than is the step of the definition
-- Assumes nothing.
use mathlib.Core.Path.{◌≡◌, refl, sym, ◌∙◌, ap, ap₂, subst}
use mathlib.Core.Logic.{◌⊎◌, inl, inr, ⊎_elim}
use mathlib.Core.Bool.{Bool, true, false, not, ◌&&◌, ◌||◌, and-true, and-false, true≢false}
use mathlib.Core.List.{List}
use Prim.Native.Nat.{ℕ, ◌+◌, ◌-◌, ◌*◌, ◌<◌, ◌≤◌}
use native.Mathlib.Nat.{eq-or-lt_of_le}
use native.Mathlib.Omega.{arith}
use borrow.Author.Tests.{ltb-true, lt-ltb, eqb-true, eq-eqb, ne_eqb, not-true, not-false}
use lib.Dec.{ltb, eqb}
use lib.ListN.{length, get_or}
use Rattle.whole.proofs.Tests.{both_true}
use Rattle.problem.specs.Limits.{max_columns}
use Rattle.settling.specs.declared.Move.{Move}
use Rattle.settling.specs.Moves.{single, pair, moves}
use Rattle.settling.specs.Steps.{first_move, first_column, step_at}
use Rattle.settling.proofs.Views.{rows_length}
use Rattle.settling.specs.Verdicts.{Listed}
use Rattle.search.specs.declared.given.Search.{Search}
use Rattle.search.specs.declared.seen.Note.{Note}
use Rattle.search.specs.declared.seen.Place.{Place}
use Rattle.search.specs.declared.seen.Sign.{Sign}
use Rattle.search.specs.declared.seen.Sign.TheVariants.{Plus, Minus}
use Rattle.search.specs.Numbers.{first_pair, span, step_in}
use Rattle.search.specs.Progress.{ZeroBefore, Dominated, NoWorse, Still, Unseen, Explored, Before, Final, Searched}
use Rattle.search.specs.Progress.{Fresh, Decided, Tried, Found, Led, Others, value, alone, both}
use Rattle.search.specs.Searches.{basis_of, better, step_along}
use Rattle.search.specs.Sets.{has, touches, Taken}
use Rattle.search.proofs.Alone.{alone_listed, here_column}
use Rattle.search.proofs.Dominance.{zero_still, still_dominated, none_dominated, dominated_less}
use Rattle.search.proofs.Listings.{Single, Double, listed_cases, listed_pair}
use Rattle.search.proofs.Numbering.{value_is, by_value, pair_is, least_step}
use Rattle.search.proofs.Pairing.{both_up, both_down, no_worse_same, no_worse_then, no_worse_dominated}
use Rattle.search.proofs.Setting.{none_has, minus_has, taken_in, taken_left, taken_rest}

yes_or_no : (t : Bool) → (t ≡ true) ⊎ (t ≡ false)
yes_or_no true = inl refl
yes_or_no false = inr refl

-- ---- the listed moves, by the signs of their vectors
by_signs : (r : ℕ) (P : Move → Type 0) → ((s : ℕ) (x : Sign) → s < r → P (alone s x))
    → ((s : ℕ) (x : Sign) (t : ℕ) (y : Sign) → s < t → t < r → P (pair s (value x) t (value y))) → (o : Move) → Listed o (moves r) → P o
by_signs r P f g o l = ⊎_elim one two (listed_cases r o l)
  where
    one : Single r o → P o
    one c = subst P (sym c.is) (by_value (λ a. P (single c.s a)) (λ x. f c.s x c.inside) c.a c.sign)

    two : Double r o → P o
    two c =
        subst P (sym c.is)
        (by_value (λ a. P (pair c.s a c.t c.b))
        (λ x. by_value (λ b. P (pair c.s (value x) c.t b)) (λ y. g c.s x c.t y c.rising c.inside) c.b c.sign_b) c.a c.sign_a)

module _ (S : Search) where
  -- every move, where the moves of a set are no better
  by_left : (u z : ℕ) → Explored S u z → ((s : ℕ) (x : Sign) → has u s ≡ true → Dominated S z (alone s x))
      → ((s : ℕ) (x : Sign) (t : ℕ) (y : Sign) → s < t → has u s ≡ true → has u t ≡ true → Dominated S z (pair s (value x) t (value y)))
      → (o : Move) → Listed o (moves S.basis.vectors) → Dominated S z o
  by_left u z e f g = by_signs S.basis.vectors (Dominated S z) one two
    where
      one : (s : ℕ) (x : Sign) → s < S.basis.vectors → Dominated S z (alone s x)
      one s x h = ⊎_elim (f s x) (λ n. e (alone s x) (alone_listed S.basis.vectors s x h) (inl n)) (yes_or_no (has u s))

      two : (s : ℕ) (x : Sign) (t : ℕ) (y : Sign) → s < t → t < S.basis.vectors → Dominated S z (pair s (value x) t (value y))
      two s x t y r h =
          ⊎_elim (λ p. ⊎_elim (g s x t y r p) (λ n. old (inr n)) (yes_or_no (has u t))) (λ n. old (inl n)) (yes_or_no (has u s))
        where
          old : (has u s ≡ false) ⊎ (has u t ≡ false) → Dominated S z (pair s (value x) t (value y))
          old = e (pair s (value x) t (value y)) (listed_pair S.basis.vectors s (value x) t (value y) r h (value_is x) (value_is y))

  explored_less : (u z y : ℕ) → y ≤ z → Explored S u z → Explored S u y
  explored_less u z y h e o l a = dominated_less S o z y h (e o l a)

  -- ---- two sets with the same places
  module _ (u w : ℕ) (same : (s : ℕ) → has w s ≡ has u s) where
    unseen_same : (k : ℕ) → Unseen S u k → Unseen S w k
    unseen_same k q = record {
      inside = λ s e. q.inside s (sym (same s) ∙ e);
      zero_before = λ s e. q.zero_before s (sym (same s) ∙ e);
    }

    explored_same : (z : ℕ) → Explored S u z → Explored S w z
    explored_same z q o l a = q o l (⊎_elim (λ e. inl (sym (same o.s) ∙ e)) (λ e. inr (sym (same o.t) ∙ e)) a)

    before_same : (k z : ℕ) → Before S u k z → Before S w k z
    before_same k z q = record { incumbent = q.incumbent; unseen = unseen_same k q.unseen; explored = explored_same z q.explored }

    pub searched_same : (k z : ℕ) → Searched S u k z → Searched S w k z
    searched_same k z q = ⊎_elim inl (λ p. inr (before_same k z p)) q

  -- ---- the first place, and the end
  pub before_none : (u : ℕ) → ((s : ℕ) → has u s ≡ ltb s S.basis.vectors) → Before S u 0 (length S.order.now * span)
  before_none u e =
      record {
        incumbent = record { incumbent = inl refl; late = λ k h l. omega arith };
        unseen = record {
          inside = λ s h. ltb-true s S.basis.vectors (sym (e s) ∙ h);
          zero_before = λ s h. record { each = λ x a g. absurd (omega arith) };
        };
        explored = λ o l a. absurd (⊎_elim (λ h. outside o.s (inside o l).0 h) (λ h. outside o.t (inside o l).1 h) a);
      }
    where
      outside : (s : ℕ) → s < S.basis.vectors → has u s ≡ false → ⊥
      outside s h f = true≢false (sym (lt-ltb s S.basis.vectors h) ∙ sym (e s) ∙ f)

      inside : (o : Move) → Listed o (moves S.basis.vectors) → (o.s < S.basis.vectors) × (o.t < S.basis.vectors)
      inside =
          by_signs S.basis.vectors (λ o. (o.s < S.basis.vectors) × (o.t < S.basis.vectors))
          (λ s x h. (h, h)) (λ s x t y r h. (omega arith, h))

  module _ (u k z : ℕ) (q : Before S u k z) where
    -- every move, where those that change no column so far are no better
    by_still : ((o : Move) → Still S o k → Dominated S z o)
        → (o : Move) → Listed o (moves S.basis.vectors) → Dominated S z o
    by_still f =
        by_left u z q.explored (λ s x e. still (alone s x) e e) (λ s x t y r e g. still (pair s (value x) t (value y)) e g)
      where
        still : (o : Move) → has u o.s ≡ true → has u o.t ≡ true → Dominated S z o
        still o e g = f o (zero_still S o k (q.unseen.zero_before o.s e) (q.unseen.zero_before o.t g))

    before_past : z < k * span → Final S z
    before_past h = record {
      incumbent = q.incumbent.incumbent;
      all = by_still (λ o e. still_dominated S o k z e (omega arith));
    }

    before_end : length S.order.now ≤ k → Final S z
    before_end h = record { incumbent = q.incumbent.incumbent; all = by_still (λ o e. none_dominated S o k z e h) }

  -- ---- a set loses a vector
  explored_on : (u w s z : ℕ) → ((t : ℕ) → has w t ≡ has u t && not (eqb t s)) → Explored S u z
      → ((x : Sign) → Dominated S z (alone s x))
      → ((t : ℕ) → has w t ≡ true → (x y : Sign) → Dominated S z (both s x t y)) → Explored S w z
  explored_on u w s z w_is e f g o l = by_signs S.basis.vectors Done one two o l
    where
      Done : Move → Type 0
      Done o = (has w o.s ≡ false) ⊎ (has w o.t ≡ false) → Dominated S z o

      -- what is in u and not in w is s
      lost : (t : ℕ) → has u t ≡ true → has w t ≡ false → t ≡ s
      lost t h k = eqb-true t s (not-false (eqb t s) (sym (ap (λ (c : Bool). c && not (eqb t s)) h) ∙ sym (w_is t) ∙ k))

      kept : (t : ℕ) → has u t ≡ true → (t ≡ s → ⊥) → has w t ≡ true
      kept t h d = w_is t ∙ ap₂ (λ (c e : Bool). c && not e) h (ne_eqb t s d)

      one : (t : ℕ) (x : Sign) → t < S.basis.vectors → Done (alone t x)
      one t x h a = ⊎_elim now (λ n. e (alone t x) (alone_listed S.basis.vectors t x h) (inl n)) (yes_or_no (has u t))
        where
          now : has u t ≡ true → Dominated S z (alone t x)
          now p =
              subst (λ (c : ℕ). Dominated S z (alone c x))
              (sym (lost t p (⊎_elim {C = has w t ≡ false} (λ j. j) (λ j. j) a))) (f x)

      two : (c : ℕ) (x : Sign) (t : ℕ) (y : Sign) → c < t → t < S.basis.vectors → Done (pair c (value x) t (value y))
      two c x t y r h a =
          ⊎_elim (λ p. ⊎_elim (λ q. ⊎_elim (first q) (second p q) a) (λ n. old (inr n)) (yes_or_no (has u t)))
          (λ n. old (inl n)) (yes_or_no (has u c))
        where
          old : (has u c ≡ false) ⊎ (has u t ≡ false) → Dominated S z (pair c (value x) t (value y))
          old = e (pair c (value x) t (value y)) (listed_pair S.basis.vectors c (value x) t (value y) r h (value_is x) (value_is y))

          first : has u t ≡ true → has w c ≡ false → Dominated S z (pair c (value x) t (value y))
          first q n = ⊎_elim (λ i. at (lost c i n)) (λ i. old (inl i)) (yes_or_no (has u c))
            where
              at : c ≡ s → Dominated S z (pair c (value x) t (value y))
              at i =
                  subst (Dominated S z) (ap (λ (d : ℕ). both d x t y) (sym i) ∙ both_up c x t y r)
                  (g t (kept t q (λ j. omega arith)) x y)

          second : has u c ≡ true → has u t ≡ true → has w t ≡ false → Dominated S z (pair c (value x) t (value y))
          second p q n =
              let i = lost t q n in
              subst (Dominated S z) (ap (λ (d : ℕ). both d y c x) (sym i) ∙ both_down t y c x r)
              (g c (kept c p (λ j. omega arith)) y x)

-- ---- the vectors that are seen at a place
module _ {h : Place} {u w : ℕ} (f : Fresh h u w) where
  pub fresh_in : (s : ℕ) → has w s ≡ true → (touches (basis_of h.search.now) s h.column ≡ true) × (has u s ≡ true)
  fresh_in s e = both_true (touches (basis_of h.search.now) s h.column) (has u s) (sym (f.is s) ∙ e)

  pub fresh_unseen : Unseen h.search.now u h.at → Unseen h.search.now w h.at
  fresh_unseen q = record {
    inside = λ s e. q.inside s (fresh_in s e).1;
    zero_before = λ s e. q.zero_before s (fresh_in s e).1;
  }

  unfresh : (s : ℕ) → has u s ≡ true → has w s ≡ false → touches (basis_of h.search.now) s h.column ≡ false
  unfresh s e n =
      sym (and-true (touches (basis_of h.search.now) s h.column))
      ∙ ap (λ (c : Bool). touches (basis_of h.search.now) s h.column && c) (sym e) ∙ sym (f.is s) ∙ n

  -- the others change no column up to the next place
  later_zero : Unseen h.search.now u h.at → (s : ℕ) → has u s ≡ true → has w s ≡ false → ZeroBefore h.search.now s (h.at + 1)
  later_zero q s e n = record { each = λ x a g. ⊎_elim (λ p. here x p) (λ p. (q.zero_before s e).each x p g) (last x a) }
    where
      last : (x : ℕ) → x < h.at + 1 → (x ≡ h.at) ⊎ (x < h.at)
      last x a = eq-or-lt_of_le (omega arith)

      here : (x : ℕ) → x ≡ h.at → touches (basis_of h.search.now) s (get_or h.search.now.order.now x 0) ≡ false
      here x p =
          ap (touches (basis_of h.search.now) s) (ap (λ (y : ℕ). get_or h.search.now.order.now y 0) p ∙ sym h.here.column) ∙ unfresh s e n

-- those of its column's set that were not seen
pub fresh_of : (h : Place) {u w k : ℕ} → Unseen h.search.now u k
    → ((s : ℕ) → has w s ≡ has (get_or h.search.now.holders.now h.column 0) s && has u s) → Fresh h u w
fresh_of h {u} {w} q e =
    record { is = λ s. e s ∙ ap (λ (c : Bool). c && has u s) (h.search.now.indexed.holder h.column (here_column h) s) ∙ go s (has u s) refl }
  where
    go : (s : ℕ) (c : Bool) → has u s ≡ c
        → (ltb s h.search.now.basis.vectors && touches (basis_of h.search.now) s h.column) && c ≡ touches (basis_of h.search.now) s h.column && c
    go s true g =
        ap (λ (c : Bool). (c && touches (basis_of h.search.now) s h.column) && true) (lt-ltb s h.search.now.basis.vectors (q.inside s g))
    go s false g =
        and-false (ltb s h.search.now.basis.vectors && touches (basis_of h.search.now) s h.column)
        ∙ sym (and-false (touches (basis_of h.search.now) s h.column))

module _ {h : Place} {u w z : ℕ} (f : Fresh h u w) (q : Before h.search.now u h.at z) where
  -- a vector alone
  singles_done : (y : ℕ) → y ≤ (h.at + 1) * span → Decided h w y → (s : ℕ) (x : Sign) → has u s ≡ true → Dominated h.search.now y (alone s x)
  singles_done y m d s x e = ⊎_elim (λ a. d s a x) other (yes_or_no (has w s))
    where
      other : has w s ≡ false → Dominated h.search.now y (alone s x)
      other n =
          let g = later_zero f q.unseen s e n in
          still_dominated h.search.now (alone s x) (h.at + 1) y (zero_still h.search.now (alone s x) (h.at + 1) g g) (omega arith)

  -- two vectors that were not seen
  pairs_done : (y s : ℕ) (x : Sign) (t : ℕ) (j : Sign) → y ≤ h.at * span + (first_pair + 4 * (max_columns * s)) → has u s ≡ true
      → has u t ≡ true → Dominated h.search.now y (pair s (value x) t (value j))
  pairs_done y s x t j m e g =
      still_dominated h.search.now (pair s (value x) t (value j)) h.at y
      (zero_still h.search.now (pair s (value x) t (value j)) h.at (q.unseen.zero_before s e) (q.unseen.zero_before t g))
      (omega (arith, pair_is s (value x) t (value j) (value_is j)))

  pub single_ends : h.at * span ≤ z → {y : ℕ} → Found h w y → Final h.search.now y × (y < (h.at + 1) * span)
  single_ends late {y} d = (
    record {
      incumbent = d.incumbent;
      all = by_left h.search.now u y (explored_less h.search.now u z y less q.explored)
          (singles_done y (omega (arith, d.early)) d.decided) (λ s x t j r e g. pairs_done y s x t j (omega (arith, d.early)) e g);
    },
    omega (arith, d.early),
  )
    where
      less : y ≤ z
      less = omega (arith, d.early, q.incumbent.late h.at h.here.inside late)

-- ---- the pairs of a place
pub record Pairing (h : Place) (u w z y l p : ℕ) : Type 0 where
  pub left : (s : ℕ) → has l s ≡ has u s && (not (has w s) || has p s)
  pub inside : (s : ℕ) → has p s ≡ true → has w s ≡ true
  pub no_worse : NoWorse h.search.now z y
  pub explored : Explored h.search.now l y

-- ---- tests
left_first : (a b : Bool) → a ≡ a && (not b || b)
left_first true true = refl
left_first true false = refl
left_first false b = refl

left_on : (a b c e : Bool) → (e ≡ true → b ≡ true) → (a && (not b || c)) && not e ≡ a && (not b || (c && not e))
left_on false b c e h = refl
left_on true true c e h = refl
left_on true false c true h = absurd (true≢false (sym (h refl)))
left_on true false c false h = refl

left_none : (a b : Bool) → a && (not b || false) ≡ a && not b
left_none a true = refl
left_none a false = refl

left_some : (a b c : Bool) → a ≡ true → b ≡ true → c ≡ true → a && (not b || c) ≡ true
left_some a b c e f g = ap₂ (λ (x y : Bool). x && (not b || y)) e g ∙ ap (λ (x : Bool). not x || true) f

pub pairing_start : (h : Place) (u w z : ℕ) → Before h.search.now u h.at z → Pairing h u w z z u w
pairing_start h u w z q = record {
  left = λ s. left_first (has u s) (has w s);
  inside = λ s e. e;
  no_worse = no_worse_same q.incumbent;
  explored = q.explored;
}

module _ {h : Place} {u w z y l p : ℕ} (f : Fresh h u w) (q : Before h.search.now u h.at z) (g : Pairing h u w z y l p) where
  pub pairing_left : (s : ℕ) → has l s ≡ true → has u s ≡ true
  pairing_left s e = (both_true (has u s) (not (has w s) || has p s) (sym (g.left s) ∙ e)).0

  pairing_in : (s : ℕ) → has p s ≡ true → has l s ≡ true
  pairing_in s e =
      let k = g.inside s e in
      g.left s ∙ left_some (has u s) (has w s) (has p s) (fresh_in f s k).1 k e

  -- all vectors of this place are paired
  pub pairing_end : p ≡ 0 → Before h.search.now (u - w) (h.at + 1) y
  pairing_end e =
      record {
        incumbent = g.no_worse.incumbent;
        unseen = record { inside = λ s k. q.unseen.inside s (in_both s k).0; zero_before = zero };
        explored = explored_same h.search.now l (u - w) (λ s. minus s ∙ sym (over s)) y g.explored;
      }
    where
      minus : (s : ℕ) → has (u - w) s ≡ has u s && not (has w s)
      minus = minus_has u w (λ s k. (fresh_in f s k).1)

      over : (s : ℕ) → has l s ≡ has u s && not (has w s)
      over s =
          g.left s ∙ ap (λ (c : Bool). has u s && (not (has w s) || c)) (ap (λ (n : ℕ). has n s) e ∙ none_has s) ∙ left_none (has u s) (has w s)

      in_both : (s : ℕ) → has (u - w) s ≡ true → (has u s ≡ true) × (not (has w s) ≡ true)
      in_both s k = both_true (has u s) (not (has w s)) (sym (minus s) ∙ k)

      zero : (s : ℕ) → has (u - w) s ≡ true → ZeroBefore h.search.now s (h.at + 1)
      zero s k = later_zero f q.unseen s (in_both s k).0 (not-true (has w s) (in_both s k).1)

  -- no pair of the vectors that are left, of which c is the first, has a lower number
  pub pairing_early : {notes : List Note} (c : ℕ) → has l c ≡ true → ((s : ℕ) → has l s ≡ true → c ≤ s) → Tried h w notes
      → y ≤ h.at * span + (first_pair + 4 * (max_columns * c)) → Final h.search.now y × (y < (h.at + 1) * span)
  pairing_early c i least d m = (
    record {
      incumbent = g.no_worse.incumbent.incumbent;
      all = by_left h.search.now l y g.explored one two;
    },
    small,
  )
    where
      small : y < (h.at + 1) * span
      small = omega (arith, q.unseen.inside c (pairing_left c i), h.search.now.ready.few_vectors)

      one : (s : ℕ) (x : Sign) → has l s ≡ true → Dominated h.search.now y (alone s x)
      one s x e = singles_done f q y (omega (arith, small)) (d.decided y) s x (pairing_left s e)

      two : (s : ℕ) (x : Sign) (t : ℕ) (j : Sign) → s < t → has l s ≡ true → has l t ≡ true
          → Dominated h.search.now y (pair s (value x) t (value j))
      two s x t j r e k = pairs_done f q y s x t j (omega (arith, least s e)) (pairing_left s e) (pairing_left t k)

  -- ---- the next vector of this place, and the set without it
  module _ {s v : ℕ} (t : Taken p s v) where
    pub pairing_first : has l s ≡ true
    pairing_first = pairing_in s (taken_in t)

    pub pairing_small : s < h.search.now.basis.vectors
    pairing_small = q.unseen.inside s (pairing_left s pairing_first)

    pub pairing_only : (r : ℕ) → ((c : ℕ) → has r c ≡ eqb c s) → (c : ℕ) → has r c ≡ true → has l c ≡ true
    pairing_only r r_is c e = subst (λ (k : ℕ). has l k ≡ true) (sym (eqb-true c s (sym (r_is c) ∙ e))) pairing_first

    in_fresh : has w s ≡ true
    in_fresh = g.inside s (taken_in t)

    pub pairing_led : {notes : List Note} → Tried h w notes → (x : Sign) → Led h notes (record { s = s; sign = x })
    pairing_led d x = record {
      long = d.long;
      inside = pairing_small;
      zero_before = q.unseen.zero_before s (fresh_in f s in_fresh).1;
      blocked = d.blocked s in_fresh x;
    }

    module _ {n : ℕ} (n_is : (c : ℕ) → has n c ≡ has l c && not (eqb c s)) where
      pub pairing_others : Others h s n
      pairing_others =
          record {
            unseen = record { inside = λ c e. q.unseen.inside c (in_u c e); zero_before = λ c e. q.unseen.zero_before c (in_u c e) };
            apart = n_is s ∙ ap (λ (c : Bool). has l s && not c) (eq-eqb s s refl) ∙ and-false (has l s);
          }
        where
          in_u : (c : ℕ) → has n c ≡ true → has u c ≡ true
          in_u c e = pairing_left c (both_true (has l c) (not (eqb c s)) (sym (n_is c) ∙ e)).0

      pub pairing_on : {notes : List Note} {y₁ y₂ : ℕ} → Tried h w notes → NoWorse h.search.now y y₁ → NoWorse h.search.now y₁ y₂
          → ((c : ℕ) → has n c ≡ true → (j : Sign) → Dominated h.search.now y₁ (both s Plus c j))
          → ((c : ℕ) → has n c ≡ true → (j : Sign) → Dominated h.search.now y₂ (both s Minus c j))
          → Pairing h u w z y₂ n v
      pairing_on {notes} {y₁} {y₂} d k₁ k₂ f₁ f₂ =
          record {
            left = left;
            inside = λ c e. g.inside c (taken_left t c e);
            no_worse = no_worse_then g.no_worse then;
            explored = explored_on h.search.now l n s y₂ n_is (λ o a j. no_worse_dominated then o (g.explored o a j)) (d.decided y₂ s in_fresh) two;
          }
        where
          then : NoWorse h.search.now y y₂
          then = no_worse_then k₁ k₂

          left : (c : ℕ) → has n c ≡ has u c && (not (has w c) || has v c)
          left c =
              n_is c ∙ ap (λ (k : Bool). k && not (eqb c s)) (g.left c)
              ∙ left_on (has u c) (has w c) (has p c) (eqb c s) (λ e. subst (λ (k : ℕ). has w k ≡ true) (sym (eqb-true c s e)) in_fresh)
              ∙ ap (λ (k : Bool). has u c && (not (has w c) || k)) (sym (taken_rest t c))

          two : (c : ℕ) → has n c ≡ true → (x j : Sign) → Dominated h.search.now y₂ (both s x c j)
          two c e Plus j = no_worse_dominated k₂ (both s Plus c j) (f₁ c e j)
          two c e Minus j = f₂ c e j

-- ---- from place to place
module _ {S : Search} {u k z : ℕ} (q : Searched S u k z) where
  pub searched_past : z < k * span → Final S z
  searched_past h = ⊎_elim (λ f. f.0) (λ p. before_past S u k z p h) q

  pub searched_end : length S.order.now ≤ k → Final S z
  searched_end h = ⊎_elim (λ f. f.0) (λ p. before_end S u k z p h) q

  pub searched_on : k * span ≤ z → Before S u k z
  searched_on h = ⊎_elim (λ f. absurd (omega (arith, f.1))) (λ p. p) q

-- ---- the step
pub final_step : (S : Search) (z : ℕ) → Final S z → step_in S.order.now z ≡ step_along S
unfolding step_at
final_step S z f =
    least_step (better S) S.order.now S.basis.vectors z S.ready.few_vectors f.all f.incumbent
    ∙ ap (λ (k : ℕ). first_column (λ i. first_move (λ o. better S o i) i (moves k)) S.order.now)
    (sym (rows_length S.basis.vectors S.basis.columns S.basis.stride S.basis.numbers.now))
