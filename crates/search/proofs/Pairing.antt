-- Pairs of two vectors.
--   both-..              two vectors with two signs: which comes first, its number, what it adds, that it is a move of the basis and listed
--   passes_alike         a column passes under two moves alike that change it alike
--   improving_pair       a pair that improves may become the incumbent
--   no_worse_same, -then, -dominated   an incumbent that stays, that has become no worse twice, and what was dominated before
--   better_is            a move that changes a column improves it if all columns pass
--   paired-..            of a pair that is tried: it is of the basis, changes no earlier column, and may become the incumbent
--   pruned               with a vector that leaves the column noted as it is a vector fails there as it does alone
-- Assumes nothing.
use mathlib.Core.Path.{◌≡◌, refl, sym, ◌∙◌, ap, ap₂, subst}
use mathlib.Core.Logic.{inr, ⊎_elim}
use mathlib.Core.Bool.{Bool, true, false, cond, ◌&&◌}
use mathlib.Core.List.{List}
use Prim.Native.Nat.{ℕ, ◌<◌, ◌≤◌}
use native.Mathlib.Nat.{eq-or-lt_of_le}
use native.Mathlib.Omega.{arith}
use borrow.Author.Tests.{ltb-true, ltb-false, lt-ltb, le-ltb, not-false}
use lib.Dec.{ltb}
use lib.IntN.{ℤ, ◌+ℤ◌, ◌*ℤ◌, +ℤ_comm}
use lib.ListN.{length, get_or}
use Rattle.whole.proofs.Integers.{add_none, is_zero_true}
use Rattle.whole.specs.Lists.{entry}
use Rattle.whole.specs.Tests.{every}
use Rattle.settling.specs.declared.Measure.{Measure}
use Rattle.settling.specs.declared.Move.{Move}
use Rattle.settling.specs.declared.Part.{Part}
use Rattle.settling.specs.Columns.{Columns, valued}
use Rattle.settling.specs.Moves.{pair, moves, vector, change, changes}
use Rattle.settling.specs.Steps.{passes, passes_at, improves}
use Rattle.settling.specs.Views.{OfBasis}
use Rattle.settling.proofs.Views.{moved_at}
use Rattle.settling.specs.Verdicts.{Listed}
use Rattle.search.specs.declared.given.Search.{Search}
use Rattle.search.specs.declared.seen.Note.{Note}
use Rattle.search.specs.declared.seen.Place.{Place}
use Rattle.search.specs.declared.seen.Sign.{Sign}
use Rattle.search.specs.Notes.{blocking_at}
use Rattle.search.specs.Numbers.{first_pair, number_of, number_at}
use Rattle.search.specs.Progress.{ZeroBefore, Dominated, PairIncumbent, NoWorse, Still, Blocked, Paired, value, alone, both}
use Rattle.search.specs.Searches.{columns_of, basis_of, better, passing, measure_of}
use Rattle.search.specs.Sets.{touches}
use Rattle.search.proofs.Alone.{alone_change, here_measure}
use Rattle.search.proofs.Dominance.{zero_still, fails_dominated, dominated_less}
use Rattle.search.proofs.Listings.{listed_pair}
use Rattle.search.proofs.Numbering.{value_is, value_one, number_pair, number_listed}

-- ---- a pair of two vectors with their signs
module _ (s : ℕ) (x : Sign) (t : ℕ) (y : Sign) where
  both_cases : (P : Move → Type 0) → (s < t → P (pair s (value x) t (value y))) → (t ≤ s → P (pair t (value y) s (value x)))
      → P (both s x t y)
  both_cases P f g = go (ltb s t) refl
    where
      go : (c : Bool) → ltb s t ≡ c → P (cond c (pair s (value x) t (value y)) (pair t (value y) s (value x)))
      go true e = f (ltb-true s t e)
      go false e = g (ltb-false s t e)

  pub both_up : s < t → both s x t y ≡ pair s (value x) t (value y)
  both_up h = rw (lt-ltb s t h)

  pub both_down : t < s → both s x t y ≡ pair t (value y) s (value x)
  both_down h = rw (le-ltb s t (omega arith))

  both_late : first_pair ≤ number_of (both s x t y)
  both_late =
      both_cases (λ o. first_pair ≤ number_of o)
      (λ h. number_pair s (value x) t (value y) (value_is y)) (λ h. number_pair t (value y) s (value x) (value_is x))

  -- what it adds does not depend on which vector comes first
  both_change : (N : List (List ℤ)) (j : ℕ) → change N (both s x t y) j ≡ value x *ℤ entry j (vector N s) +ℤ value y *ℤ entry j (vector N t)
  both_change N j =
      both_cases (λ o. change N o j ≡ value x *ℤ entry j (vector N s) +ℤ value y *ℤ entry j (vector N t))
      (λ h. refl) (λ h. +ℤ_comm (value y *ℤ entry j (vector N t)) (value x *ℤ entry j (vector N s)))

  module _ (r : ℕ) (h : s < r) (k : t < r) where
    both_of : OfBasis r (both s x t y)
    both_of =
        both_cases (OfBasis r)
        (λ _. record { s = h; t = k; a = omega (arith, value_one x); b = omega (arith, value_one y) })
        (λ _. record { s = k; t = h; a = omega (arith, value_one y); b = omega (arith, value_one x) })

    both_listed : (t ≡ s → ⊥) → Listed (both s x t y) (moves r)
    both_listed d =
        both_cases (λ o. Listed o (moves r))
        (λ l. listed_pair r s (value x) t (value y) l k (value_is x) (value_is y))
        (λ l. ⊎_elim (λ e. absurd (d e)) (λ m. listed_pair r t (value y) s (value x) m h (value_is y) (value_is x)) (eq-or-lt_of_le l))

-- a column passes under two moves alike that change it alike
passes_alike : (p : Part) (C : Columns) (N : List (List ℤ)) (v : List ℤ) (o u : Move) (q : Measure) (j : ℕ) → j < length v
    → change N o j ≡ change N u j → passes_at p C N v o q j ≡ passes_at p C N v u q j
passes_alike p C N v o u q j h e =
    ap₂ (λ (y d : ℤ). passes p (valued (C.column j) y) d q)
    (moved_at N o v j h ∙ ap (λ (d : ℤ). entry j v +ℤ d) e ∙ sym (moved_at N u v j h)) e

-- ---- along a ranking
module _ (S : Search) where
  both_still : (s : ℕ) (x : Sign) (t : ℕ) (y : Sign) (k : ℕ) → ZeroBefore S s k → ZeroBefore S t k → Still S (both s x t y) k
  both_still s x t y k p q =
      both_cases s x t y (λ o. Still S o k)
      (λ h. zero_still S (pair s (value x) t (value y)) k p q) (λ h. zero_still S (pair t (value y) s (value x)) k q p)

  improving_pair : (s : ℕ) (x : Sign) (t : ℕ) (y : Sign) (k : ℕ) → s < S.basis.vectors → t < S.basis.vectors → (t ≡ s → ⊥)
      → k < length S.order.now → better S (both s x t y) (get_or S.order.now k 0) ≡ true → PairIncumbent S (number_at k (both s x t y))
  improving_pair s x t y k h g d l e =
      record {
        incumbent = inr (record { place = k; move = both s x t y; inside = l; listed = listed; good = e; is = refl });
        late = λ i _ p. omega (arith, number_listed S.basis.vectors (both s x t y) S.ready.few_vectors listed, both_late s x t y);
      }
    where
      listed : Listed (both s x t y) (moves S.basis.vectors)
      listed = both_listed s x t y S.basis.vectors h g d

module _ {S : Search} where
  pub no_worse_same : {z : ℕ} → PairIncumbent S z → NoWorse S z z
  no_worse_same i = record { less = omega arith; incumbent = i }

  pub no_worse_then : {z y x : ℕ} → NoWorse S z y → NoWorse S y x → NoWorse S z x
  no_worse_then k l = record { less = omega (arith, k.less, l.less); incumbent = l.incumbent }

  pub no_worse_dominated : {z y : ℕ} → NoWorse S z y → (o : Move) → Dominated S z o → Dominated S y o
  no_worse_dominated {z} {y} k o f = dominated_less S o z y k.less f

pub better_is : (S : Search) (o : Move) (i : ℕ) → changes (basis_of S) o i ≡ true
    → better S o i ≡ every S.basis.columns (passing S o (measure_of S i))
unfolding improves
better_is S o i c = ap (λ (t : Bool). t && every S.basis.columns (passing S o (measure_of S i))) c

-- ---- a pair that is tried
module _ {h : Place} {o : Move} (d : Paired h o) where
  as_both : (P : Move → Type 0) → P (both d.s d.x d.t d.y) → P o
  as_both P f = subst P (sym d.is) f

  pub paired_of : OfBasis h.search.now.basis.vectors o
  paired_of =
      as_both (OfBasis h.search.now.basis.vectors)
      (both_of d.s d.x d.t d.y h.search.now.basis.vectors d.s_inside d.t_inside)

  pub paired_still : Still h.search.now o h.at
  paired_still = as_both (λ u. Still h.search.now u h.at) (both_still h.search.now d.s d.x d.t d.y h.at d.s_zero d.t_zero)

  pub paired_improving : (k : ℕ) → k < length h.search.now.order.now → better h.search.now o (get_or h.search.now.order.now k 0) ≡ true
      → PairIncumbent h.search.now (number_at k o)
  paired_improving k l =
      as_both (λ u. better h.search.now u (get_or h.search.now.order.now k 0) ≡ true → PairIncumbent h.search.now (number_at k u))
      (improving_pair h.search.now d.s d.x d.t d.y k d.s_inside d.t_inside d.apart l)

-- ---- where vector t leaves the column noted of s as it is, the pair does there what s does alone
pub pruned : (h : Place) (notes : List Note) (s : ℕ) (x : Sign) (t : ℕ) (y : Sign) (z : ℕ)
    → ZeroBefore h.search.now s h.at → ZeroBefore h.search.now t h.at → Blocked h notes s x
    → touches (basis_of h.search.now) t (blocking_at notes s x) ≡ false → Dominated h.search.now z (both s x t y)
pruned h notes s x t y z f g k e =
    fails_dominated h.search.now (both s x t y) h.at z c h.here.inside (both_still h.search.now s x t y h.at f g)
    k.inside (ap (λ (q : Measure). passing h.search.now (both s x t y) q c) (here_measure h) ∙ alike ∙ k.fails)
  where
    c : ℕ
    c = blocking_at notes s x

    N : List (List ℤ)
    N = basis_of h.search.now

    same : change N (both s x t y) c ≡ change N (alone s x) c
    same =
        both_change s x t y N c
        ∙ add_none (value y) (value x *ℤ entry c (vector N s)) (entry c (vector N t)) (is_zero_true (entry c (vector N t)) (not-false _ e))
        ∙ sym (alone_change N s x c)

    alike : passing h.search.now (both s x t y) h.q c ≡ passing h.search.now (alone s x) h.q c
    alike =
        passes_alike h.search.now.part (columns_of h.search.now) N h.search.now.values.now (both s x t y) (alone s x) h.q c
        (omega (arith, k.inside, h.search.now.ready.values_long)) same
