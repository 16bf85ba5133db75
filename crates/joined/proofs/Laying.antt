-- What the loops that fill the joined lists do at column j.
--   places_alone, places_shared   the place of an unshared column and of a shared one, set at place j
--   spread_step     a coefficient put in at its column's place
--   absorb_step     the number of column j taken at its place
--   taken_shared, taken_alone     that number, of a shared column and of an unshared one
--   ideals_step, ideals_kept      so of ideals and their marks; where the first's stand, which is of a shared column whose mark is set
--   mark_comes, ideal_comes       the second's come: of an unshared column, or where the first's mark is not set
--   places_end, spread_end, absorb_end, ideals_end   past the last column
-- Assumes nothing.
use mathlib.Core.Path.{◌≡◌, refl, sym, ◌∙◌, ap, ap₂}
use mathlib.Core.List.{List, [], ◌∷◌, ◌++◌, append-nil, append_assoc}
use Prim.Native.Nat.{ℕ, suc, ◌+◌, ◌<◌, ◌≤◌}
use native.Mathlib.Numerals.{add-one}
use native.Mathlib.Omega.{arith}
use lib.IntN.{ℤ, pos}
use lib.ListN.{length, get_or, set, take, drop, drop_of_length-le}
use lib.Seq.{drop-cons, take-suc-set, take_all}
use Rattle.std.specs.Prelude.{Option, Some, None, is_some, ◌⊎◌}
use Rattle.std.proofs.Common.{inl, inr, true, false}
use Rattle.std.proofs.lemmas.List.{set-get_or}
use Rattle.whole.specs.Lists.{entry}
use Rattle.whole.specs.Tests.{is_zero}
use Rattle.whole.proofs.Never.{never}
use Rattle.joined.specs.Columns.{set_first, places_from}
use Rattle.joined.specs.Joined.{spread_from}
use Rattle.joined.specs.Filling.{taken, taken_ideal, absorb_into, absorb_ideals}

-- ---- places
module _ (R : List (Option ℕ)) (l : List ℕ) (k j : ℕ) (h : j < length R) (e : length l ≡ length R) where
  next : (q : Option ℕ) (p m : ℕ) → get_or R j None ≡ q → ((S : List (Option ℕ)) → places_from k (q ∷ S) ≡ p ∷ places_from m S)
      → take (j + 1) (set l j p) ++ places_from m (drop (j + 1) R) ≡ take j l ++ places_from k (drop j R)
  next q p m f g =
      rw (add-one j)
      (ap (λ (z : List ℕ). z ++ places_from m (drop (suc j) R)) (take-suc-set l j p (omega (arith, h, e)))
      ∙ append_assoc (take j l) (p ∷ []) (places_from m (drop (suc j) R))
      ∙ ap (λ (z : List ℕ). take j l ++ z)
      (sym (g (drop (suc j) R)) ∙ ap (λ (z : Option ℕ). places_from k (z ∷ drop (suc j) R)) (sym f)
      ∙ sym (ap (places_from k) (drop-cons R j None h))))

  pub places_alone : get_or R j None ≡ None
      → take (j + 1) (set l j k) ++ places_from (k + 1) (drop (j + 1) R) ≡ take j l ++ places_from k (drop j R)
  unfolding places_from
  places_alone f = next None k (k + 1) f (λ S. rw (add-one k) refl)

  pub places_shared : (i : ℕ) → get_or R j None ≡ Some i
      → take (j + 1) (set l j i) ++ places_from k (drop (j + 1) R) ≡ take j l ++ places_from k (drop j R)
  unfolding places_from
  places_shared i f = next (Some i) i k f (λ S. refl)

pub places_end : (R : List (Option ℕ)) (l : List ℕ) (k j : ℕ) → length R ≤ j → length l ≤ j → take j l ++ places_from k (drop j R) ≡ l
unfolding places_from
places_end R l k j h e =
    ap (λ (z : List (Option ℕ)). take j l ++ places_from k z) (drop_of_length-le R {i = j} h) ∙ append-nil (take j l) ∙ take_all j l e

-- ---- a row spread
pub spread_step : (r : List ℤ) (S : List ℕ) (a : List ℤ) (j p : ℕ) (x : ℤ) → j < length S → j < length a → p ≡ get_or S j 0 → x ≡ entry j a
    → spread_from (set r p x) (drop (j + 1) S) (drop (j + 1) a) ≡ spread_from r (drop j S) (drop j a)
unfolding spread_from
spread_step r S a j p x h l e f = rw (add-one j, e, f) (sym (ap₂ (spread_from r) (drop-cons S j 0 h) (drop-cons a j (pos 0) l)))

pub spread_end : (r : List ℤ) (S : List ℕ) (a : List ℤ) (j : ℕ) → length a ≡ length S → length a ≤ j → spread_from r (drop j S) (drop j a) ≡ r
unfolding spread_from
spread_end r S a j e h = ap₂ (spread_from r) (drop_of_length-le S {i = j} (omega (arith, e))) (drop_of_length-le a {i = j} h)

-- ---- lists of columns
absorb_next : (f : ℤ → ℤ → ℤ) (R : List (Option ℕ)) (S : List ℕ) (C l : List ℤ) (j : ℕ) → j < length R → j < length S → j < length C
    → absorb_into f l (drop j R) (drop j S) (drop j C)
    ≡ absorb_into f (set l (get_or S j 0) (taken f (get_or R j None) (entry (get_or S j 0) l) (entry j C))) (drop (j + 1) R) (drop (j + 1) S)
    (drop (j + 1) C)
unfolding absorb_into
absorb_next f R S C l j h k n =
    rw (add-one j)
    (ap₂ (λ (x : List (Option ℕ)) (y : List ℕ). absorb_into f l x y (drop j C)) (drop-cons R j None h) (drop-cons S j 0 k)
    ∙ ap (absorb_into f l (get_or R j None ∷ drop (suc j) R) (get_or S j 0 ∷ drop (suc j) S)) (drop-cons C j (pos 0) n))

absorb_none : (f : ℤ → ℤ → ℤ) (R : List (Option ℕ)) (S : List ℕ) (l : List ℤ) → absorb_into f l R S [] ≡ l
unfolding absorb_into
absorb_none f [] S l = refl
absorb_none f (q ∷ R) [] l = refl
absorb_none f (q ∷ R) (p ∷ S) l = refl

pub absorb_end : (f : ℤ → ℤ → ℤ) (R : List (Option ℕ)) (S : List ℕ) (C l : List ℤ) (j : ℕ) → length C ≤ j
    → absorb_into f l (drop j R) (drop j S) (drop j C) ≡ l
absorb_end f R S C l j h = ap (absorb_into f l (drop j R) (drop j S)) (drop_of_length-le C {i = j} h) ∙ absorb_none f (drop j R) (drop j S) l

-- x is the number of column j
pub absorb_step : (f : ℤ → ℤ → ℤ) (R : List (Option ℕ)) (S : List ℕ) (C l : List ℤ) (j : ℕ) (x : ℤ) → j < length R → j < length S → j < length C
    → x ≡ taken f (get_or R j None) (entry (get_or S j 0) l) (entry j C)
    → absorb_into f (set l (get_or S j 0) x) (drop (j + 1) R) (drop (j + 1) S) (drop (j + 1) C) ≡ absorb_into f l (drop j R) (drop j S) (drop j C)
absorb_step f R S C l j x h k n e = rw e (sym (absorb_next f R S C l j h k n))

pub taken_shared : (f : ℤ → ℤ → ℤ) (q : Option ℕ) (a x : ℤ) → is_some q ≡ true → f a x ≡ taken f q a x
taken_shared f (Some i) a x e = refl
taken_shared f None a x e = never (cc)

pub taken_alone : (f : ℤ → ℤ → ℤ) (q : Option ℕ) (a x : ℤ) → is_some q ≡ false → x ≡ taken f q a x
taken_alone f None a x e = refl
taken_alone f (Some i) a x e = never (cc)

-- ---- ideals and their marks
-- the first's mark stands, and its ideal: of a shared column, where it is set
module _ (q : Option ℕ) (e : is_some q ≡ true) (g : ℤ) (n : is_zero g ≡ false) where
  mark_kept : (x : ℤ) → g ≡ taken set_first q g x
  mark_kept x = go q e
    where
      go : (t : Option ℕ) → is_some t ≡ true → g ≡ taken set_first t g x
      go (Some i) h = rw n refl
      go None h = never (cc)

  ideal_kept : (a x : ℤ) → a ≡ taken_ideal q g a x
  ideal_kept a x = go q e
    where
      go : (t : Option ℕ) → is_some t ≡ true → a ≡ taken_ideal t g a x
      go (Some i) h = rw n refl
      go None h = never (cc)

-- the second's mark and ideal come
pub mark_comes : (q : Option ℕ) (g x : ℤ) → (is_some q ≡ false) ⊎ (is_zero g ≡ true) → x ≡ taken set_first q g x
mark_comes None g x e = refl
mark_comes (Some i) g x (inl e) = never (cc)
mark_comes (Some i) g x (inr e) = rw e refl

pub ideal_comes : (q : Option ℕ) (g a x : ℤ) → (is_some q ≡ false) ⊎ (is_zero g ≡ true) → x ≡ taken_ideal q g a x
ideal_comes None g a x e = refl
ideal_comes (Some i) g a x (inl e) = never (cc)
ideal_comes (Some i) g a x (inr e) = rw e refl

ideals_next : (R : List (Option ℕ)) (S : List ℕ) (D C g l : List ℤ) (j : ℕ) → j < length R → j < length S → j < length D → j < length C
    → absorb_ideals g l (drop j R) (drop j S) (drop j D) (drop j C)
    ≡ absorb_ideals (set g (get_or S j 0) (taken set_first (get_or R j None) (entry (get_or S j 0) g) (entry j D)))
    (set l (get_or S j 0) (taken_ideal (get_or R j None) (entry (get_or S j 0) g) (entry (get_or S j 0) l) (entry j C)))
    (drop (j + 1) R) (drop (j + 1) S) (drop (j + 1) D) (drop (j + 1) C)
unfolding absorb_ideals
ideals_next R S D C g l j h k m n =
    rw (add-one j)
    (ap₂ (λ (x : List (Option ℕ)) (y : List ℕ). absorb_ideals g l x y (drop j D) (drop j C)) (drop-cons R j None h) (drop-cons S j 0 k)
    ∙ ap₂ (absorb_ideals g l (get_or R j None ∷ drop (suc j) R) (get_or S j 0 ∷ drop (suc j) S)) (drop-cons D j (pos 0) m)
    (drop-cons C j (pos 0) n))

pub ideals_step : (R : List (Option ℕ)) (S : List ℕ) (D C g l : List ℤ) (j : ℕ) (y x : ℤ)
    → j < length R → j < length S → j < length D → j < length C
    → y ≡ taken set_first (get_or R j None) (entry (get_or S j 0) g) (entry j D)
    → x ≡ taken_ideal (get_or R j None) (entry (get_or S j 0) g) (entry (get_or S j 0) l) (entry j C)
    → absorb_ideals (set g (get_or S j 0) y) (set l (get_or S j 0) x) (drop (j + 1) R) (drop (j + 1) S) (drop (j + 1) D) (drop (j + 1) C)
    ≡ absorb_ideals g l (drop j R) (drop j S) (drop j D) (drop j C)
ideals_step R S D C g l j y x h k m n d e = rw (d, e) (sym (ideals_next R S D C g l j h k m n))

-- where the first's stand, nothing is written
pub ideals_kept : (R : List (Option ℕ)) (S : List ℕ) (D C g l : List ℤ) (j : ℕ) → j < length R → j < length S → j < length D → j < length C
    → is_some (get_or R j None) ≡ true → is_zero (entry (get_or S j 0) g) ≡ false
    → (absorb_into set_first g (drop (j + 1) R) (drop (j + 1) S) (drop (j + 1) D) ≡ absorb_into set_first g (drop j R) (drop j S) (drop j D))
    × (absorb_ideals g l (drop (j + 1) R) (drop (j + 1) S) (drop (j + 1) D) (drop (j + 1) C)
    ≡ absorb_ideals g l (drop j R) (drop j S) (drop j D) (drop j C))
ideals_kept R S D C g l j h k m n e z =
    let p : ℕ = get_or S j 0 in
    let q : Option ℕ = get_or R j None in
    let a : set g p (entry p g) ≡ g = set-get_or g p (pos 0) in
    let b : set l p (entry p l) ≡ l = set-get_or l p (pos 0) in (
      rw a at (absorb_step set_first R S D g j (entry p g) h k m (mark_kept q e (entry p g) z (entry j D))),
      rw (a, b) at (ideals_step R S D C g l j (entry p g) (entry p l) h k m n (mark_kept q e (entry p g) z (entry j D))
          (ideal_kept q e (entry p g) z (entry p l) (entry j C))),
    )

ideals_none : (R : List (Option ℕ)) (S : List ℕ) (D g l : List ℤ) → absorb_ideals g l R S D [] ≡ l
unfolding absorb_ideals
ideals_none [] S D g l = refl
ideals_none (q ∷ R) [] D g l = refl
ideals_none (q ∷ R) (p ∷ S) [] g l = refl
ideals_none (q ∷ R) (p ∷ S) (y ∷ D) g l = refl

pub ideals_end : (R : List (Option ℕ)) (S : List ℕ) (D C g l : List ℤ) (j : ℕ) → length C ≤ j
    → absorb_ideals g l (drop j R) (drop j S) (drop j D) (drop j C) ≡ l
ideals_end R S D C g l j h =
    ap (absorb_ideals g l (drop j R) (drop j S) (drop j D)) (drop_of_length-le C {i = j} h) ∙ ideals_none (drop j R) (drop j S) (drop j D) g l
