-- Laws of numbers read in a range, and of what a range says of them.
--   same_ok, same_end, same_no, ok_not_no   equal outcomes were read alike, up to one place, or refused alike; and none of them is a refusal
--   Then o f b e                      what stood between, where one thing was read after another; then_ok finds it
--   closed_ok                         what was read is all that there is
--   within_in, abs_between, abs_within, count_in, no_less_in   what a range or a least number says of the number that was read
-- Assumes nothing.
use mathlib.Core.Path.{◌≡◌, refl, sym, ap, subst}
use mathlib.Core.Bool.{Bool, true, false, cond, ◌&&◌}
use mathlib.Core.List.{List}
use Prim.Native.Nat.{ℕ, ◌≤◌}
use native.Mathlib.Omega.{arith}
use borrow.Author.Tests.{leb-true}
use lib.Dec.{T}
use lib.IntN.{ℤ, pos, negsuc, nat_abs}
use lib.Signed.{le_z}
use Rattle.std.proofs.Common.{Option, Some, None, Ok, Err}
use Rattle.text.specs.Tokens.{Token}
use Rattle.problem.specs.declared.Refusal.{Refusal}
use Rattle.sections.specs.Rules.{Outcome, then, inside, number, within, no_less, on_end}

-- ---- outcomes
pub same_ok : {A : Type 0} {a b : A} {p q : ℕ} → ◌≡◌ {A = Outcome A} (Ok (a, p)) (Ok (b, q)) → a ≡ b
same_ok {A} {a} {b} {p} {q} h = let e : ◌≡◌ {A = A × ℕ} (a, p) (b, q) = cc in ap (λ (x : A × ℕ). x.0) e

pub same_end : {A : Type 0} {a b : A} {p q : ℕ} → ◌≡◌ {A = Outcome A} (Ok (a, p)) (Ok (b, q)) → p ≡ q
same_end {A} {a} {b} {p} {q} h = let e : ◌≡◌ {A = A × ℕ} (a, p) (b, q) = cc in ap (λ (x : A × ℕ). x.1) e

pub same_no : {A : Type 0} {w v : Refusal} → ◌≡◌ {A = Outcome A} (Err w) (Err v) → w ≡ v
same_no h = cc

pub ok_not_no : {A : Type 0} {a : A} {p : ℕ} {why : Refusal} → ◌≡◌ {A = Outcome A} (Err why) (Ok (a, p)) → ⊥
ok_not_no h = let z : ◌≡◌ {A = ℕ} 0 1 = cc in omega arith

-- ---- one after the other
pub record Then {A B : Type 0} (o : Outcome A) (f : A → ℕ → Outcome B) (b : B) (e : ℕ) : Type 0 where
  pub what : A
  pub at : ℕ
  pub first : o ≡ Ok (what, at)
  pub second : f what at ≡ Ok (b, e)

pub then_ok : {A B : Type 0} (o : Outcome A) (f : A → ℕ → Outcome B) (b : B) (e : ℕ) → then o f ≡ Ok (b, e) → Then o f b e
then_ok (Ok (a, at)) f b e h = record { what = a; at = at; first = refl; second = h }
then_ok (Err why) f b e h = absurd (ok_not_no h)

pub closed_ok : {A : Type 0} (a b : A) (p q : ℕ) (t : Option (Token × ℕ)) → on_end a p t ≡ Ok (b, q) → (a ≡ b) × (t ≡ None)
closed_ok a b p q (Some x) h = absurd (ok_not_no h)
closed_ok a b p q None h = (same_ok h, refl)

-- ---- what a range says of the number that was read
module _ (a b : ℤ) (why : Refusal) (v : ℤ) (q : ℕ) where
  both : (t u : Bool) (w : ℤ) (p : ℕ) → le_z a w ≡ t → le_z w b ≡ u → cond {A = Outcome ℤ} (t && u) (Ok (w, p)) (Err why) ≡ Ok (v, q)
      → (le_z a v ≡ true) × (le_z v b ≡ true)
  both true true w p e f h = let s : w ≡ v = same_ok h in (rw s at e, rw s at f)
  both true false w p e f h = absurd (ok_not_no h)
  both false u w p e f h = absurd (ok_not_no h)

  number_in : (o : Outcome ℤ) → then o (λ w p. inside a b why w p) ≡ Ok (v, q) → (le_z a v ≡ true) × (le_z v b ≡ true)
  number_in (Ok (w, p)) h = both (le_z a w) (le_z w b) w p refl refl h
  number_in (Err other) h = absurd (ok_not_no h)

  pub within_in : (s : List ℕ) (at : ℕ) → within s a b why at ≡ Ok (v, q) → (le_z a v ≡ true) × (le_z v b ≡ true)
  within_in s at h = number_in (number s at) h

pub abs_between : (a b : ℕ) (v : ℤ) → le_z (pos a) v ≡ true → le_z v (pos b) ≡ true → (a ≤ nat_abs v) × (nat_abs v ≤ b)
abs_between a b (pos n) h k = (leb-true a n h, leb-true n b k)
abs_between a b (negsuc n) h k = absurd (subst T (sym h) tt)

-- the magnitude of a number from lo to k, where lo is −k or 0
pub abs_within : (lo : ℤ) (k : ℕ) (v : ℤ) → nat_abs lo ≤ k → le_z lo v ≡ true → le_z v (pos k) ≡ true → nat_abs v ≤ k
abs_within lo k (pos n) l h e = leb-true n k e
abs_within (pos m) k (negsuc n) l h e = absurd (subst T (sym h) tt)
abs_within (negsuc m) k (negsuc n) l h e = omega (arith, leb-true n m h)

-- a count that was read
pub count_in : (s : List ℕ) (lo hi : ℕ) (why : Refusal) (v : ℤ) (p q : ℕ) → within s (pos lo) (pos hi) why p ≡ Ok (v, q)
    → (lo ≤ nat_abs v) × (nat_abs v ≤ hi)
count_in s lo hi why v p q h = let w = within_in (pos lo) (pos hi) why v q s p h in abs_between lo hi v w.0 w.1

-- a count with no upper end
pub no_less_in : (s : List ℕ) (lo : ℕ) (why : Refusal) (v : ℤ) (p q : ℕ) → no_less s (pos lo) why p ≡ Ok (v, q) → lo ≤ nat_abs v
no_less_in s lo why v p q h = go (number s p) h
  where
    above : (w : ℤ) → le_z (pos lo) w ≡ true → lo ≤ nat_abs w
    above (pos n) e = leb-true lo n e
    above (negsuc n) e = absurd (subst T (sym e) tt)

    by : (t : Bool) (w : ℤ) (r : ℕ) → le_z (pos lo) w ≡ t → cond {A = Outcome ℤ} t (Ok (w, r)) (Err why) ≡ Ok (v, q) → lo ≤ nat_abs v
    by true w r e f = subst (λ (x : ℤ). lo ≤ nat_abs x) (same_ok f) (above w e)
    by false w r e f = absurd (ok_not_no f)

    go : (o : Outcome ℤ) → then o (λ w r. cond {A = Outcome ℤ} (le_z (pos lo) w) (Ok (w, r)) (Err why)) ≡ Ok (v, q) → lo ≤ nat_abs v
    go (Ok (w, r)) f = by (le_z (pos lo) w) w r refl f
    go (Err other) f = absurd (ok_not_no f)
