-- Laws of tests.
--   both_true, all_true         where two or all_true tests hold together, each of them holds
--   neither                     where neither of two marks is set
--   passed, failed              what a test t is, where the code branches on its result r
--   not_less                    "at most", by the test that the code makes
--   range_low, -spans, -small   a range from 0 to k: no number below 0 lies in it, of the others those whose magnitude is at most k
-- Assumes nothing.
use mathlib.Core.Path.{◌≡◌, refl, sym, ◌∙◌}
use mathlib.Core.Bool.{Bool, true, false, not, ◌&&◌, ◌||◌, and-eq-true_iff, true≢false, false≢true}
use Prim.Native.Nat.{ℕ, ◌≤◌}
use native.Mathlib.Omega.{arith}
use borrow.Author.Tests.{leb-true, leb-false, ltb-true, lt-ltb, le-ltb}
use lib.Dec.{leb, ltb, leb-zero}
use lib.IntN.{ℤ, pos, negsuc, nat_abs}
use lib.Signed.{lt_z, le_z}
use Rattle.whole.specs.Tests.{spans, in_range}

pub both_true : (a b : Bool) → a && b ≡ true → (a ≡ true) × (b ≡ true)
both_true a b = (and-eq-true_iff a b).0

pub all_true : (a b c : Bool) → a && (b && c) ≡ true → (a ≡ true) × (b ≡ true) × (c ≡ true)
all_true a b c e =
    let x : (a ≡ true) × (b && c ≡ true) = both_true a (b && c) e in
    let y : (b ≡ true) × (c ≡ true) = both_true b c x.1 in
    (x.0, y.0, y.1)

pub neither : (a b : Bool) → a || b ≡ false → (a ≡ false) × (b ≡ false)
neither true b e = absurd (true≢false e)
neither false b e = (refl, e)

pub passed : {r t : Bool} → r ≡ t → r ≡ true → t ≡ true
passed e h = sym e ∙ h

pub failed : {r t : Bool} → r ≡ t → r ≡ false → t ≡ false
failed e h = sym e ∙ h

-- ---- orders
not_ltb : (a b : ℕ) (t : Bool) → leb a b ≡ t → not (ltb b a) ≡ t
not_ltb a b true e = rw (le-ltb b a (leb-true a b e))
not_ltb a b false e = rw (lt-ltb b a (leb-false a b e))

pub not_less : (a b : ℤ) → not (lt_z b a) ≡ le_z a b
not_less (pos a) (pos b) = not_ltb a b (leb a b) refl
not_less (pos a) (negsuc b) = refl
not_less (negsuc a) (pos b) = refl
not_less (negsuc a) (negsuc b) = not_ltb b a (leb b a) refl

pub range_low : (k : ℕ) (x : ℤ) → lt_z x (pos 0) ≡ true → in_range (pos 0) (pos k) x ≡ false
range_low k (pos n) e = absurd (omega (arith, ltb-true n 0 e))
range_low k (negsuc n) e = refl

pub range_spans : (k : ℕ) (x : ℤ) → lt_z x (pos 0) ≡ false → in_range (pos 0) (pos k) x ≡ spans k x
range_spans k (pos n) e = rw (leb-zero n)
range_spans k (negsuc n) e = absurd (true≢false e)

pub range_small : (k : ℕ) (x : ℤ) → in_range (pos 0) (pos k) x ≡ true → nat_abs x ≤ k
range_small k (pos n) e = leb-true n k (both_true (leb 0 n) (leb n k) e).1
range_small k (negsuc n) e = absurd (false≢true e)
