-- Laws of lists within ±M.
--   beyond_append        a number of two lists end to end lies beyond ±M where one of either does
--   within-..            two lists end to end, and each of them; the first numbers, and the others; each number; a negated list; zeros
--   beyond_none, -next   the first i numbers and the next one, for a loop that collects whether one lies beyond ±M
-- Assumes nothing.
use mathlib.Core.Path.{◌≡◌, refl, sym, ◌∙◌, ap, ap₂}
use mathlib.Core.Bool.{Bool, false, ◌||◌, or-false, or_assoc}
use mathlib.Core.List.{List, [], ◌∷◌, ◌++◌}
use Prim.Native.Nat.{ℕ, zero, suc, ◌+◌, ◌<◌, ◌≤◌}
use native.Mathlib.Numerals.{add-one}
use native.Mathlib.Omega.{arith}
use borrow.Author.Tests.{ltb-false}
use lib.IntN.{ℤ, nat_abs}
use lib.ListN.{length, take, drop, take-append-drop}
use Rattle.whole.specs.Lists.{entry, zeros}
use Rattle.whole.proofs.Tests.{neither}
use Rattle.whole.proofs.Signed.{abs_neg}
use Rattle.lattice.specs.Rows.{neg}
use Rattle.problem.specs.Limits.{M, beyond, any_beyond}
use Rattle.tableau.specs.Within.{Within}

pub beyond_append : (a b : List ℤ) → any_beyond (a ++ b) ≡ any_beyond a || any_beyond b
unfolding any_beyond
beyond_append [] b = refl
beyond_append (x ∷ a) b = ap (λ (t : Bool). beyond x || t) (beyond_append a b) ∙ sym (or_assoc (beyond x) (any_beyond a) (any_beyond b))

pub within_append : (a b : List ℤ) → Within a → Within b → Within (a ++ b)
within_append a b p q = beyond_append a b ∙ ap₂ ◌||◌ p q

pub within_left : (a b : List ℤ) → Within (a ++ b) → Within a
within_left a b p = (neither (any_beyond a) (any_beyond b) (sym (beyond_append a b) ∙ p)).0

pub within_right : (a b : List ℤ) → Within (a ++ b) → Within b
within_right a b p = (neither (any_beyond a) (any_beyond b) (sym (beyond_append a b) ∙ p)).1

pub within_take : (i : ℕ) (l : List ℤ) → Within l → Within (take i l)
within_take i l p = within_left (take i l) (drop i l) (rw (take-append-drop i l) p)

pub within_drop : (i : ℕ) (l : List ℤ) → Within l → Within (drop i l)
within_drop i l p = within_right (take i l) (drop i l) (rw (take-append-drop i l) p)

pub within_entry : (l : List ℤ) (i : ℕ) → Within l → nat_abs (entry i l) ≤ M
unfolding any_beyond
within_entry [] i p = omega arith
within_entry (x ∷ l) zero p = ltb-false M (nat_abs x) (neither (beyond x) (any_beyond l) p).0
within_entry (x ∷ l) (suc i) p = within_entry l i (neither (beyond x) (any_beyond l) p).1

pub within_neg : (l : List ℤ) → Within l → Within (neg l)
unfolding any_beyond neg
within_neg [] p = refl
within_neg (x ∷ l) p =
    let e : (beyond x ≡ false) × Within l = neither (beyond x) (any_beyond l) p in
    rw (abs_neg x, e.0) (within_neg l e.1)

pub within_zeros : (n : ℕ) → Within (zeros n)
unfolding any_beyond
within_zeros zero = refl
within_zeros (suc n) = within_zeros n

-- ---- the first i numbers, and the next one
next : (l : List ℤ) (i : ℕ) → i < length l → any_beyond (take (suc i) l) ≡ any_beyond (take i l) || beyond (entry i l)
unfolding any_beyond
next [] i h = absurd (omega arith)
next (x ∷ l) zero h = or-false (beyond x)
next (x ∷ l) (suc i) h =
    ap (λ (t : Bool). beyond x || t) (next l i (omega arith)) ∙ sym (or_assoc (beyond x) (any_beyond (take i l)) (beyond (entry i l)))

pub beyond_next : (l : List ℤ) (i : ℕ) → i < length l → any_beyond (take (i + 1) l) ≡ any_beyond (take i l) || beyond (entry i l)
beyond_next l i h = rw (add-one) (next l i h)

pub beyond_none : (l : List ℤ) → any_beyond (take 0 l) ≡ false
unfolding any_beyond
beyond_none l = refl
