-- Laws of a row's step by a pivot.
--   inside            the pivot's column lies in the row
--   quotient_small    the quotient is no larger than the entry
--   step_none         a row with a 0 there stays
--   step_idle         so does a row whose quotient is 0
--   step_parts        else the subtraction changes only the numbers from the pivot's column on
-- Assumes nothing.
use mathlib.Core.Path.{◌≡◌, refl, sym, ◌∙◌, ap, ap₂}
use mathlib.Core.Bool.{Bool, true, false, ◌||◌}
use mathlib.Core.List.{List, [], ◌∷◌, ◌++◌}
use Prim.Native.Nat.{ℕ, zero, suc, ◌<◌, ◌≤◌}
use native.Mathlib.Nat.{zero-div}
use native.Mathlib.Omega.{arith}
use borrow.Author.Tests.{ltb-true, ltb-false, eq-eqb, ne_eqb}
use lib.Dec.{ltb}
use lib.IntN.{ℤ, pos, neg_ℤ, nat_abs}
use lib.ListN.{length, take, drop, take-append-drop, get_or-eq_default}
use Rattle.whole.specs.Lists.{entry}
use Rattle.whole.specs.Quotient.{floor_quotient}
use Rattle.whole.specs.Tests.{positive, Positive}
use Rattle.whole.proofs.Integers.{positive_nonzero, nat_abs_zero, floor_quotient_left, add_none}
use Rattle.whole.proofs.Nearest as Nearest
use Rattle.whole.proofs.Nearest.{nearest_small, nearest_one}
use Rattle.lattice.specs.Rows.{plus, ZeroTo}
use Rattle.lattice.proofs.RowLaws.{plus_none}
use Rattle.problem.specs.Limits.{any_beyond}
use Rattle.tableau.specs.Within.{Within}
use Rattle.tableau.specs.Elimination.{lowered_by}
use Rattle.tableau.specs.Elimination.{Left, subtract, kept, reduced}
use Rattle.tableau.proofs.Within.{within_take, beyond_append}
use Rattle.std.specs.Prelude.{Result, Ok, Err}
use Rattle.tableau.specs.RowSteps.{StopsRow, quotient_of, row_step, Pivot}
use Rattle.tableau.specs.declared.Beyond.{Beyond}
use Rattle.tableau.specs.declared.rows.Way.{Way}
use Rattle.tableau.specs.declared.rows.Way.TheVariants.{Below, Above}

pub inside : {w c : ℕ} {r : List ℤ} → Pivot w c r → c < w
inside {w} {c} {r} h = go (ltb c (length r)) refl
  where
    go : (t : Bool) → ltb c (length r) ≡ t → c < w
    go true e = omega (arith, ltb-true c (length r) e, h.wide)
    go false e = absurd (positive_nonzero h.lead (get_or-eq_default r (pos 0) {n = c} (ltb-false c (length r) e)))

-- ---- the quotient's size
pub quotient_small : {p : ℤ} (way : Way) (x : ℤ) → Positive p → nat_abs (quotient_of way x p) ≤ nat_abs x
quotient_small {p} Below x h = nearest_small x h
quotient_small {p} Above x h = Nearest.quotient_small x (floor_quotient x p) h (floor_quotient_left x h)

-- ---- rows that stay
nothing : (r s : List ℤ) → Within s → subtract (pos 0) r s ≡ kept s
nothing r s h = ap (λ (l : List ℤ). record { row = l; over = any_beyond l }) (plus_none r s) ∙ ap (λ (b : Bool). record { row = s; over = b }) h

zero_quotient : {p : ℤ} → Positive p → floor_quotient (pos 0) p ≡ pos 0
zero_quotient (positive k) = ap pos (zero-div (suc k))

pub step_none : (way : Way) (c : ℕ) (r s : List ℤ) → Positive (entry c r) → Within s → nat_abs (entry c s) ≡ 0 → row_step way c r s ≡ kept s
unfolding lowered_by reduced
step_none Below c r s p h e = rw (eq-eqb (nat_abs (entry c s)) 0 e)
step_none Above c r s p h e =
    ap (λ (q : ℤ). subtract q r s) (ap (λ (x : ℤ). floor_quotient x (entry c r)) (nat_abs_zero (entry c s) e) ∙ zero_quotient p) ∙ nothing r s h

-- a row with another number there
step_is : (way : Way) (c : ℕ) (r s : List ℤ) → (nat_abs (entry c s) ≡ 0 → ⊥)
    → row_step way c r s ≡ subtract (quotient_of way (entry c s) (entry c r)) r s
unfolding lowered_by reduced
step_is Below c r s e = rw (ne_eqb (nat_abs (entry c s)) 0 e)
step_is Above c r s e = refl

pub step_idle : (way : Way) (c : ℕ) (r s : List ℤ) → (nat_abs (entry c s) ≡ 0 → ⊥) → Within s → nat_abs (quotient_of way (entry c s) (entry c r)) ≡ 0
    → row_step way c r s ≡ kept s
step_idle way c r s e h q =
    step_is way c r s e
    ∙ ap (λ (x : ℤ). subtract x r s) (nat_abs_zero (quotient_of way (entry c s) (entry c r)) q)
    ∙ nothing r s h

-- ---- the numbers from c on
front : (c : ℕ) (q : ℤ) (r s : List ℤ) → ZeroTo c r → plus q r s ≡ take c s ++ plus q (drop c r) (drop c s)
unfolding plus
front zero q r s z = refl
front (suc c) q [] [] z = refl
front (suc c) q [] (x ∷ s) z = ap (λ (l : List ℤ). x ∷ l) (sym (take-append-drop c s))
front (suc c) q (y ∷ r) [] z = sym (short (drop c r))
  where
    short : (r : List ℤ) → plus q r [] ≡ []
    short [] = refl
    short (y ∷ r) = refl
front (suc c) q (y ∷ r) (x ∷ s) z = ap₂ ◌∷◌ (add_none q x y z.0) (front c q r s z.1)

parts_are : (way : Way) (c : ℕ) (r s : List ℤ) (q : ℤ) → ZeroTo c r → Within s → (nat_abs (entry c s) ≡ 0 → ⊥)
    → q ≡ quotient_of way (entry c s) (entry c r)
    → ((subtract q (drop c r) (drop c s)).over ≡ (row_step way c r s).over)
    × (take c s ++ (subtract q (drop c r) (drop c s)).row ≡ (row_step way c r s).row)
parts_are way c r s q z h e k =
    let f : plus (neg_ℤ q) r s ≡ take c s ++ plus (neg_ℤ q) (drop c r) (drop c s) = front c (neg_ℤ q) r s z in
    let d : row_step way c r s ≡ subtract q r s = step_is way c r s e ∙ ap (λ (x : ℤ). subtract x r s) (sym k) in (
      sym
          (ap (λ (x : Left). x.over) d
          ∙ ap any_beyond f
          ∙ beyond_append (take c s) _
          ∙ ap (λ (t : Bool). t || any_beyond (plus (neg_ℤ q) (drop c r) (drop c s))) (within_take c s h)),
      sym f ∙ sym (ap (λ (x : Left). x.row) d),
    )

pub step_parts : (way : Way) (c : ℕ) (r s u : List ℤ) (b : Result (Unit {0}) Beyond) (q : ℤ) → ZeroTo c r → Within s
    → (nat_abs (entry c s) ≡ 0 → ⊥) → q ≡ quotient_of way (entry c s) (entry c r) → StopsRow (subtract q (drop c r) (drop c s)) b u
    → StopsRow (row_step way c r s) b (take c s ++ u)
step_parts way c r s u b q z h e k = go b (parts_are way c r s q z h e k)
  where
    x : Left
    x = subtract q (drop c r) (drop c s)

    go : (b : Result (Unit {0}) Beyond) → (x.over ≡ (row_step way c r s).over) × (take c s ++ x.row ≡ (row_step way c r s).row)
        → StopsRow x b u → StopsRow (row_step way c r s) b (take c s ++ u)
    go (Ok a) d o = (sym d.0 ∙ o.0, ap (λ (l : List ℤ). take c s ++ l) o.1 ∙ d.1)
    go (Err a) d o = sym d.0 ∙ o
