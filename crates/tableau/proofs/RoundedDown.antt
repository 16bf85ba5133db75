-- The theorems of specs/RoundedDown, proved.
--   found_any    what the right side finds does not depend on the mark of the form
--   unmarked     a right side that is not past the elimination limit has a form that is not
-- Assumes nothing.
use mathlib.Core.Path.{◌≡◌, refl, sym, ◌∙◌, ap, ap₂}
use mathlib.Core.Bool.{Bool, true, false, cond, ◌||◌}
use mathlib.Core.List.{List, ◌++◌}
use Prim.Native.Nat.{ℕ, ◌+◌}
use lib.IntN.{ℤ}
use lib.ListN.{length, take, drop}
use Rattle.whole.specs.Lists.{zeros}
use Rattle.whole.specs.Quotient.{floor_quotient, nearest_quotient}
use Rattle.whole.proofs.Tests.{neither}
use Rattle.lattice.specs.Rows.{neg, all_zero}
use Rattle.tableau.specs.Table.{tableau}
use Rattle.tableau.specs.Elimination.{Left}
use Rattle.tableau.specs.RightSide.{none, some, Solved, sweep, leading, remaining, basis, right_side, form, solve}
use Rattle.tableau.specs.RoundedDown.{form_down, solve_down, FormUnchanged, FoundUnchanged, SolveUnchanged}
use Rattle.tableau.proofs.GatherLaws.{floor_shrinks, nearest_shrinks}
use Rattle.tableau.proofs.TableLaws.{tableau_length, tableau_independent}
use Rattle.tableau.proofs.Theorems.{quotient_unchanged}

pub form_unchanged : FormUnchanged
unfolding form form_down
form_unchanged n A =
    quotient_unchanged nearest_quotient floor_quotient nearest_shrinks floor_shrinks (length A + n) (tableau n A) (tableau_length n A)
    (tableau_independent n A)

module _ (m : ℕ) (T : List (List ℤ)) (v : List ℤ) where
  abbrev w : Left
  w = sweep (leading m T) v

  abbrev u : Left
  u = sweep (remaining m T) w.row

  -- by whether the first m numbers are 0 then, and by the form's mark
  abbrev by : Bool → Bool → Solved
  by t x =
      cond {A = Solved} t (record { form = T; found = some (drop m u.row) (basis m T); over = x || (w.over || u.over) })
      (record { form = T; found = none; over = x || w.over })

  found_any : (x y : Bool) → (right_side m T x v).found ≡ (right_side m T y v).found
  unfolding right_side
  found_any x y = go (all_zero (take m w.row))
    where
      go : (t : Bool) → (by t x).found ≡ (by t y).found
      go true = refl
      go false = refl

  unmarked : (x : Bool) → (right_side m T x v).over ≡ false → x ≡ false
  unfolding right_side
  unmarked x = go (all_zero (take m w.row))
    where
      go : (t : Bool) → (by t x).over ≡ false → x ≡ false
      go true e = (neither x (w.over || u.over) e).0
      go false e = (neither x w.over e).0

pub found_unchanged : FoundUnchanged
unfolding solve solve_down
found_unchanged n A b =
    ap (λ (T : List (List ℤ)). (right_side (length A) T (form n A).over (neg b ++ zeros n)).found) (form_unchanged n A)
    ∙ found_any (length A) (form_down n A).table (neg b ++ zeros n) (form n A).over (form_down n A).over

pub solve_unchanged : SolveUnchanged
unfolding solve solve_down
solve_unchanged n A b h k =
    let x : (form n A).over ≡ false = unmarked (length A) (form n A).table (neg b ++ zeros n) (form n A).over h in
    let y : (form_down n A).over ≡ false = unmarked (length A) (form_down n A).table (neg b ++ zeros n) (form_down n A).over k in
    ap₂ (λ (T : List (List ℤ)) (o : Bool). right_side (length A) T o (neg b ++ zeros n)) (form_unchanged n A) (x ∙ sym y)
