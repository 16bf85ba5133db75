-- Laws of the test whether all numbers of a list are 0.
--   all_zero_is   the machine's test of each number is the definition's
-- Assumes nothing.
use mathlib.Core.Path.{◌≡◌, refl, sym, ◌∙◌, ap₂}
use mathlib.Core.Bool.{Bool, ◌&&◌}
use mathlib.Core.List.{List, [], ◌∷◌}
use Prim.Native.Nat.{suc, ◌≤◌}
use native.Mathlib.Omega.{arith}
use borrow.Author.Tests.{ne_eqb}
use lib.Dec.{eqb}
use lib.IntN.{ℤ, pos, negsuc, nat_abs}
use mir.Syntax.{w64}
use mir.Val.{of_z}
use Rattle.std.specs.List.{list_all}
use Rattle.whole.specs.Tests.{is_zero}
use Rattle.whole.proofs.Tests.{neither}
use Rattle.lattice.specs.Rows.{all_zero}
use Rattle.problem.specs.Limits.{M, beyond, any_beyond}
use Rattle.tableau.specs.Within.{Within}
use Rattle.tableau.proofs.Within.{within_entry}

abbrev pub stored_zero : ℤ → Bool
stored_zero x = eqb (of_z w64 x) 0

zero_is : (x : ℤ) → nat_abs x ≤ M → stored_zero x ≡ is_zero x
zero_is (pos n) h = refl
zero_is (negsuc n) h = ne_eqb (of_z w64 (negsuc n)) 0 (λ e. omega (arith, e)) ∙ sym (ne_eqb (suc n) 0 (λ e. omega (arith, e)))

pub all_zero_is : (l : List ℤ) → Within l → list_all stored_zero l ≡ all_zero l
unfolding all_zero any_beyond
all_zero_is [] h = refl
all_zero_is (x ∷ l) h =
    ap₂ ◌&&◌ (zero_is x (within_entry (x ∷ l) 0 h)) (all_zero_is l (neither (beyond x) (any_beyond l) h).1)
