-- The preview, by what is found before it.
--   both_long          where the length that stands for both lists is n, both have n numbers
--   shown_with k t x   what is displayed, with t in the tableau, of k rounds
--   preview_ground     a preview is made of what is found
--   preview_shown      where nothing is refused it is what is displayed over the basis in the tableau
-- Assumes nothing.
use mathlib.Core.Path.{◌≡◌, refl, sym, ◌∙◌, ap}
use mathlib.Core.Bool.{Bool, true, false, cond}
use mathlib.Core.List.{List}
use Prim.Native.Nat.{ℕ}
use borrow.Author.Tests.{eqb-true, eqb-false}
use lib.Dec.{eqb}
use lib.IntN.{ℤ}
use lib.ListN.{length}
use Rattle.whole.specs.Lists.{zeros}
use Rattle.lattice.specs.Rows.{flat}
use Rattle.problem.specs.Checks.{Posed, Check, first_cause}
use Rattle.problem.specs.declared.Refusal.TheVariants.{Elimination, Standing}
use Rattle.std.specs.Prelude.{Ok, Err}
use Rattle.engine.specs.Assign.{Buffers, n, columns, rounds_of, stands, formed}
use Rattle.engine.specs.Ground.{grounded, on_first, laid_ground}
use Rattle.engine.specs.Outcomes.{basis_left}
use Rattle.engine.specs.Preview.{Shown, shown, with_limit, list_length, lent_beside, unshown, on_cause, shown_on, preview}
use Rattle.engine.specs.BasisPlace.{basis_of}
use Rattle.engine.specs.Showing.{Displayed, displayed_by}
use Rattle.engine.proofs.Forming.{laid_basis}
use Rattle.engine.proofs.Grounding.{by_ground, Clear, clear_passes, clear_laid}

pub both_long : (n a b : ℕ) → list_length n a b ≡ n → (a ≡ n) × (b ≡ n)
both_long n a b = go (eqb a n) refl
  where
    go : (t : Bool) → eqb a n ≡ t → cond t b a ≡ n → (a ≡ n) × (b ≡ n)
    go true e h = (eqb-true a n e, h)
    go false e h = absurd (eqb-false a n e h)

abbrev pub shown_with : ℕ → List ℤ → Displayed → Shown
shown_with k t x = shown (Ok x.next) k t x.after x.strides

module _ (P : Posed) (v : List ℤ) (B : Buffers) where
  abbrev x : Shown
  x = shown_on P (formed P).table (basis_left P) v

  by_cases :
      (c : Check) (s o : Bool) (k : ℕ) (u : List ℤ)
      → on_cause c B (cond s (cond o (unshown Elimination (zeros (length B.tableau)) B) x) (unshown Standing B.tableau B))
      ≡ by_ground (λ why t. unshown why t B) x (on_first c B.tableau
      (cond s (cond o (grounded (Err Elimination) (zeros (length B.tableau))) (grounded (Ok k) u))
      (grounded (Err Standing) B.tableau)))
  by_cases (Err why) s o k u = refl
  by_cases (Ok z) false o k u = refl
  by_cases (Ok z) true true k u = refl
  by_cases (Ok z) true false k u = refl

  pub preview_ground : preview P v B ≡ by_ground (λ why t. unshown why t B) x (laid_ground (with_limit 1 P) v (lent_beside (n P) v B) B.tableau)
  unfolding preview laid_ground
  preview_ground = by_cases (first_cause (with_limit 1 P) (lent_beside (n P) v B)) (stands P v) (formed P).over (rounds_of P) (flat (formed P).table)

  module _ {u : List ℤ} (c : Clear (with_limit 1 P) v (lent_beside (n P) v B) B.tableau u) where
    pub preview_shown : preview P v B ≡ shown_with (rounds_of P) u (displayed_by (columns P) (basis_of (with_limit 1 P).problem u) v)
    unfolding preview
    preview_shown =
        rw (c.passed, c.standing, c.kept) refl
        ∙ ap (λ (t : List ℤ). shown_with (rounds_of P) t (displayed_by (columns P) (basis_left P) v)) (sym c.is)
        ∙ ap (λ (N : List (List ℤ)). shown_with (rounds_of P) u (displayed_by (columns P) N v))
        (sym (laid_basis (with_limit 1 P) (lent_beside (n P) v B) (clear_passes _ _ _ _ c) (clear_laid _ _ _ _ c)))
