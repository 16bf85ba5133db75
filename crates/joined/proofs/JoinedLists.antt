-- The lists of two parts, joined number by number, are those of the joined columns.
--   numbers_of          a list of a part holds the numbers of its columns
--   list_joined         so each list is joined, where a shared column takes f of two numbers
--   ideals_joined       and of the ideals
-- Assumes nothing.
use mathlib.Core.Path.{◌≡◌, sym, ◌∙◌, ap, ap₂}
use mathlib.Core.List.{List, ◌++◌, map}
use Prim.Native.Nat.{ℕ}
use native.Mathlib.Omega.{arith}
use lib.IntN.{ℤ, pos}
use lib.ListN.{length, get_or, length-map, get_or-map}
use lib.Seq.{ext_get_or}
use Rattle.whole.specs.Lists.{entry}
use Rattle.pairing.specs.Parts.{Lists, Part, PartColumn, no_column, column_in, columns}
use Rattle.pairing.proofs.Partners.{length_columns, at_columns, Partners}
use Rattle.joined.specs.Columns.{shared, places, unshared, joined_columns}
use Rattle.joined.specs.Filling.{absorb_into, absorb_ideals}
use Rattle.std.specs.Prelude.{Option}
use Rattle.joined.proofs.Filling.{absorb_into_lem, absorb_ideals_into}

-- f is the number of a column that the list g is for
pub numbers_of : (f : PartColumn → ℤ) (g : Lists → List ℤ) → f no_column ≡ pos 0 → ((l : Lists) (j : ℕ) → f (column_in l j) ≡ entry j (g l))
    → (P : Part) → length (g P.lists) ≡ P.columns → map f (columns P) ≡ g P.lists
numbers_of f g z e P l =
    ext_get_or (pos 0) (map f (columns P)) (g P.lists) (length-map (columns P) f ∙ length_columns P ∙ sym l)
    (λ j h.
    ap (λ (d : ℤ). get_or (map f (columns P)) j d) (sym z) ∙ get_or-map f (columns P) j no_column
    ∙ ap f (at_columns P j (omega (arith, h, length-map (columns P) f, length_columns P))) ∙ e P.lists j)

module _ (P Q : Part) (R : List (Option ℕ)) (r : Partners P Q R) where
  long : length R ≡ length (columns Q)
  long = r.long ∙ sym (length_columns Q)

  pub list_joined : (f : ℤ → ℤ → ℤ) (h : PartColumn → ℤ) → h no_column ≡ pos 0 → ((c d : PartColumn) → h (shared c d) ≡ f (h c) (h d))
      → (l k u : List ℤ) → map h (columns P) ≡ l → map h (columns Q) ≡ k → length u ≡ unshared R
      → absorb_into f (l ++ u) R (places P R) k ≡ map h (joined_columns P Q R)
  list_joined f h z s l k u e g n =
      sym (ap₂ (λ (x y : List ℤ). absorb_into f (x ++ u) R (places P R) y) e g)
      ∙ absorb_into_lem f h z s P.columns (columns P) R (columns Q) u (sym (length_columns P)) long (sym n) r.ready

  pub ideals_joined : (g l h k u v : List ℤ) → map (λ c. c.given) (columns P) ≡ g → map (λ c. c.ideal) (columns P) ≡ l
      → map (λ c. c.given) (columns Q) ≡ h → map (λ c. c.ideal) (columns Q) ≡ k → length u ≡ unshared R → length v ≡ unshared R
      → absorb_ideals (g ++ u) (l ++ v) R (places P R) h k ≡ map (λ c. c.ideal) (joined_columns P Q R)
  ideals_joined g l h k u v eg el eh ek n m =
      sym (λ i. absorb_ideals (eg i ++ u) (el i ++ v) R (places P R) (eh i) (ek i))
      ∙ absorb_ideals_into P.columns (columns P) R (columns Q) u v (sym (length_columns P)) long (sym n) (sym m) r.ready
