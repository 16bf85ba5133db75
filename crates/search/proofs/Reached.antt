-- What a turn of settling needs, from what it is handed.
--   ready_measurable     ready columns can be measured in the bounds part
--   ready_allowed        the values are such as a move of the part that is reached may leave
--   allowed-..           where they are, the columns can be measured in that part, and the ranked ones have proper measures
--   search_sized         so each column of a search has a size that can be measured
-- Assumes nothing.
use mathlib.Core.Path.{◌≡◌, refl, sym, ◌∙◌, ap, subst}
use mathlib.Core.Bool.{Bool, true, false, not}
use mathlib.Core.List.{List}
use Prim.Native.Nat.{ℕ, ◌<◌}
use native.Mathlib.Omega.{arith}
use borrow.Author.Tests.{le-ltb}
use lib.Dec.{eqb}
use lib.IntN.{ℤ, nat_abs}
use lib.ListN.{length}
use Rattle.whole.specs.Lists.{entry}
use Rattle.whole.proofs.Counted.{every_at}
use Rattle.whole.proofs.Never.{never}
use Rattle.problem.specs.Limits.{M}
use Rattle.settling.specs.Rankings.{Proper}
use Rattle.settling.specs.declared.Basis.{Basis}
use Rattle.settling.specs.declared.Column.{Column}
use Rattle.settling.specs.declared.Part.{Part}
use Rattle.settling.specs.declared.Part.TheVariants.{Bounds, Goals}
use Rattle.settling.specs.Columns.{column_at, columns_in, cell}
use Rattle.settling.specs.Measures.{distance}
use Rattle.settling.specs.Steps.{in_bounds, part_if, part_of, is_allowed, ranked_at}
use Rattle.settling.specs.Ready.{Ready}
use Rattle.settling.specs.Sizes.{FitCell}
use Rattle.settling.proofs.Sizes.{allowed_sized, fit_sized}
use Rattle.settling.proofs.Blocking.{fit_proper}
use Rattle.search.specs.declared.given.Search.{Search}
use Rattle.search.specs.Given.{Measurable, Allowed}
use Rattle.search.specs.Searches.{columns_of}

module _ (B : Basis) (T : List Column) (v : List ℤ) (r : Ready B v T) where
  near_sized : (j : ℕ) → FitCell Bounds (cell (columns_in B.columns T) v j)
  near_sized j = fit_sized Bounds (column_at T j) (entry j v) (r.columns j) (omega (arith, r.values_small j))

  table_long : length T ≡ length v
  table_long = r.table_long ∙ sym r.values_long

  pub ready_measurable : Measurable Bounds T v
  ready_measurable = record { long = table_long; sized = λ j h. near_sized j }

  -- ---- the part that is reached
  goals_inside : Goals ≡ part_of (columns_in B.columns T) v → in_bounds (columns_in B.columns T) v ≡ true
  goals_inside e = go (in_bounds (columns_in B.columns T) v) refl e
    where
      go : (t : Bool) → in_bounds (columns_in B.columns T) v ≡ t → Goals ≡ part_if t → in_bounds (columns_in B.columns T) v ≡ true
      go true f g = f
      go false f g = never (cc)

  reached_allowed : (p : Part) → p ≡ part_of (columns_in B.columns T) v → (j : ℕ) → j < B.columns
      → is_allowed p (cell (columns_in B.columns T) v j) ≡ true
  reached_allowed Bounds e j h = ap not (le-ltb M (nat_abs (entry j v)) (r.values_small j))
  reached_allowed Goals e j h = every_at B.columns (λ i. eqb (distance (cell (columns_in B.columns T) v i)) 0) j (goals_inside e) h

  pub ready_allowed : (p : Part) → p ≡ part_of (columns_in B.columns T) v → Allowed p (columns_in B.columns T) v
  ready_allowed p e = record { each = reached_allowed p e }

  -- ---- where the values are such as a move of the part may leave
  module _ (p : Part) (a : Allowed p (columns_in B.columns T) v) where
    pub allowed_fit : (j : ℕ) → j < B.columns → FitCell p (cell (columns_in B.columns T) v j)
    allowed_fit j h = allowed_sized p (cell (columns_in B.columns T) v j) (near_sized j) (a.each j h)

    pub allowed_measurable : Measurable p T v
    allowed_measurable = record {
      long = table_long;
      sized = λ j h. subst (λ (n : ℕ). FitCell p (cell (columns_in n T) v j)) (sym r.values_long) (allowed_fit j (omega (arith, r.values_long)));
    }

    pub allowed_proper : (j : ℕ) → j < B.columns → ranked_at p (columns_in B.columns T) v j ≡ true → Proper p (columns_in B.columns T) v j
    allowed_proper j h e = fit_proper p (column_at T j) (entry j v) (r.columns j) (a.each j h) e

-- ---- where a step is searched for
pub search_sized : (S : Search) (j : ℕ) → j < S.basis.columns → FitCell S.part (cell (columns_of S) S.values.now j)
search_sized S = allowed_fit S.basis S.columns.now S.values.now S.ready S.part S.allowed
