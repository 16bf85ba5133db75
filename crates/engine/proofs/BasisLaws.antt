-- The rows of the tableau that are the basis, in the list in which they lie.
--   basis_start p h  where the basis starts behind h leading rows
--   basis_view_lem   the vectors that lie there are the basis
--   basis_lies       so they are in a parted list of the tableau's length
-- Assumes nothing.
use mathlib.Core.Path.{◌≡◌, refl, sym, ◌∙◌, ap, ap₂}
use mathlib.Core.Bool.{Bool, true, false, cond}
use mathlib.Core.List.{List, [], ◌∷◌, ◌++◌, map}
use Prim.Native.Nat.{ℕ, zero, suc, ◌+◌, ◌*◌, ◌-◌}
use native.Mathlib.Omega.{arith}
use borrow.Author.Tests.{ltb-false}
use lib.Dec.{ltb}
use lib.IntN.{ℤ}
use lib.ListN.{length, take, drop, length-append, length-drop}
use lib.Seq.{drop-drop, take_at, drop-append-le, drop-append-add}
use Rattle.lattice.specs.Rows.{flat}
use Rattle.lattice.specs.Span.{All, Len}
use Rattle.lattice.proofs.Span.{all_append}
use Rattle.lattice.proofs.FlatLaws.{flat_append, flat_chop, chop_rows, length_chop, length_flat}
use Rattle.problem.specs.declared.Problem.{Problem}
use Rattle.tableau.specs.RightSide.{leading, remaining, basis}
use Rattle.tableau.proofs.RightLaws.{rising_split}
use Rattle.settling.specs.Views.{rows_of}
use Rattle.engine.specs.BasisPlace.{Parted, basis_of, table_of, width}

-- where the first number of the basis stands behind h leading rows: at the tableau's end where there is no vector
abbrev pub basis_start : Problem → ℕ → ℕ
basis_start p h = cond (ltb h p.columns) (h * width p + p.rows) (p.columns * width p)

-- ---- rows in a list
-- the rows of R without their first m numbers
rows_drop : (m n : ℕ) (R : List (List ℤ)) → All (Len (m + n)) R → rows_of (length R) n (m + n) (drop m (flat R)) ≡ map (drop m) R
unfolding rows_of
rows_drop m n [] a = refl
rows_drop m n (r ∷ R) a =
    let l : drop m (r ++ flat R) ≡ drop m r ++ flat R = drop-append-le m r (flat R) (omega (arith, a.0)) in
    let k : length (drop m r) ≡ n = length-drop m r ∙ omega (arith, a.0) in
    let at : m + (m + n) ≡ length r + m = omega (arith, a.0) in
    let next : drop (m + n) (drop m (r ++ flat R)) ≡ drop m (flat R) =
    drop-drop (m + n) m (r ++ flat R) ∙ ap (λ (i : ℕ). drop i (r ++ flat R)) at ∙ drop-append-add r (flat R) m in
    ap₂ ◌∷◌ (ap (take n) l ∙ take_at (drop m r) (flat R) n k) (ap (rows_of (length R) n (m + n)) next ∙ rows_drop m n R a.1)

-- ---- the basis
-- of a table of n rows of m + n numbers whose leading rows stand above the others
module _ (p : Problem) (T : List (List ℤ)) (w : All (Len (width p)) T) (c : length T ≡ p.columns)
    (s : leading p.rows T ++ remaining p.rows T ≡ T) where
  abbrev L : List (List ℤ)
  L = leading p.rows T

  abbrev R : List (List ℤ)
  R = remaining p.rows T

  both_wide : All (Len (width p)) L × All (Len (width p)) R
  both_wide = (all_append (Len (width p)) L R).0 (rw s w)

  counted : length L + length R ≡ p.columns
  counted = sym (length-append L R) ∙ ap length s ∙ c

  behind : drop (length L * width p + p.rows) (flat T) ≡ drop p.rows (flat R)
  behind =
      let e : length L * width p + p.rows ≡ length (flat L) + p.rows = omega (arith, length_flat (width p) L both_wide.0) in
      ap (λ (i : ℕ). drop i (flat T)) e ∙ ap (λ (X : List (List ℤ)). drop (length (flat L) + p.rows) (flat X)) (sym s)
      ∙ ap (drop (length (flat L) + p.rows)) (flat_append L R) ∙ drop-append-add (flat L) (flat R) p.rows

  pub basis_view_lem : rows_of (p.columns - length L) p.columns (width p) (drop (basis_start p (length L)) (flat T)) ≡ basis p.rows T
  unfolding rows_of
  basis_view_lem = go (ltb (length L) p.columns) refl
    where
      r : p.columns - length L ≡ length R
      r = omega (arith, counted)

      none : (k : ℕ) → k ≡ 0 → (l : List ℤ) (X : List (List ℤ)) → length X ≡ k → rows_of k p.columns (width p) l ≡ map (drop p.rows) X
      none zero e l [] f = refl
      none zero e l (x ∷ X) f = absurd (omega arith)
      none (suc k) e l X f = absurd (omega arith)

      go : (t : Bool) → ltb (length L) p.columns ≡ t
          → rows_of (p.columns - length L) p.columns (width p)
          (drop (cond (ltb (length L) p.columns) (length L * width p + p.rows) (p.columns * width p)) (flat T)) ≡ basis p.rows T
      go true e = rw (e, r, behind) (rows_drop p.rows p.columns R both_wide.1)
      go false e = none (p.columns - length L) (omega (arith, ltb-false (length L) p.columns e)) _ R (sym r)

-- ---- in a list of the tableau's length
pub basis_lies :
    (p : Problem) (t : List ℤ) → Parted p t → (h : ℕ) → h ≡ length (leading p.rows (table_of p t))
    → rows_of (p.columns - h) p.columns (width p) (drop (basis_start p h) t) ≡ basis_of p t
basis_lies p t a h e =
    let T : List (List ℤ) = table_of p t in
    let k : ℕ = length (leading p.rows T) in
    ap (λ (i : ℕ). rows_of (p.columns - i) p.columns (width p) (drop (basis_start p i) t)) e
    ∙ ap (λ (l : List ℤ). rows_of (p.columns - k) p.columns (width p) (drop (basis_start p k) l)) (sym (flat_chop p.columns (width p) t a.long))
    ∙ basis_view_lem p T (chop_rows p.columns (width p) t a.long) (length_chop p.columns (width p) t) (rising_split p.rows 0 T a.rises)
