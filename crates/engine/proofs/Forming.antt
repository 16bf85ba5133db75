-- What the form of a problem leaves in the tableau.
--   formable        a problem that passes the checks can be formed; solvable, and its right side taken through the form
--   basis_few       a basis has no more vectors than the form has rows
--   form_within     no number of a form lies beyond ±M
--   Laid P t        the list t is the form's table, row after row, and the problem is not past the elimination limit
--   laid_table      its rows are the form's; laid-basis, and the basis among them is the problem's
--   laid_parted     it is parted
--   start_small     a starting list lies within ±M
-- Assumes nothing.
use mathlib.Core.Path.{◌≡◌, sym, ◌∙◌, ap, subst}
use mathlib.Core.Bool.{Bool, true, false, cond, ◌||◌}
use mathlib.Core.List.{List, ◌++◌}
use native.Mathlib.Omega.{arith}
use Rattle.std.proofs.lemmas.List.{length-map}
use Rattle.tableau.proofs.RightLaws.{rising_split}
use Prim.Native.Nat.{ℕ, ◌+◌, ◌*◌, ◌≤◌}
use lib.IntN.{ℤ, pos, nat_abs}
use lib.Dec.{lit≤}
use lib.ListN.{length, take, drop, length-append, length-replicate}
use Rattle.whole.specs.Lists.{entry, zeros}
use Rattle.whole.proofs.Never.{never}
use Rattle.lattice.specs.Rows.{neg, all_zero, flat, chop}
use Rattle.lattice.specs.Span.{All, Len}
use Rattle.lattice.specs.Hermite.{Rising}
use Rattle.lattice.proofs.FlatLaws.{length_chop, chop_flat, length_flat}
use Rattle.problem.specs.Limits.{M, max_coefficient, max_right}
use Rattle.tableau.specs.Within.{Within}
use Rattle.problem.specs.Checks.{Posed, all_span}
use Rattle.whole.proofs.Tests.{both_true, neither}
use Rattle.problem.proofs.CheckLaws.{Passes, Fits, fits}
use Rattle.problem.specs.declared.Lent.{Lent}
use Rattle.tableau.specs.Table.{tableau}
use Rattle.tableau.specs.Elimination.{Left}
use Rattle.tableau.specs.RightSide.{sweep, leading, remaining, basis, none, some, Solved, right_side, form, solve}
use Rattle.tableau.proofs.Theorems.{problem_count, problem_wide, problem_rising}
use Rattle.tableau.proofs.Within.{within_append, within_neg, within_zeros, within_drop, within_entry}
use Rattle.tableau.specs.LentTable.{Formable}
use Rattle.rightside.specs.Solutions.{Solvable}
use Rattle.tableau.proofs.Forms.{table_within, span_within}
use Rattle.tableau.proofs.Staying.{flat_all, all_flat, eliminate_all}
use Rattle.rightside.proofs.Sweeping.{sweep_within}
use Rattle.engine.specs.Assign.{n, m, matrix, solved, formed}
use Rattle.engine.specs.BasisPlace.{width, table_of, basis_of, Parted}

-- a basis has no more vectors than the form has rows
pub basis_few : (P : Posed) → length (basis (m P) (formed P).table) ≤ n P
basis_few P =
    let T : List (List ℤ) = (formed P).table in
    omega (
      arith,
      length-map (remaining (m P) T) (drop (m P)),
      length-append (leading (m P) T) (remaining (m P) T),
      ap length (rising_split (m P) 0 T (problem_rising (n P) (matrix P))),
      problem_count (n P) (matrix P),
    )

module _ (P : Posed) (L : Lent) (q : Passes P L) where
  abbrev f : Fits P L
  f = fits P L q

  pub formable : (t : List ℤ) → length t ≡ L.tableau → Formable P.problem t P.coefficients
  formable t e = record {
    columns = f.few_columns;
    rows = f.few_rows;
    table = e ∙ f.tableau_long;
    matrix = f.coefficients_long;
    small = (both_true (all_span max_coefficient P.coefficients) (all_span max_right P.rights) q.rows).0;
  }

  pub solvable : (t s : List ℤ) → length t ≡ L.tableau → length s ≡ n P → Solvable P.problem t P.coefficients P.rights s
  solvable t s e g = record {
    form = formable t e;
    right = f.rights_long;
    start = g;
    small = (both_true (all_span max_coefficient P.coefficients) (all_span max_right P.rights) q.rows).1;
  }

  count : length (matrix P) ≡ m P
  count = length_chop (m P) (n P) P.coefficients

  wide : All (Len (width P.problem)) (formed P).table
  wide = subst (λ (k : ℕ). All (Len (k + n P)) (formed P).table) count (problem_wide (n P) (matrix P))

  rows : chop (n P) (width P.problem) (flat (formed P).table) ≡ (formed P).table
  rows =
      ap (λ (k : ℕ). chop k (width P.problem) (flat (formed P).table)) (sym (problem_count (n P) (matrix P)))
      ∙ chop_flat (width P.problem) (formed P).table wide

  -- no number of a form that is not past the limit lies beyond ±M
  pub form_within : (formed P).over ≡ false → All Within (formed P).table
  unfolding form
  form_within e =
      let z : length (zeros L.tableau) ≡ L.tableau = length-replicate L.tableau (pos 0) in
      let w : All Within (tableau (n P) (matrix P)) = all_flat (tableau (n P) (matrix P)) (table_within (formable (zeros L.tableau) z)) in
      eliminate_all (length (matrix P) + n P) (tableau (n P) (matrix P)) w e

  -- ---- the form in a list
  pub record Laid (t : List ℤ) : Type 0 where
    pub is : t ≡ flat (formed P).table
    pub kept : (formed P).over ≡ false

  module _ {t : List ℤ} (a : Laid t) where
    pub laid_table : table_of P.problem t ≡ (formed P).table
    laid_table = ap (chop (n P) (width P.problem)) a.is ∙ rows

    pub laid_basis : basis_of P.problem t ≡ basis (m P) (formed P).table
    laid_basis = ap (basis (m P)) laid_table

    laid_within : Within t
    laid_within = subst Within (sym a.is) (flat_all (formed P).table (form_within a.kept))

    pub laid_parted : Parted P.problem t
    laid_parted = record {
      long = ap length a.is ∙ length_flat (width P.problem) (formed P).table wide
          ∙ ap (λ (k : ℕ). k * width P.problem) (problem_count (n P) (matrix P));
      small = λ i. within_entry t i laid_within;
      rises = subst (Rising 0) (sym laid_table) (problem_rising (n P) (matrix P));
    }

  -- ---- the starting list
  right_within : Within (neg P.rights ++ zeros (n P))
  right_within =
      within_append (neg P.rights) (zeros (n P))
      (within_neg P.rights (span_within max_right P.rights (lit≤ tt)
      (both_true (all_span max_coefficient P.coefficients) (all_span max_right P.rights) q.rows).1))
      (within_zeros (n P))

  pub start_small : (s : List ℤ) (N : List (List ℤ)) → (solved P).over ≡ false → (solved P).found ≡ some s N → (j : ℕ) → nat_abs (entry j s) ≤ M
  unfolding solve right_side
  start_small s N e g j = within_entry s j (go (all_zero (take k w.row)) e g)
    where
      k : ℕ
      k = length (matrix P)

      T : List (List ℤ)
      T = (formed P).table

      w : Left
      w = sweep (leading k T) (neg P.rights ++ zeros (n P))

      z : Left
      z = sweep (remaining k T) w.row

      by : Bool → Solved
      by t =
          cond t (record { form = T; found = some (drop k z.row) (basis k T); over = (formed P).over || (w.over || z.over) })
          (record { form = T; found = none; over = (formed P).over || w.over })

      go : (t : Bool) → (by t).over ≡ false → (by t).found ≡ some s N → Within s
      go true e g =
          let a : ((formed P).over ≡ false) × (w.over || z.over ≡ false) = neither (formed P).over (w.over || z.over) e in
          let b : (w.over ≡ false) × (z.over ≡ false) = neither w.over z.over a.1 in
          let h : drop k z.row ≡ s = cc in
          subst Within h (within_drop k z.row (sweep_within (remaining k T) w.row (sweep_within (leading k T) _ right_within b.0) b.1))
      go false e g = never (cc)
