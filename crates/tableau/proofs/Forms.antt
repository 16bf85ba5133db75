-- Laws of the form of a problem, as it lies in the lent buffer.
--   span_within    numbers within a limit no larger than M; coefficients-within, the rows of a matrix of coefficients
--   form_value, form_left   what elimination of the filled table answers and leaves is the form's
--   Formed         what stands in the tableau's buffer then: the form's rows, each with a lead above 0, within ±M
--   formed         so it is, where no number beyond ±M was met
--   form_over, form_kept   what the buffer holds, by the mark
-- Assumes nothing.
use mathlib.Core.Path.{◌≡◌, refl, sym, ◌∙◌, ap, ap₂, subst}
use mathlib.Core.Bool.{Bool, true, false, cond}
use mathlib.Core.List.{List, [], ◌∷◌}
use Prim.Native.Nat.{ℕ, suc, ◌+◌, ◌*◌, ◌<◌, ◌≤◌}
use native.Mathlib.Nat.{le_trans}
use native.Mathlib.Omega.{arith}
use borrow.Author.Tests.{le-ltb}
use lib.Dec.{lit≤}
use lib.IntN.{ℤ, nat_abs}
use lib.ListN.{length}
use Rattle.whole.specs.Lists.{entry, zeros}
use Rattle.lattice.specs.Rows.{flat, chop}
use Rattle.lattice.specs.Span.{All, Len}
use Rattle.lattice.proofs.Span.{all_map}
use Rattle.lattice.specs.Hermite.{Echelon, width, rows, Led, Hermite}
use Rattle.lattice.proofs.Hermite.{rows_led}
use Rattle.lattice.proofs.FlatLaws.{flat_chop, chop_flat, length_chop}
use Rattle.problem.specs.Limits.{M, max_coefficient, any_beyond}
use Rattle.tableau.specs.Within.{Within}
use Rattle.problem.specs.Checks.{all_span}
use Rattle.problem.proofs.CheckLaws.{all_small}
use Rattle.problem.specs.declared.Problem.{Problem}
use Rattle.tableau.specs.Table.{tableau}
use Rattle.tableau.specs.Elimination.{Run, eliminate}
use Rattle.tableau.specs.RightSide.{form}
use Rattle.tableau.proofs.TableLaws.{tableau_count, tableau_length}
use Rattle.tableau.proofs.Theorems.{problem_form, problem_count, problem_wide}
use Rattle.tableau.specs.RowSteps.{unless, Leads}
use Rattle.tableau.specs.LentTable.{Formable, matrix_of, form_of, form_after, form_answer, eliminated_of, rounds_in}
use Rattle.tableau.specs.RoundCount.{rounds, form_rounds}
use Rattle.tableau.proofs.Staying.{flat_all, all_flat, eliminate_all}
use Rattle.tableau.proofs.Tableaus.{tableau_within}

-- ---- numbers within a limit
numbers_within : (l : List ℤ) → ((i : ℕ) → i < length l → nat_abs (entry i l) ≤ M) → Within l
unfolding any_beyond
numbers_within [] f = refl
numbers_within (x ∷ l) f = rw (le-ltb M (nat_abs x) (f 0 (omega arith))) (numbers_within l (λ i h. f (suc i) (omega arith)))

pub span_within : (k : ℕ) (l : List ℤ) → k ≤ M → all_span k l ≡ true → Within l
span_within k l h e = numbers_within l (λ i p. le_trans (all_small k l e i) h)

pub coefficients_within : (m n : ℕ) (a : List ℤ) → length a ≡ m * n → all_span max_coefficient a ≡ true → All Within (chop m n a)
coefficients_within m n a l e = all_flat (chop m n a) (rw (flat_chop m n a l) (span_within max_coefficient a (lit≤ tt) e))

-- ---- the leads of a Hermite form
hermite_leads : (H : Echelon) → Hermite H → All Leads (rows H)
hermite_leads H h = all_map (Led (width H)) Leads (λ r l. l.above) (rows H) (rows_led H h)

-- ---- the form
pub record Formed (p : Problem) (F : Run) (t : List ℤ) : Type 0 where
  pub rows : chop p.columns (p.rows + p.columns) t ≡ F.table
  pub leads : All Leads (chop p.columns (p.rows + p.columns) t)
  pub small : Within t

module _ {p : Problem} {t a : List ℤ} (h : Formable p t a) where
  abbrev n : ℕ
  n = p.columns

  abbrev w : ℕ
  w = p.rows + p.columns

  abbrev A : List (List ℤ)
  A = matrix_of p a

  pub count : length A ≡ p.rows
  count = length_chop p.rows p.columns a

  pub table_within : Within (flat (tableau n A))
  table_within = tableau_within n A (coefficients_within p.rows p.columns a h.matrix h.small)

  table_wide : All (Len w) (tableau n A)
  table_wide = subst (λ (i : ℕ). All (Len (i + n)) (tableau n A)) count (tableau_length n A)

  table_rows : chop n w (flat (tableau n A)) ≡ tableau n A
  table_rows = ap (λ (i : ℕ). chop i w (flat (tableau n A))) (sym (tableau_count n A)) ∙ chop_flat w (tableau n A) table_wide

  form_is : eliminate w (tableau n A) ≡ form_of p a
  unfolding form
  form_is = ap (λ (i : ℕ). eliminate (i + n) (tableau n A)) (sym count)

  rounds_is : rounds w (tableau n A) ≡ form_rounds n A
  unfolding form_rounds
  rounds_is = ap (λ (i : ℕ). rounds (i + n) (tableau n A)) (sym count)

  module _ {u : List ℤ} (e : u ≡ flat (tableau n A)) where
    rows_are : chop n w u ≡ tableau n A
    rows_are = ap (chop n w) e ∙ table_rows

    run_is : eliminated_of n w u ≡ form_of p a
    run_is = ap (eliminate w) rows_are ∙ form_is

    pub form_value : unless (eliminated_of n w u).over (rounds_in n w u) ≡ form_answer p a
    form_value = ap₂ (λ (x : Run) (k : ℕ). unless x.over k) run_is (ap (rounds w) rows_are ∙ rounds_is)

    pub form_left : length u ≡ length t → form_after (eliminated_of n w u) u ≡ form_after (form_of p a) t
    form_left l = simp (run_is, l)

  form_rows : (form_of p a).table ≡ rows (problem_form n A).form
  unfolding form
  form_rows = (problem_form n A).is

  form_wide : All (Len w) (form_of p a).table
  form_wide = subst (λ (i : ℕ). All (Len (i + n)) (form_of p a).table) count (problem_wide n A)

  pub formed : {v : List ℤ} → (form_of p a).over ≡ false → v ≡ flat (form_of p a).table → Formed p (form_of p a) v
  formed {v} o e =
      let c : chop n w v ≡ (form_of p a).table =
      ap (chop n w) e ∙ ap (λ (i : ℕ). chop i w (flat (form_of p a).table)) (sym (problem_count n A)) ∙ chop_flat w (form_of p a).table form_wide in
      record {
        rows = c;
        leads = subst (All Leads) (sym (c ∙ form_rows)) (hermite_leads (problem_form n A).form (problem_form n A).hermite);
        small =
            subst Within (sym e)
            (flat_all (form_of p a).table
            (subst (λ (x : Run). All Within x.table) form_is
            (eliminate_all w (tableau n A) (all_flat (tableau n A) table_within) (ap (λ (x : Run). x.over) form_is ∙ o))));
      }

-- ---- the buffer
pub form_over : (p : Problem) (a t : List ℤ) → (form_of p a).over ≡ true → form_after (form_of p a) t ≡ zeros (length t)
form_over p a t e = ap (λ (o : Bool). cond o (zeros (length t)) (flat (form_of p a).table)) e

pub form_kept : (p : Problem) (a t : List ℤ) → (form_of p a).over ≡ false → form_after (form_of p a) t ≡ flat (form_of p a).table
form_kept p a t e = ap (λ (o : Bool). cond o (zeros (length t)) (flat (form_of p a).table)) e
