-- Laws of the solution of a problem, as it lies in the lent buffers.
--   solved_is      the right side of the form is the solution
--   solved_over, solved_form   a form past the limit; the form of a solution
--   table-.., answer_over, start_kept   what the answer and the buffers are, by the mark
--   findable       what the right side asks of the form
-- Assumes nothing.
use mathlib.Core.Path.{◌≡◌, refl, sym, ◌∙◌, ap, ap₂, subst}
use mathlib.Core.Bool.{Bool, true, false, cond}
use mathlib.Core.List.{List, ◌++◌}
use Prim.Native.Nat.{ℕ, ◌+◌, ◌≤◌}
use lib.Dec.{lit≤}
use lib.IntN.{ℤ}
use lib.ListN.{length, take}
use Rattle.whole.specs.Lists.{zeros}
use Rattle.whole.proofs.Lists.{take_zeros}
use Rattle.lattice.specs.Rows.{neg, all_zero, flat}
use Rattle.lattice.specs.Hermite.{Rising}
use Rattle.problem.specs.Limits.{max_right}
use Rattle.problem.specs.declared.Problem.{Problem}
use Rattle.tableau.specs.RightSide.{Solved, sweep, leading, right_side, solve}
use Rattle.tableau.specs.LentTable.{Formable, matrix_of, form_of}
use Rattle.tableau.proofs.Theorems.{problem_rising}
use Rattle.tableau.proofs.Forms.{Formed, count, span_within}
use Rattle.rightside.specs.Solutions.{Solvable, solved_of, answer_of, solution_of}
use Rattle.rightside.specs.Solutions.{tableau_after, start_of, start_after}
use Rattle.rightside.specs.Sweeps.{Findable, found_of}
use Rattle.std.specs.Prelude.{Err}
use Rattle.problem.specs.declared.Refusal.TheVariants.{Elimination}

module _ {p : Problem} {t a : List ℤ} (h : Formable p t a) where
  pub solved_is : {v : List ℤ} (b : List ℤ) → (form_of p a).over ≡ false → Formed p (form_of p a) v → solved_of p a b ≡ found_of p v b
  unfolding solve
  solved_is {v} b o f =
      ap (λ (i : ℕ). right_side i (form_of p a).table (form_of p a).over (neg b ++ zeros p.columns)) (count h)
      ∙ ap₂ (λ (T : List (List ℤ)) (x : Bool). right_side p.rows T x (neg b ++ zeros p.columns)) (sym f.rows) o

either : (P : Solved → Type 0) (z : Bool) (x y : Solved) → P x → P y → P (cond z x y)
either P true x y a b = a
either P false x y a b = b

right_form : (m : ℕ) (T : List (List ℤ)) (o : Bool) (v : List ℤ) → (right_side m T o v).form ≡ T
unfolding right_side
right_form m T o v = either (λ (x : Solved). x.form ≡ T) (all_zero (take m (sweep (leading m T) v).row)) _ _ refl refl

right_over : (m : ℕ) (T : List (List ℤ)) (v : List ℤ) → (right_side m T true v).over ≡ true
unfolding right_side
right_over m T v = either (λ (x : Solved). x.over ≡ true) (all_zero (take m (sweep (leading m T) v).row)) _ _ refl refl

pub solved_form : (p : Problem) (a b : List ℤ) → (solved_of p a b).form ≡ (form_of p a).table
unfolding solve
solved_form p a b = right_form (length (matrix_of p a)) (form_of p a).table (form_of p a).over (neg b ++ zeros p.columns)

pub solved_over : (p : Problem) (a b : List ℤ) → (form_of p a).over ≡ true → (solved_of p a b).over ≡ true
unfolding solve
solved_over p a b e =
    ap (λ (o : Bool). (right_side (length (matrix_of p a)) (form_of p a).table o (neg b ++ zeros p.columns)).over) e
    ∙ right_over (length (matrix_of p a)) (form_of p a).table (neg b ++ zeros p.columns)

-- ---- the buffers
pub table_over : (p : Problem) (a b t : List ℤ) → (solved_of p a b).over ≡ true → tableau_after (solved_of p a b) t ≡ zeros (length t)
table_over p a b t e = ap (λ (o : Bool). cond o (zeros (length t)) (flat (solved_of p a b).form)) e

pub table_kept : (p : Problem) (a b t : List ℤ) → (solved_of p a b).over ≡ false → tableau_after (solved_of p a b) t ≡ flat (form_of p a).table
table_kept p a b t e = ap (λ (o : Bool). cond o (zeros (length t)) (flat (solved_of p a b).form)) e ∙ ap flat (solved_form p a b)

pub answer_over : {A : Type 0} (x : Solved) (a : A) → x.over ≡ true → solution_of x a ≡ Err Elimination
answer_over x a e = ap (λ (o : Bool). cond o (Err Elimination) (answer_of x.found a)) e

pub start_kept : (x : Solved) (s : List ℤ) → x.over ≡ true → start_after x s ≡ s
start_kept x s e = ap (λ (o : Bool). cond o s (start_of x.found s)) e

pub findable : {p : Problem} {t a b s u : List ℤ} (n : ℕ) → Solvable p t a b s → p.rows + p.columns ≤ n → length u ≡ length t
    → Formed p (form_of p a) u
    → Findable p (take (p.rows + p.columns) (zeros n)) u b s
findable {p} {t} {a} {b} {s} {u} n h l e f = record {
  zero = take_zeros (p.rows + p.columns) n l;
  form = record {
    long = e ∙ h.form.table;
    leads = f.leads;
    rises = subst (Rising 0) (sym f.rows) (problem_rising p.columns (matrix_of p a));
    small = f.small;
  };
  right = h.right;
  small = span_within max_right b (lit≤ tt) h.small;
  start = h.start;
}
