-- What a whole assignment and a Continue come to, by what the tableau answers.
--   done_with k t x  a finished assignment with t in the tableau, of k rounds; rounds_if, which a refusal does not return
--   within_sized     within the limits, the matrix and the right sides have the sizes that n and m need
--   found_basis      the basis found is that of the form
--   solved_form, solved_kept   the form that the right side goes through, and that it is not past the limit where the whole is not
--   Solves x a k, solves   a starting list is found, and the a rounds told are k
--   assign_unsolved, -found   a whole assignment past the limit or without whole numbers, and from a starting list on
--   finishable       what is found can be finished
--   assign_failed, -passed, continue_passed   by what the checks find
--   continue_settled   a Continue over the form
-- Assumes nothing.
use mathlib.Core.Path.{◌≡◌, refl, sym, ◌∙◌, ap, ap₂, subst}
use mathlib.Core.Bool.{Bool, true, false, cond, ◌||◌}
use mathlib.Core.List.{List}
use Prim.Native.Nat.{ℕ}
use lib.IntN.{ℤ}
use lib.ListN.{length, take}
use Rattle.lattice.specs.Rows.{all_zero, flat}
use Rattle.lattice.specs.Span.{All}
use Rattle.lattice.specs.Hermite.{Led, Rising}
use Rattle.lattice.proofs.FlatLaws.{chop_rows, length_chop}
use Rattle.problem.specs.Checks.{Posed, first_cause}
use Rattle.problem.proofs.CheckLaws.{Passes, passes, Fits, fits}
use Rattle.problem.specs.declared.Lent.{Lent}
use Rattle.problem.specs.declared.Refusal.{Refusal}
use Rattle.problem.specs.declared.Refusal.TheVariants.{Elimination, NoWholeNumbers}
use Rattle.std.specs.Prelude.{Ok, Err}
use Rattle.problem.specs.Answers.{Answer}
use Rattle.tableau.specs.RightSide.{basis, Found, none, some, Solved, right_side, solve}
use Rattle.tableau.specs.Generators.{Sized}
use Rattle.whole.proofs.Tests.{neither}
use Rattle.tableau.proofs.Theorems.{problem_basis, basis_rising, solve_tells}
use Rattle.rightside.specs.Solutions.{answer_of, solution_of, tableau_after}
use Rattle.settling.specs.declared.Basis.{Basis}
use Rattle.settling.specs.declared.Column.{Column}
use Rattle.settling.specs.Seating.{Seated, seat}
use Rattle.whole.specs.Lists.{zeros}
use Rattle.whole.proofs.Never.{never}
use Rattle.engine.specs.Assign.{Buffers, Done, done, n, m, matrix, columns, lent_of, refused, over_limit}
use Rattle.engine.specs.Assign.{rounds_of, settle_on, on_seated, solved, assign_fit, assign, stands, formed, continue_fit, continue, on_found}
use Rattle.engine.specs.Demand.{WithinLimits, Starts}
use Rattle.engine.specs.Outcomes.{basis_left}
use Rattle.engine.specs.BasisPlace.{basis_of}
use Rattle.engine.specs.Finish.{Finished, settled_by, on_seat, finished, Finishable}
use Rattle.engine.proofs.Readiness.{table, Taken, seatable}
use Rattle.engine.proofs.Forming.{Laid, laid_basis, start_small}

-- a refusal returns 0 rounds
abbrev pub rounds_if : Answer → ℕ → ℕ
rounds_if (Ok x) k = k
rounds_if (Err why) k = 0

abbrev pub done_with : ℕ → List ℤ → Finished → Done
done_with k t x = done x.answer (rounds_if x.answer k) t x.values x.strides

-- ---- what it means to be within the limits
pub within_sized : (P : Posed) (B : Buffers) → WithinLimits P B → Sized (n P) (matrix P) P.rights
within_sized P B w =
    let f : Fits P (lent_of B) = fits P (lent_of B) (passes P (lent_of B) w.passed) in
    record {
      wide = chop_rows (m P) (n P) P.coefficients f.coefficients_long;
      long = f.rights_long ∙ sym (length_chop (m P) (n P) P.coefficients);
    }

-- ---- what the tableau answers
pub record Solves (x : Solved) (a k : ℕ) : Type 0 where
  pub start : List ℤ
  pub vectors : List (List ℤ)
  pub is : x.found ≡ some start vectors
  pub kept : x.over ≡ false
  pub same : a ≡ k

pub solves : (x : Solved) (a k : ℕ) → solution_of x a ≡ Ok k → Solves x a k
solves x a k e = go x.over refl x.found refl e
  where
    go : (o : Bool) → x.over ≡ o → (f : Found) → x.found ≡ f → cond o (Err Elimination) (answer_of f a) ≡ Ok k → Solves x a k
    go true h f g e = never (cc)
    go false h none g e = never (cc)
    go false h (some v N) g e = record { start = v; vectors = N; is = g; kept = h; same = cc }

-- ---- the form behind the right side
by_form : (T : List (List ℤ)) (t : Bool) (x y : Solved) → x.form ≡ T → y.form ≡ T → (cond t x y).form ≡ T
by_form T true x y e f = e
by_form T false x y e f = f

by_kept : (o a b : Bool) (t : Bool) (x y : Solved) → x.over ≡ o || a → y.over ≡ o || b → (cond t x y).over ≡ false → o ≡ false
by_kept o a b true x y e f h = (neither o a (sym e ∙ h)).0
by_kept o a b false x y e f h = (neither o b (sym f ∙ h)).0

by_found : (s v : List ℤ) (N K : List (List ℤ)) (t : Bool) (x y : Solved) → x.found ≡ some v K → y.found ≡ none
    → (cond t x y).found ≡ some s N → N ≡ K
by_found s v N K true x y e f h = cc
by_found s v N K false x y e f h = never (cc)

module _ (P : Posed) where
  pub solved_form : (solved P).form ≡ (formed P).table
  unfolding solve right_side
  solved_form = by_form (formed P).table (all_zero (take (length (matrix P)) _)) _ _ refl refl

  pub solved_kept : (solved P).over ≡ false → (formed P).over ≡ false
  unfolding solve right_side
  solved_kept e = by_kept (formed P).over _ _ (all_zero (take (length (matrix P)) _)) _ _ refl refl e

  pub found_basis : (s : List ℤ) (N : List (List ℤ)) → Starts P s N → N ≡ basis_left P
  unfolding solve right_side
  found_basis s N e =
      by_found s _ N (basis (length (matrix P)) (formed P).table) (all_zero (take (length (matrix P)) _)) _ _ refl refl e
      ∙ ap (λ (k : ℕ). basis k (formed P).table) (length_chop (m P) (n P) P.coefficients)

  settled_done :
      (T N : List (List ℤ)) (v : List ℤ) → settle_on P T N v ≡ done_with (rounds_of P) (flat T) (settled_by P.problem.limit (columns P) N v)
  unfolding settle_on
  settled_done T N v = refl

  module _ (B : Buffers) where
    pub assign_unsolved : {why : Refusal} (k : ℕ) → solution_of (solved P) k ≡ Err why
        → refused why (tableau_after (solved P) B.tableau) B ≡ assign_fit P B
    assign_unsolved {why} k e = go (solved P).over (solved P).found e
      where
        F : List (List ℤ)
        F = (solved P).form

        go : (o : Bool) (f : Found) → cond o (Err Elimination) (answer_of f k) ≡ Err why
            → refused why (cond o (zeros (length B.tableau)) (flat F)) B ≡ cond o (over_limit B) (on_found P F B f)
        go true f e = let h : Elimination ≡ why = cc in ap (λ (r : Refusal). refused r (zeros (length B.tableau)) B) (sym h)
        go false none e = let h : NoWholeNumbers ≡ why = cc in ap (λ (r : Refusal). refused r (flat F) B) (sym h)
        go false (some v N) e = never (cc)

    seated_done :
        (T N : List (List ℤ)) (z : Seated) → on_seated P T N B z ≡ done_with (rounds_of P) (flat T)
        (on_seat P.problem.limit (columns P) N B.values B.strides z)
    seated_done T N (Err why) = refl
    seated_done T N (Ok v) = settled_done T N v

-- ---- from the starting list on
module _ (P : Posed) (B : Buffers) (w : WithinLimits P B) where
  abbrev q : Passes P (lent_of B)
  q = passes P (lent_of B) w.passed

  abbrev f : Fits P (lent_of B)
  f = fits P (lent_of B) q

  module _ {t : List ℤ} (a : Laid P (lent_of B) q t) {k j : ℕ} (x : Solves (solved P) k j) where
    same_basis : x.vectors ≡ basis_of P.problem t
    same_basis = found_basis P x.start x.vectors x.is ∙ sym (laid_basis P (lent_of B) q a)

    pub assign_found : (s : List ℤ) → s ≡ x.start
        → done_with (rounds_of P) t (finished P.problem.limit (columns P) (basis_of P.problem t) s B.values B.strides) ≡ assign_fit P B
    assign_found s e =
        sym (
        rw (x.kept, x.is) (seated_done P B (solved P).form x.vectors (seat (columns P) x.vectors x.start))
        ∙ ap (λ (T : List (List ℤ)). done_with (rounds_of P) (flat T)
        (on_seat P.problem.limit (columns P) x.vectors B.values B.strides (seat (columns P) x.vectors x.start))) (solved_form P)
        ∙ ap (λ (u : List ℤ). done_with (rounds_of P) u (on_seat P.problem.limit (columns P) x.vectors B.values B.strides
        (seat (columns P) x.vectors x.start))) (sym a.is)
        ∙ ap₂ (λ (N : List (List ℤ)) (v : List ℤ). done_with (rounds_of P) t
        (on_seat P.problem.limit (columns P) N B.values B.strides (seat (columns P) N v))) same_basis (sym e)
        )

    pub found_long : length x.start ≡ n P
    found_long = (rw x.is at (solve_tells (n P) (matrix P) P.rights (within_sized P B w))).long

    led : All (Led (n P)) (basis_of P.problem t)
    led = rw (laid_basis P (lent_of B) q a) (subst (λ (k : ℕ). All (Led (n P)) (basis k (formed P).table))
        (length_chop (m P) (n P) P.coefficients) (problem_basis (n P) (matrix P)))

    rises : Rising 0 (basis_of P.problem t)
    rises =
        rw (laid_basis P (lent_of B) q a)
        (subst (λ (k : ℕ). Rising 0 (basis k (formed P).table)) (length_chop (m P) (n P) P.coefficients) (basis_rising (n P) (matrix P)))

    -- seated over a basis that the code has taken from the tableau
    pub finishable : (N : Basis) → Taken P t N → (s : List ℤ) → s ≡ x.start → (c : List Column) → c ≡ table P
        → Finishable N s c B.values B.strides
    finishable N b s e c g = record {
      seatable = seatable P (lent_of B) f N t b led rises s c (ap length e ∙ found_long)
          (λ j. rw e (start_small P (lent_of B) q x.start x.vectors x.kept x.is j)) g;
      values = f.values_long ∙ sym b.columns;
      strides = f.strides_long ∙ sym b.columns;
    }

-- ---- what the checks find
module _ (P : Posed) (B : Buffers) where
  pub assign_failed : {why : Refusal} → first_cause P (lent_of B) ≡ Err why → refused why B.tableau B ≡ assign P B
  unfolding assign
  assign_failed e = rw e refl

  pub assign_passed : first_cause P (lent_of B) ≡ Ok tt → assign P B ≡ assign_fit P B
  unfolding assign
  assign_passed e = rw e refl

  pub continue_passed : first_cause P (lent_of B) ≡ Ok tt → continue P B ≡ continue_fit P B
  unfolding continue
  continue_passed e = rw e refl

  -- ---- Continue past the checks
  continue_on : stands P B.values ≡ true → (formed P).over ≡ false
      → continue_fit P B ≡ settle_on P (formed P).table (basis (m P) (formed P).table) B.values
  continue_on e o = rw (e, o) refl

  -- settled over the basis of a list
  abbrev pub settled_in : List ℤ → List (List ℤ) → Done
  settled_in t N = done_with (rounds_of P) t (settled_by P.problem.limit (columns P) N B.values)

  pub continue_settled :
      (L : Lent) (q : Passes P L) {t : List ℤ} (a : Laid P L q t) → stands P B.values ≡ true
      → continue_fit P B ≡ settled_in t (basis_of P.problem t)
  continue_settled L q {t} a e =
      continue_on e a.kept
      ∙ settled_done P (formed P).table (basis (m P) (formed P).table) B.values
      ∙ ap (λ (u : List ℤ). settled_in u (basis (m P) (formed P).table)) (sym a.is)
      ∙ ap (settled_in t) (sym (laid_basis P L q a))
