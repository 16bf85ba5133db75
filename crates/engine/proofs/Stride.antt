-- Two lists that satisfy the rows differ by a list of the basis' span, so that each column's stride divides their difference there. A vector of the
-- basis is itself such a difference, so that what divides them all divides the stride.
--   assign_strides     the strides of a whole assignment with a verdict
--   continue_strides   and of a Continue with a verdict
-- Assumes nothing.
use mathlib.Core.Path.{◌≡◌, refl, sym, ◌∙◌, ap, subst}
use mathlib.Core.Bool.{Bool, true, false, cond, true≢false}
use mathlib.Core.List.{List}
use Prim.Native.Nat.{ℕ, ◌+◌, ◌<◌, ◌∣◌}
use native.Mathlib.Omega.{arith}
use lib.IntN.{ℤ, pos, negsuc, nat_abs, ◌+ℤ◌, ◌-ℤ◌, ◌*ℤ◌}
use lib.ListN.{get_or}
use Rattle.whole.specs.Lists.{entry}
use Rattle.whole.proofs.Integers.{rep, diff_rel}
use Rattle.lattice.specs.Rows.{plus, minus}
use Rattle.lattice.proofs.RowLaws.{length_plus, entry_plus}
use Rattle.lattice.specs.Span.{Span}
use Rattle.lattice.proofs.Span.{all_map}
use Rattle.lattice.specs.Coset.{Describes}
use Rattle.lattice.proofs.Coset.{coset_self, coset_via, coset_turn}
use Rattle.problem.specs.Answers.{is_verdict}
use Rattle.problem.specs.Checks.{Posed}
use Rattle.problem.specs.declared.Refusal.TheVariants.{Standing}
use Rattle.tableau.specs.RightSide.{Found, none, some}
use Rattle.tableau.specs.Generators.{Tells}
use Rattle.tableau.proofs.Theorems.{solve_tells, solve_none}
use Rattle.std.specs.Prelude.{Ok, Err}
use Rattle.settling.specs.Seating.{Seated, seat}
use Rattle.settling.specs.Strides.{stride, strides}
use Rattle.settling.proofs.StrideLaws.{strides_at}
use Rattle.settling.proofs.Striding.{stride_greatest, span_divides}
use Rattle.engine.specs.Assign.{Buffers, Done, n, matrix, columns, refused, over_limit, settle_on, on_seated, on_found, solved}
use Rattle.engine.specs.Assign.{assign_fit, assign, stands, formed, continue_fit, continue}
use Rattle.engine.specs.Demand.{WithinLimits, SatisfiesRows}
use Rattle.engine.specs.Outcomes.{basis_left}
use Rattle.engine.specs.Stride.{DividesAll, StrideOf, AssignStrides, ContinueStrides}
use Rattle.engine.proofs.Assigning.{within_sized, found_basis, assign_passed}
use Rattle.engine.proofs.Verdicts.{verdict_within}
use Rattle.engine.proofs.Satisfied.{describes_keeps, continue_satisfies}

-- ---- differences
once_less : (x y : ℤ) → x +ℤ negsuc 0 *ℤ y ≡ x -ℤ y
once_less x y = rw (rep x, rep y) (simp diff_rel (omega arith))

once_more : (x y : ℤ) → x +ℤ pos 1 *ℤ y -ℤ x ≡ y
once_more x y = rw (rep x, rep y) (simp diff_rel (omega arith))

module _ (P : Posed) (s : List ℤ) (N : List (List ℤ)) (d : Describes (n P) (SatisfiesRows P) s N) (j : ℕ) (h : j < n P) where
  basis_differ : DividesAll P j (stride N j)
  basis_differ x y p q =
      let z : Span N (minus x y) =
      coset_via N x s y (omega (arith, p.wide, d.long)) ((d.set x p.wide).0 p)
      (coset_turn N y s (omega (arith, q.wide, d.long)) ((d.set y q.wide).0 q)) in
      subst (λ (x : ℤ). stride N j ∣ nat_abs x) (entry_plus j (negsuc 0) y x (omega (arith, p.wide)) ∙ once_less (entry j x) (entry j y))
      (span_divides (stride N j) j N (minus x y) (omega (arith, length_plus (negsuc 0) y x, p.wide)) (stride_greatest N j).divides z)

  -- the start and one vector more are two such lists
  basis_greatest : (c : ℕ) → DividesAll P j c → c ∣ stride N j
  basis_greatest c f =
      let q : SatisfiesRows P s = (d.set s d.long).1 (coset_self N s) in
      (stride_greatest N j).greatest c
      (all_map (λ (r : List ℤ). SatisfiesRows P (plus (pos 1) r s)) (λ (r : List ℤ). c ∣ nat_abs (entry j r))
      (λ r p.
      subst (λ (x : ℤ). c ∣ nat_abs x)
      (ap (λ (x : ℤ). x -ℤ entry j s) (entry_plus j (pos 1) r s (omega (arith, d.long))) ∙ once_more (entry j s) (entry j r))
      (f (plus (pos 1) r s) s p q))
      N ((describes_keeps (n P) (SatisfiesRows P) s N (λ x z. z.wide) d).adds (pos 1) s q))

  -- as they stand in the list
  listed_strides : StrideOf P j (get_or (strides (n P) N) j 0)
  listed_strides =
      let e : 0 + j ≡ j = omega arith in
      rw (strides_at N (n P) 0 j h, e) (record { divides = basis_differ; greatest = basis_greatest })

-- ---- whole assignments
module _ (P : Posed) (T : List (List ℤ)) (B : Buffers) (j : ℕ) (h : j < n P) where
  found_strides : (f : Found) → Tells (n P) (SatisfiesRows P) f → is_verdict (on_found P T B f).answer ≡ true
      → StrideOf P j (get_or (on_found P T B f).strides j 0)
  unfolding settle_on
  found_strides none a e = absurd (true≢false (sym e))
  found_strides (some v N) d e = go (seat (columns P) N v) e
    where
      go : (z : Seated) → is_verdict (on_seated P T N B z).answer ≡ true → StrideOf P j (get_or (on_seated P T N B z).strides j 0)
      go (Err why) e = absurd (true≢false (sym e))
      go (Ok u) e = listed_strides P v N d j h

pub assign_strides : AssignStrides
unfolding assign
assign_strides P B e j h =
    let w : WithinLimits P B = verdict_within P B (assign_fit P B) e in
    rw (assign_passed P B w.passed) (go w (solved P).over (rw (assign_passed P B w.passed) at e))
  where
    go : WithinLimits P B → (t : Bool) → is_verdict (cond t (over_limit B) (on_found P (solved P).form B (solved P).found)).answer ≡ true
        → StrideOf P j (get_or (cond t (over_limit B) (on_found P (solved P).form B (solved P).found)).strides j 0)
    go w true e = absurd (true≢false (sym e))
    go w false e = found_strides P (solved P).form B j h (solved P).found (solve_tells (n P) (matrix P) P.rights (within_sized P B w)) e

-- ---- Continue
-- some list satisfies the rows, so that a start is found, and with it the basis of the form
formed_strides : (P : Posed) (B : Buffers) → WithinLimits P B → (x : List ℤ) → SatisfiesRows P x → (j : ℕ) → j < n P
    → StrideOf P j (get_or (strides (n P) (basis_left P)) j 0)
formed_strides P B w x p j h = go (solved P).found refl
  where
    go : (f : Found) → (solved P).found ≡ f → StrideOf P j (get_or (strides (n P) (basis_left P)) j 0)
    go none e = absurd ((solve_none (n P) (matrix P) P.rights (within_sized P B w)).0 e x p)
    go (some s N) e =
        subst (λ (N : List (List ℤ)). StrideOf P j (get_or (strides (n P) N) j 0)) (found_basis P s N e)
        (listed_strides P s N (rw e at (solve_tells (n P) (matrix P) P.rights (within_sized P B w))) j h)

pub continue_strides : ContinueStrides
unfolding continue settle_on
continue_strides P B e j h =
    let w : WithinLimits P B = verdict_within P B (continue_fit P B) e in
    let p : SatisfiesRows P (continue P B).values = continue_satisfies P B e in
    rw w.passed (go (formed_strides P B w (continue P B).values p j h) (stands P B.values) (formed P).over (rw w.passed at e))
  where
    settles : Done
    settles = settle_on P (formed P).table (basis_left P) B.values

    go : StrideOf P j (get_or settles.strides j 0) → (t u : Bool)
        → is_verdict (cond t (cond u (over_limit B) settles) (refused Standing B.tableau B)).answer ≡ true
        → StrideOf P j (get_or (cond t (cond u (over_limit B) settles) (refused Standing B.tableau B)).strides j 0)
    go s true true e = absurd (true≢false (sym e))
    go s true false e = s
    go s false u e = absurd (true≢false (sym e))
