-- Demand 2: "Intervals returned satisfy every row".
--   describes_keeps                        a multiple of a basis vector added to a list of the set leaves one of the set
--   stands_satisfies                       a list that stands satisfies the rows
--   assign_satisfies, continue_satisfies   with a verdict the values left satisfy the rows, of every problem and all lent buffers
-- Assumes nothing.
use mathlib.Core.Path.{◌≡◌, refl, sym, ◌∙◌, subst}
use mathlib.Core.Bool.{Bool, true, false, not, cond, true≢false}
use mathlib.Core.List.{List, [], ◌∷◌}
use Prim.Native.Nat.{ℕ}
use native.Mathlib.Omega.{arith}
use lib.IntN.{ℤ, pos, negsuc, ◌-ℤ◌}
use lib.ListN.{length}
use lib.Seq.{ext_get_or}
use Rattle.whole.specs.Lists.{entry}
use Rattle.whole.specs.Tests.{is_zero, every}
use Rattle.whole.proofs.Counted.{every_at}
use Rattle.whole.proofs.Integers.{rep, diff_rel, is_zero_true}
use Rattle.lattice.specs.Rows.{plus, minus}
use Rattle.lattice.proofs.RowLaws.{length_plus, plus_comm}
use Rattle.lattice.specs.Sums.{sums}
use Rattle.lattice.proofs.SumLaws.{length_sums}
use Rattle.lattice.proofs.FlatLaws.{length_chop}
use Rattle.lattice.specs.Span.{All, Len, Span}
use Rattle.lattice.proofs.Span.{all_map, all_both, span_row, span_under, span_plus}
use Rattle.lattice.specs.Hermite.{width, rows, Led}
use Rattle.lattice.proofs.Hermite.{rows_led}
use Rattle.lattice.specs.Coset.{Describes}
use Rattle.lattice.proofs.Coset.{coset_self}
use Rattle.problem.specs.Limits.{any_beyond}
use Rattle.problem.specs.Answers.{no_steps}
use Rattle.problem.specs.Checks.{Posed}
use Rattle.whole.proofs.Tests.{both_true}
use Rattle.problem.proofs.CheckLaws.{passes, fits}
use Rattle.problem.specs.declared.Refusal.TheVariants.{Standing}
use Rattle.tableau.specs.RightSide.{Found, none, some}
use Rattle.tableau.specs.Generators.{Tells, Sized}
use Rattle.tableau.proofs.Theorems.{solve_tells, solve_none}
use Rattle.std.specs.Prelude.{Ok, Err}
use Rattle.settling.specs.Seating.{Seated, seat}
use Rattle.settling.specs.Settle.{settle}
use Rattle.settling.proofs.Keeping.{Keeps, seat_keeps, settle_keeps}
use Rattle.engine.specs.Assign.{Buffers, n, m, matrix, columns, lent_of, refused, over_limit, settle_on, on_seated, on_found}
use Rattle.engine.specs.Assign.{solved, assign_fit, assign, stands, formed, continue_fit, continue}
use Rattle.engine.specs.Demand.{WithinLimits, SatisfiesRows}
use Rattle.engine.specs.Outcomes.{KeepsRows, basis_left}
use Rattle.engine.proofs.Assigning.{within_sized, found_basis, assign_passed, continue_passed}
use Rattle.engine.proofs.Verdicts.{verdict_within}

-- ---- the vectors of a description
span_rows : (T : List (List ℤ)) → All (Span T) T
span_rows [] = tt
span_rows (r ∷ T) = (span_row r T, all_map (Span T) (Span (r ∷ T)) (λ u s. span_under r T u s) T (span_rows T))

pub describes_keeps :
    (n : ℕ) (Q : List ℤ → Type 0) (s : List ℤ) (N : List (List ℤ)) → ((x : List ℤ) → Q x → length x ≡ n) → Describes n Q s N → Keeps Q N
describes_keeps n Q s N long d = record {
  adds = λ c v q.
      all_both (Span N) (Len n) (λ (r : List ℤ). Q (plus c r v))
      (λ r t l.
      (d.set (plus c r v) (length_plus c r v ∙ long v q)).1
      (subst (Span N) (plus_comm c (negsuc 0) r s v)
      (span_plus N c r (minus v s) (omega (arith, length_plus (negsuc 0) s v, long v q, l)) t ((d.set v (long v q)).0 q))))
      N (span_rows N)
      (rw (← d.wide, d.is)
      (all_map (Led (width d.form)) (Len (width d.form)) (λ r l. l.wide) (rows d.form) (rows_led d.form d.hermite)));
}

-- ---- whole assignments
module _ (P : Posed) (T : List (List ℤ)) (B : Buffers) where
  found_satisfies : (f : Found) → Tells (n P) (SatisfiesRows P) f → KeepsRows P (on_found P T B f)
  unfolding settle_on settle
  found_satisfies none a e = absurd (true≢false (sym e))
  found_satisfies (some v N) d e = go (seat (columns P) N v) refl e
    where
      k : Keeps (SatisfiesRows P) N
      k = describes_keeps (n P) (SatisfiesRows P) v N (λ x s. s.wide) d

      go : (z : Seated) → seat (columns P) N v ≡ z → KeepsRows P (on_seated P T N B z)
      go (Err why) h e = absurd (true≢false (sym e))
      go (Ok u) h e =
          settle_keeps (SatisfiesRows P) (columns P) N k P.problem.limit no_steps u
          (seat_keeps (SatisfiesRows P) (columns P) N v u k ((d.set v d.long).1 (coset_self N v)) h)

pub assign_satisfies : (P : Posed) (B : Buffers) → KeepsRows P (assign P B)
unfolding assign
assign_satisfies P B e =
    let w : WithinLimits P B = verdict_within P B (assign_fit P B) e in
    rw (assign_passed P B w.passed) (go w (solved P).over (rw (assign_passed P B w.passed) at e))
  where
    go : WithinLimits P B → (t : Bool) → KeepsRows P (cond t (over_limit B) (on_found P (solved P).form B (solved P).found))
    go w true e = absurd (true≢false (sym e))
    go w false e = found_satisfies P (solved P).form B (solved P).found (solve_tells (n P) (matrix P) P.rights (within_sized P B w)) e

-- ---- Continue
equal_if : (x y : ℤ) → x -ℤ y ≡ pos 0 → x ≡ y
equal_if x y = rw (rep x, rep y) (simp diff_rel (omega arith))

stands_satisfies : (P : Posed) (B : Buffers) → WithinLimits P B → stands P B.values ≡ true → SatisfiesRows P B.values
stands_satisfies P B w e =
    let z : Sized (n P) (matrix P) P.rights = within_sized P B w in
    let c : length (matrix P) ≡ m P = length_chop (m P) (n P) P.coefficients in
    let f : ℕ → Bool = λ i. is_zero (entry i (sums (matrix P) B.values) -ℤ entry i P.rights) in
    let h : every (m P) f ≡ true = (both_true (not (any_beyond B.values)) _ e).1 in
    record {
      wide = (fits P (lent_of B) (passes P (lent_of B) w.passed)).values_long;
      keeps = ext_get_or (pos 0) (sums (matrix P) B.values) P.rights (length_sums (matrix P) B.values ∙ sym z.long)
          (λ i k. equal_if _ _ (is_zero_true _ (every_at (m P) f i h (omega (arith, k, c, length_sums (matrix P) B.values)))));
    }

module _ (P : Posed) (B : Buffers) (w : WithinLimits P B) where
  basis_keeps : SatisfiesRows P B.values → Keeps (SatisfiesRows P) (basis_left P)
  basis_keeps q = go (solved P).found refl
    where
      go : (f : Found) → (solved P).found ≡ f → Keeps (SatisfiesRows P) (basis_left P)
      go none h = absurd ((solve_none (n P) (matrix P) P.rights (within_sized P B w)).0 h B.values q)
      go (some s N) h =
          subst (Keeps (SatisfiesRows P)) (found_basis P s N h)
          (describes_keeps (n P) (SatisfiesRows P) s N (λ x z. z.wide) (rw h at (solve_tells (n P) (matrix P) P.rights (within_sized P B w))))

  continued_satisfies : (t : Bool) → stands P B.values ≡ t → (u : Bool)
      → KeepsRows P (cond t (cond u (over_limit B) (settle_on P (formed P).table (basis_left P) B.values)) (refused Standing B.tableau B))
  unfolding settle_on settle
  continued_satisfies true f true e = absurd (true≢false (sym e))
  continued_satisfies true f false e =
      let q : SatisfiesRows P B.values = stands_satisfies P B w f in
      settle_keeps (SatisfiesRows P) (columns P) (basis_left P) (basis_keeps q) P.problem.limit no_steps B.values q
  continued_satisfies false f u e = absurd (true≢false (sym e))

pub continue_satisfies : (P : Posed) (B : Buffers) → KeepsRows P (continue P B)
unfolding continue
continue_satisfies P B e =
    let w : WithinLimits P B = verdict_within P B (continue_fit P B) e in
    rw (continue_passed P B w.passed)
    (continued_satisfies P B w (stands P B.values) refl (formed P).over (rw (continue_passed P B w.passed) at e))
