-- Demand 3: "Nobody who restates a requirement can move the intervals".
--   found_start   the same is found for two problems exactly when their starting lists and bases are equal, or both are "none"
--   found_same    what follows on the same is the same outcome, where the columns are the same too
--   found_strides where both have a verdict, their strides are those of the basis that is found for both
--   demand_3      the demand
-- Assumes nothing.
use mathlib.Core.Path.{◌≡◌, refl, sym, ◌∙◌, subst}
use mathlib.Core.Logic.Iff
use mathlib.Core.Logic.{◌↔◌, inl, inr, ⊎_elim}
use mathlib.Core.Bool.{true, true≢false}
use mathlib.Core.List.{List}
use Prim.Native.Nat.{ℕ}
use lib.IntN.{ℤ}
use Rattle.whole.specs.Lists.{entry}
use Rattle.lattice.specs.Sums.{Satisfies}
use Rattle.problem.specs.Answers.{is_verdict}
use Rattle.problem.specs.Checks.{Posed}
use Rattle.tableau.specs.RightSide.{Found, none, some, solve}
use Rattle.tableau.specs.Generators.{Sized}
use Rattle.tableau.proofs.Theorems.{solve_same}
use Rattle.settling.specs.Columns.{column_of}
use Rattle.std.specs.Prelude.{Ok, Err}
use Rattle.settling.specs.Seating.{Seated, seat}
use Rattle.settling.specs.Settle.{settle}
use Rattle.settling.specs.Strides.{strides}
use Rattle.engine.specs.Assign.{Buffers, n, matrix, columns, settle_on, on_seated, on_found, solved}
use Rattle.engine.specs.Demand.{WithinLimits, PastLimit, SameRows, SameStart, SameColumns, SameOutcome, Demand3}
use Rattle.engine.proofs.Assigning.{within_sized, assign_passed}
use Rattle.engine.proofs.Refusals.{not_over, none_is_none}

-- ---- equal starts
-- at another's number of columns
same_at : (k l : ℕ) → k ≡ l → (A A' : List (List ℤ)) (b b' : List ℤ) → Sized k A b → Sized l A' b'
    → ((x : List ℤ) → Satisfies k A b x ↔ Satisfies l A' b' x) ↔ ((solve k A b).found ≡ (solve l A' b').found)
same_at k l e A A' b b' z =
    subst (λ (l : ℕ). Sized l A' b' → ((x : List ℤ) → Satisfies k A b x ↔ Satisfies l A' b' x) ↔ ((solve k A b).found ≡ (solve l A' b').found)) e
    (λ z'. solve_same k A A' b b' z z')

module _ (P Q : Posed) (B C : Buffers) (wp : WithinLimits P B) (wq : WithinLimits Q C) (fp : PastLimit P B → ⊥) (fq : PastLimit Q C → ⊥) where
  found_start : ((solved P).found ≡ (solved Q).found) ↔ SameStart P Q B C
  found_start = (
    (λ e. go e (solved P).found refl),
    ⊎_elim (λ x. x.first ∙ sym x.second) (λ x. (none_is_none P B wp fp).0 x.0 ∙ sym ((none_is_none Q C wq fq).0 x.1)),
  )
    where
      go : (solved P).found ≡ (solved Q).found → (f : Found) → (solved P).found ≡ f → SameStart P Q B C
      go e none h = inr ((none_is_none P B wp fp).1 h, (none_is_none Q C wq fq).1 (sym e ∙ h))
      go e (some s N) h = inl (record { start = s; vectors = N; first = h; second = sym e ∙ h })

-- ---- equal starts and columns have equal outcomes
module _ (P Q : Posed) (T U : List (List ℤ)) (B C : Buffers) (e : n P ≡ n Q) (s : SameColumns P Q) where
  columns_same : columns P ≡ columns Q
  columns_same = (λ i. record {
    count = e i;
    column = λ j. column_of (entry j (s.lower i)) (entry j (s.upper i)) (entry j (s.low i)) (entry j (s.high i)) (s.ideals j i);
  })

  seated_same : (N : List (List ℤ)) (z : Seated) → SameOutcome (on_seated P T N B z) (on_seated Q U N C z)
  unfolding settle_on
  seated_same N (Err why) = record { answer = refl; intervals = λ h. absurd (true≢false (sym h)) }
  seated_same N (Ok v) = record {
    answer = λ i. Ok (settle (s.limit i) (columns_same i) N v).verdict;
    intervals = λ h i. (settle (s.limit i) (columns_same i) N v).values;
  }

  found_same : (f : Found) → SameOutcome (on_found P T B f) (on_found Q U C f)
  found_same none = record { answer = refl; intervals = λ h. absurd (true≢false (sym h)) }
  found_same (some v N) =
      let z : seat (columns P) N v ≡ seat (columns Q) N v = λ i. seat (columns_same i) N v in
      subst (λ (x : Seated). SameOutcome (on_seated P T N B (seat (columns P) N v)) (on_seated Q U N C x)) z
      (seated_same N (seat (columns P) N v))

-- ---- strides are those of the basis
module _ (P : Posed) (T : List (List ℤ)) (B : Buffers) where
  seated_strides : (N : List (List ℤ)) (z : Seated) → is_verdict (on_seated P T N B z).answer ≡ true
      → (on_seated P T N B z).strides ≡ strides (n P) N
  unfolding settle_on
  seated_strides N (Err why) h = absurd (true≢false (sym h))
  seated_strides N (Ok v) h = refl

module _ (P Q : Posed) (T U : List (List ℤ)) (B C : Buffers) (e : n P ≡ n Q) where
  found_strides : (f : Found) → is_verdict (on_found P T B f).answer ≡ true → is_verdict (on_found Q U C f).answer ≡ true
      → (on_found P T B f).strides ≡ (on_found Q U C f).strides
  found_strides none h k = absurd (true≢false (sym h))
  found_strides (some v N) h k =
      seated_strides P T B N (seat (columns P) N v) h ∙ (λ i. strides (e i) N) ∙ sym (seated_strides Q U C N (seat (columns Q) N v) k)

-- ---- the demand
pub demand_3 : (P Q : Posed) (B C : Buffers) → Demand3 P Q B C
demand_3 P Q B C e wp wq fp fq =
    let found : SameRows P Q ↔ ((solved P).found ≡ (solved Q).found) =
    same_at (n P) (n Q) e (matrix P) (matrix Q) P.rights Q.rights (within_sized P B wp) (within_sized Q C wq) in
    record {
      starts = Iff.symm (Iff.trans found (found_start P Q B C wp wq fp fq));
      outcomes = λ r s.
          rw (assign_passed P B wp.passed, assign_passed Q C wq.passed, not_over P B wp fp, not_over Q C wq fq, found.0 r)
          (found_same P Q (solved P).form (solved Q).form B C e s (solved Q).found);
      strides = λ r.
          rw (assign_passed P B wp.passed, assign_passed Q C wq.passed, not_over P B wp fp, not_over Q C wq fq, found.0 r)
          (found_strides P Q (solved P).form (solved Q).form B C e (solved Q).found);
    }
