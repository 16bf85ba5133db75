-- A list that stands, in the terms of the problem.
--   stands_in_lem   the test on the buffers is that of the definition
--   standable       what the checks leave of the lists
-- Assumes nothing.
use mathlib.Core.Path.{◌≡◌, sym, ◌∙◌, ap}
use mathlib.Core.Bool.{Bool, not, ◌&&◌}
use mathlib.Core.List.{List}
use Prim.Native.Nat.{ℕ, zero, suc, ◌+◌, ◌*◌, ◌<◌}
use native.Mathlib.Nat.{zero-mul}
use native.Mathlib.Omega.{arith}
use lib.IntN.{ℤ, ◌-ℤ◌}
use lib.ListN.{length, take, drop}
use lib.Seq.{drop-drop}
use Rattle.whole.specs.Lists.{entry}
use Rattle.whole.proofs.Counted.{every_same}
use Rattle.whole.specs.Tests.{is_zero}
use Rattle.lattice.specs.Rows.{chop}
use Rattle.lattice.specs.Sums.{dot, sums}
use Rattle.problem.specs.Limits.{any_beyond}
use Rattle.problem.specs.Checks.{Posed}
use Rattle.problem.proofs.CheckLaws.{Fits}
use Rattle.problem.specs.declared.Lent.{Lent}
use Rattle.engine.specs.Assign.{n, m, matrix, stands}
use Rattle.engine.specs.Standing.{keeps_row, stands_in, Standable}

sum_at : (k n : ℕ) (a v : List ℤ) (i : ℕ) → i < k → entry i (sums (chop k n a) v) ≡ dot (take n (drop (i * n) a)) v
unfolding sums
sum_at zero n a v i h = absurd (omega arith)
sum_at (suc k) n a v zero h = ap (λ (j : ℕ). dot (take n (drop j a)) v) (sym (zero-mul n))
sum_at (suc k) n a v (suc i) h =
    let e : n + i * n ≡ suc i * n = omega arith in
    sum_at k n (drop n a) v i (omega arith) ∙ ap (λ (l : List ℤ). dot (take n l) v) (drop-drop (i * n) n a ∙ ap (λ (j : ℕ). drop j a) e)

pub stands_in_lem : (P : Posed) (v : List ℤ) → stands_in P.problem P.coefficients P.rights v ≡ stands P v
stands_in_lem P v =
    ap (λ (b : Bool). not (any_beyond v) && b)
    (every_same (m P) (keeps_row (n P) P.coefficients P.rights v) (λ i. is_zero (entry i (sums (matrix P) v) -ℤ entry i P.rights))
    (λ i l. ap (λ (s : ℤ). is_zero (s -ℤ entry i P.rights)) (sym (sum_at (m P) (n P) P.coefficients v i l))))

pub standable : (P : Posed) (L : Lent) → Fits P L → (v : List ℤ) → length v ≡ L.values → Standable P.problem P.coefficients P.rights v
standable P L f v e = record {
  few_columns = f.few_columns;
  few_rows = f.few_rows;
  coefficients_long = f.coefficients_long;
  rights_long = f.rights_long;
  values_long = e ∙ f.values_long;
  coefficients_small = f.coefficients_small;
  rights_small = f.rights_small;
}
