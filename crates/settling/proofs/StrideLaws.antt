-- Laws of the strides, for the loop over the vectors, from the last on, and for the one over the columns.
--   stride_none, -past, -up     the vectors from s on, where s counts down: none, one more that leaves the column as it is, one more
--   stride_one                  1 from some vector on is 1 from the first on
--   strides_at                  the list of strides has a column's stride at its place
--   strides_all                 a list with the stride of each column is that list
-- Assumes nothing.
use mathlib.Core.Path.{◌≡◌, refl, sym, ◌∙◌, ap}
use mathlib.Core.List.{List}
use Prim.Native.Nat.{ℕ, zero, suc, ◌+◌, ◌-◌, ◌<◌, ◌≤◌}
use native.Mathlib.Nat.{zero-mod, mod-one}
use native.Mathlib.Omega.{arith}
use lib.IntN.{ℤ, nat_abs}
use lib.ListN.{length, get_or, drop, drop_of_length-le}
use lib.Seq.{ext_get_or}
use Rattle.whole.specs.Lists.{entry}
use Rattle.whole.specs.Divisor.{divisor_by, divisor}
use Rattle.settling.specs.declared.Basis.{Basis}
use Rattle.settling.specs.Moves.{vector}
use Rattle.settling.specs.Strides.{stride, strides_from, strides}
use Rattle.settling.specs.Views.{vectors}
use Rattle.settling.proofs.Views.{rows_length, vectors_drop}

-- ---- the divisor of 0, and of 1
divisor_zero : (d : ℕ) → divisor 0 d ≡ d
unfolding divisor divisor_by
divisor_zero zero = refl
divisor_zero (suc d) = ap (divisor_by (suc d) (suc d)) (zero-mod (suc d))

divisor_one : (x : ℕ) → divisor x 1 ≡ 1
unfolding divisor divisor_by
divisor_one x = ap (divisor_by 1 1) (mod-one x)

-- ---- one column
module _ (B : Basis) (j : ℕ) where
  pub stride_none : stride (drop B.vectors (vectors B)) j ≡ 0
  unfolding stride
  stride_none =
      ap (λ (N : List (List ℤ)). stride N j)
      (drop_of_length-le (vectors B) {i = B.vectors} (omega (arith, rows_length B.vectors B.columns B.stride B.numbers.now)))

  more :
      (s : ℕ) → s < B.vectors
      → stride (drop s (vectors B)) j ≡ divisor (nat_abs (entry j (vector (vectors B) s))) (stride (drop (suc s) (vectors B)) j)
  unfolding stride
  more s h = ap (λ (N : List (List ℤ)). stride N j) (vectors_drop B s h)

  pub stride_up :
      (s : ℕ) → 0 < s → s ≤ B.vectors
      → divisor (nat_abs (entry j (vector (vectors B) (s - 1)))) (stride (drop s (vectors B)) j) ≡ stride (drop (s - 1) (vectors B)) j
  stride_up s h k =
      ap (λ (i : ℕ). divisor (nat_abs (entry j (vector (vectors B) (s - 1)))) (stride (drop i (vectors B)) j)) up
      ∙ sym (more (s - 1) (omega arith))
    where
      up : s ≡ suc (s - 1)
      up = omega arith

  pub stride_past :
      (s : ℕ) → 0 < s → s ≤ B.vectors → nat_abs (entry j (vector (vectors B) (s - 1))) ≡ 0
      → stride (drop s (vectors B)) j ≡ stride (drop (s - 1) (vectors B)) j
  stride_past s h k e =
      sym (ap (λ (x : ℕ). divisor x (stride (drop s (vectors B)) j)) e ∙ divisor_zero (stride (drop s (vectors B)) j)) ∙ stride_up s h k

  pub stride_one : (s : ℕ) → s ≤ B.vectors → stride (drop s (vectors B)) j ≡ 1 → stride (vectors B) j ≡ 1
  stride_one zero k e = e
  stride_one (suc s) k e =
      let x = nat_abs (entry j (vector (vectors B) s)) in
      stride_one s (omega arith) (more s (omega arith) ∙ ap (divisor x) e ∙ divisor_one x)

pub ruleset stride_loop = (stride_none, stride_up, stride_past, stride_one)

-- ---- all columns
strides_length : (N : List (List ℤ)) (k j : ℕ) → length (strides_from N k j) ≡ k
unfolding strides_from
strides_length N zero j = refl
strides_length N (suc k) j = ap suc (strides_length N k (suc j))

pub strides_at : (N : List (List ℤ)) (k j x : ℕ) → x < k → get_or (strides_from N k j) x 0 ≡ stride N (j + x)
unfolding strides_from
strides_at N zero j x h = absurd (omega arith)
strides_at N (suc k) j zero h = ap (stride N) (omega arith)
strides_at N (suc k) j (suc x) h = strides_at N k (suc j) x (omega arith) ∙ ap (stride N) (omega arith)

pub strides_all : (N : List (List ℤ)) (n : ℕ) (d : List ℕ) → length d ≡ n → ((x : ℕ) → x < n → get_or d x 0 ≡ stride N x) → d ≡ strides n N
strides_all N n d h f =
    ext_get_or 0 d (strides n N) (h ∙ sym (strides_length N n 0))
    (λ x m. f x (omega arith) ∙ sym (strides_at N n 0 x (omega arith) ∙ ap (stride N) (omega arith)))
