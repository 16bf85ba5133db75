-- A row's sum, taken from the last column up.
--   Summed a v j s   s is the sum from column j on, and small enough for the columns that are left
--   summed_none      past the last column it is 0
--   summed_more      one column further up
--   summed_all       from the first column on it is the whole sum
--   product_small    a value times a coefficient
--   product_fits, sum_fits   a product and a sum fit the machine
--   small_back       what the machine reads back of a number within ±M
--   room             it leaves room for one more product
--   dot_small        a whole sum is small
--   RowStandable     what the checks leave of the lists, where the values lie within ±M too, of row i
--   row_inside, table_small, row_summable   a row of the coefficients lies in them, which are few, and can be summed
--   all_within       the two tests for a number beyond ±M agree
-- Assumes nothing.
use mathlib.Core.Path.{◌≡◌, refl, sym, ◌∙◌, ap, ap₂, subst}
use mathlib.Core.Bool.{Bool, true, false, not, ◌||◌, true≢false}
use mathlib.Core.List.{List, [], ◌∷◌}
use Prim.Native.Nat.{ℕ, zero, suc, ◌+◌, ◌*◌, ◌-◌, ◌<◌, ◌≤◌}
use native.Mathlib.Nat.{mul-le-mul, mul-le-mul_right}
use native.Mathlib.Omega.{arith}
use borrow.Author.Tests.{ltb-true, ltb-false, le-ltb, le-leb}
use lib.IntN.{ℤ, pos, nat_abs, ◌+ℤ◌, ◌*ℤ◌}
use lib.Dec.{ltb}
use lib.ListN.{length, take, drop, length-take, length-drop, drop_of_length-le, get_or-eq_default}
use lib.Seq.{drop-cons, get_or-take, get_or-drop, length-take-le}
use mir.Syntax.{w64}
use mir.Val.{to_z, of_z, SFits}
use mir.Facts.{to_z-of_z}
use Rattle.whole.specs.Lists.{entry}
use Rattle.whole.specs.Tests.{spans}
use Rattle.whole.proofs.Counted.{every_all}
use Rattle.whole.proofs.Signed.{abs_add, abs_mul, sfits_abs}
use Rattle.lattice.specs.Sums.{dot}
use Rattle.problem.specs.Limits.{M, max_columns, max_rows, max_coefficient, max_right, any_beyond}
use Rattle.problem.specs.Checks.{all_span}
use Rattle.problem.proofs.CheckLaws.{all_small}
use Rattle.tableau.proofs.Within.{within_entry}
use Rattle.engine.specs.Standing.{max_sum, Summable}

abbrev pub step : ℕ
step = M * max_coefficient

pub record Summed (a v : List ℤ) (j : ℕ) (s : ℤ) : Type 0 where
  pub within : j ≤ length a
  pub is : s ≡ dot (drop j a) (drop j v)
  pub small : nat_abs s ≤ (length a - j) * step

pub summed_none : (a v : List ℤ) → Summed a v (length a) (pos 0)
unfolding dot
summed_none a v = record {
  within = omega arith;
  is = sym (ap (λ (l : List ℤ). dot l (drop (length a) v)) (drop_of_length-le a {i = length a} (omega arith)));
  small = omega arith;
}

one_more :
    (a v : List ℤ) (i : ℕ) → i < length a → i < length v → dot (drop i a) (drop i v) ≡ dot (drop (suc i) a) (drop (suc i) v) +ℤ entry i v *ℤ entry i a
unfolding dot
one_more a v i h k = ap₂ dot (drop-cons a i (pos 0) h) (drop-cons v i (pos 0) k)

pub product_small : (x y : ℤ) → nat_abs x ≤ M → nat_abs y ≤ max_coefficient → nat_abs (x *ℤ y) ≤ step
product_small x y h k = subst (λ (n : ℕ). n ≤ step) (sym (abs_mul x y)) (mul-le-mul h k)

pub summed_more :
    (a v : List ℤ) (j : ℕ) (s : ℤ) → Summable a v → 0 < j → Summed a v j s → Summed a v (j - 1) (s +ℤ entry (j - 1) v *ℤ entry (j - 1) a)
summed_more a v zero s q p z = absurd (omega arith)
summed_more a v (suc i) s q p z =
    let e : suc i - 1 ≡ i = omega arith in
    let k : length a - i ≡ suc (length a - suc i) = omega (arith, z.within) in
    rw e (record {
      within = omega (arith, z.within);
      is = ap (λ (t : ℤ). t +ℤ entry i v *ℤ entry i a) z.is ∙ sym (one_more a v i (omega (arith, z.within)) (omega (arith, z.within, q.same)));
      small =
          rw k
          (omega (arith, abs_add s (entry i v *ℤ entry i a), product_small (entry i v) (entry i a) (q.values i) (q.coefficients i), z.small));
    })

pub summed_all : (a v : List ℤ) (j : ℕ) (s : ℤ) → j ≡ 0 → Summed a v j s → s ≡ dot a v
summed_all a v j s e z = z.is ∙ ap (λ (i : ℕ). dot (drop i a) (drop i v)) e

pub room : (a v : List ℤ) (j : ℕ) (s : ℤ) → Summable a v → Summed a v j s → nat_abs s ≤ max_sum
room a v j s q z =
    let h : (length a - j) * step ≤ max_sum = mul-le-mul_right {n = max_columns} step (omega (arith, q.few)) in
    omega (arith, h, z.small)

-- ---- what the machine reads back of a small number
pub small_back : (z : ℤ) → nat_abs z ≤ M → to_z w64 (of_z w64 z) ≡ z
small_back z h = to_z-of_z (sfits_abs z (omega (arith, h)))

-- ---- in the machine
pub product_fits : (x y : ℤ) → nat_abs x ≤ M → nat_abs y ≤ max_coefficient → SFits w64 (x *ℤ y)
product_fits x y h k = sfits_abs (x *ℤ y) (omega (arith, product_small x y h k))

pub sum_fits : (s x y : ℤ) → nat_abs s ≤ max_sum → nat_abs x ≤ M → nat_abs y ≤ max_coefficient → SFits w64 (s +ℤ x *ℤ y)
sum_fits s x y r h k = sfits_abs (s +ℤ x *ℤ y) (omega (arith, abs_add s (x *ℤ y), r, product_small x y h k))

-- ---- a row of the coefficients
pub record RowStandable (a b v : List ℤ) (i : ℕ) : Type 0 where
  pub few_columns : length v ≤ max_columns
  pub few_rows : length b ≤ max_rows
  pub coefficients_long : length a ≡ length b * length v
  pub row : i < length b
  pub coefficients_small : (i : ℕ) → nat_abs (entry i a) ≤ max_coefficient
  pub rights_small : (i : ℕ) → nat_abs (entry i b) ≤ max_right
  pub values_small : (i : ℕ) → nat_abs (entry i v) ≤ M

sum_small : (a v : List ℤ) → ((i : ℕ) → nat_abs (entry i a) ≤ max_coefficient) → ((i : ℕ) → nat_abs (entry i v) ≤ M)
    → nat_abs (dot a v) ≤ length a * step
unfolding dot
sum_small [] v f g = omega arith
sum_small (y ∷ a) [] f g = omega arith
sum_small (y ∷ a) (x ∷ v) f g =
    omega (arith, abs_add (dot a v) (x *ℤ y), product_small x y (g 0) (f 0), sum_small a v (λ i. f (suc i)) (λ i. g (suc i)))

pub dot_small : (a v : List ℤ) → Summable a v → nat_abs (dot a v) ≤ max_sum
dot_small a v q =
    let h : length a * step ≤ max_sum = mul-le-mul_right {n = max_columns} step (omega (arith, q.few)) in
    omega (arith, h, sum_small a v q.coefficients q.values)

part_small : (k : ℕ) (l : List ℤ) (n a : ℕ) → ((i : ℕ) → nat_abs (entry i l) ≤ k) → (i : ℕ) → nat_abs (entry i (take n (drop a l))) ≤ k
part_small k l n a f i = go (ltb i n) refl
  where
    go : (t : Bool) → ltb i n ≡ t → nat_abs (entry i (take n (drop a l))) ≤ k
    go true e = subst (λ (z : ℤ). nat_abs z ≤ k) (sym (get_or-take n (drop a l) i (pos 0) (ltb-true i n e) ∙ get_or-drop a l i (pos 0))) (f (a + i))
    go false e =
        subst (λ (z : ℤ). nat_abs z ≤ k)
        (sym (get_or-eq_default (take n (drop a l)) (pos 0) (omega (arith, ltb-false i n e, length-take n (drop a l))))) (omega arith)

module _ {a b v : List ℤ} {i : ℕ} (q : RowStandable a b v i) where
  pub row_inside : i * length v + length v ≤ length a
  row_inside =
      let h : (i + 1) * length v ≤ length b * length v = mul-le-mul_right (length v) (omega (arith, q.row)) in omega (arith, h, q.coefficients_long)

  pub table_small : length a ≤ max_rows * max_columns
  table_small =
      let h : length b * length v ≤ max_rows * max_columns = mul-le-mul q.few_rows q.few_columns in omega (arith, h, q.coefficients_long)

  pub row_summable : (n : ℕ) → n ≡ length v → Summable (take n (drop (i * length v) a)) v
  row_summable n e =
      let l : length (take n (drop (i * length v) a)) ≡ n =
      length-take-le n (drop (i * length v) a) (omega (arith, row_inside, length-drop (i * length v) a, e)) in
      record {
        few = omega (arith, l, e, q.few_columns);
        same = sym (l ∙ e);
        coefficients = part_small max_coefficient a n (i * length v) q.coefficients_small;
        values = q.values_small;
      }

-- ---- no number beyond ±M
within_all : (l : List ℤ) → ((i : ℕ) → nat_abs (entry i l) ≤ M) → any_beyond l ≡ false
unfolding any_beyond
within_all [] f = refl
within_all (x ∷ l) f = ap₂ ◌||◌ (le-ltb M (nat_abs x) (f 0)) (within_all l (λ i. f (suc i)))

pub all_within : (l : List ℤ) → all_span M l ≡ not (any_beyond l)
all_within l = go (all_span M l) (any_beyond l) refl refl
  where
    go : (s t : Bool) → all_span M l ≡ s → any_beyond l ≡ t → all_span M l ≡ not (any_beyond l)
    go true t e f = e ∙ ap not (sym (within_all l (all_small M l e)))
    go false true e f = e ∙ ap not (sym f)
    go false false e f =
        absurd (true≢false (sym (every_all (length l) (λ i. spans M (entry i l)) (λ i h. le-leb (nat_abs (entry i l)) M (within_entry l i f))) ∙ e))
