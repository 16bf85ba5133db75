-- Laws of the tableau: what its rows span, and that they are independent.
--   tableau_count, -length   it has n rows, of m + n numbers
--   tableau_independent   they are independent
--   tableau_span          (y, x) lies in their span exactly when the sums of x are y
--   tableau_generators    with the list (−b, then n zeros) they are generator rows with a right side
--   tableau_reaches       and reach exactly the lists that satisfy the rows
-- Assumes nothing.
use mathlib.Core.Path.{◌≡◌, refl, sym, ◌∙◌, ap, ap₂, subst}
use mathlib.Core.Logic.{◌↔◌}
use mathlib.Core.List.{List, ◌++◌}
use Prim.Native.Nat.{ℕ, zero, suc, ◌+◌, ◌<◌}
use native.Mathlib.Omega.{arith}
use lib.ListN.{length, length-append, length-map, length-replicate}
use lib.Seq.{get_or-append-add}
use lib.IntN.{ℤ, pos, negsuc, neg_ℤ, ◌+ℤ◌, ◌*ℤ◌}
use Rattle.whole.specs.Lists.{entry, zeros}
use Rattle.whole.specs.Tests.{positive}
use Rattle.whole.proofs.Lists.{entry_zeros}
use Rattle.whole.proofs.Integers.{rep, diff_rel, multiple_zero}
use Rattle.lattice.specs.Rows.{plus, minus, neg, unit, Zero, ZeroTo}
use Rattle.lattice.proofs.RowLaws.{length_plus, length_neg, length_unit, plus_cancel, plus_neg, plus_zeros, plus_one, plus_append}
use Rattle.lattice.proofs.RowLaws.{Zero_zeros, zeros_Zero, Zero_append, ZeroTo_unit, ZeroTo_next, ZeroTo_all, ZeroTo_plus}
use Rattle.lattice.proofs.RowLaws.{entry_plus, entry_unit_at, entry_unit_before}
use Rattle.lattice.specs.Span.{All, Len, Span, Independent}
use Rattle.lattice.proofs.Span.{span_entry}
use Rattle.lattice.specs.Sums.{sums, Satisfies}
use Rattle.lattice.proofs.SumLaws.{length_sums, sums_plus, sums_unit, sums_Zero}
use Rattle.tableau.specs.Table.{column, tableau_from, tableau}
use Rattle.tableau.specs.Generators.{Generators, Reaches, Sized}

length_column : (j : ℕ) (A : List (List ℤ)) → length (column j A) ≡ length A
length_column j A = length-map A (entry j)

-- ---- lengths
from_length : (k j n : ℕ) (A : List (List ℤ)) → All (Len (length A + n)) (tableau_from k j n A)
unfolding tableau_from
from_length zero j n A = tt
from_length (suc k) j n A =
    (length-append (column j A) (unit n j) ∙ ap₂ ◌+◌ (length_column j A) (length_unit n j), from_length k (suc j) n A)

from_count : (k j n : ℕ) (A : List (List ℤ)) → length (tableau_from k j n A) ≡ k
unfolding tableau_from
from_count zero j n A = refl
from_count (suc k) j n A = ap suc (from_count k (suc j) n A)

pub tableau_count : (n : ℕ) (A : List (List ℤ)) → length (tableau n A) ≡ n
unfolding tableau
tableau_count n A = from_count n 0 n A

pub tableau_length : (n : ℕ) (A : List (List ℤ)) → All (Len (length A + n)) (tableau n A)
unfolding tableau
tableau_length n A = from_length n 0 n A

-- ---- independence: row j has a 1 where the rows below it have 0s
entry_row : (i j n : ℕ) (A : List (List ℤ)) → entry (length A + i) (column j A ++ unit n j) ≡ entry i (unit n j)
entry_row i j n A = rw (← (length_column j A)) (get_or-append-add (column j A) (unit n j) i (pos 0))

from_zero : (k i j n : ℕ) (A : List (List ℤ)) → i < j → All (λ (r : List ℤ). entry (length A + i) r ≡ pos 0) (tableau_from k j n A)
unfolding tableau_from
from_zero zero i j n A h = tt
from_zero (suc k) i j n A h = (entry_row i j n A ∙ entry_unit_before n i j h, from_zero k i (suc j) n A (omega arith))

from_independent : (k j n : ℕ) (A : List (List ℤ)) → j + k ≡ n → Independent (length A + n) (tableau_from k j n A)
unfolding tableau_from
from_independent zero j n A h = tt
from_independent (suc k) j n A h = (
  (λ c s.
      let i : ℕ = length A + j in
      let r : List ℤ = column j A ++ unit n j in
      let w : List ℤ = zeros (length A + n) in
      let l : length w ≡ length A + n = length-replicate (length A + n) (pos 0) in
      let one : entry i r ≡ pos 1 = entry_row j j n A ∙ entry_unit_at n j (omega arith) in
      let none : entry i (plus c r w) ≡ pos 0 =
      span_entry i (tableau_from k (suc j) n A) (plus c r w) (omega (arith, l, length_plus c r w)) (from_zero k j (suc j) n A (omega arith)) s in
      multiple_zero c (positive 0)
      (sym (entry_plus i c r w (omega arith) ∙ ap₂ (λ (a b : ℤ). a +ℤ c *ℤ b) (entry_zeros i (length A + n)) one) ∙ none)),
  from_independent k (suc j) n A (omega arith),
)

pub tableau_independent : (n : ℕ) (A : List (List ℤ)) → Independent (length A + n) (tableau n A)
unfolding tableau
tableau_independent n A = from_independent n 0 n A (omega arith)

-- ---- the span
-- the rows j to j + k − 1 span only lists (y, x) where y are the sums of x
from_out : (k j n : ℕ) (A : List (List ℤ)) (y x : List ℤ) → All (Len n) A → length y ≡ length A → length x ≡ n
    → Span (tableau_from k j n A) (y ++ x) → sums A x ≡ y
unfolding tableau_from
from_out zero j n A y x w ly lx s =
    let z : Zero y × Zero x = (Zero_append y x).0 s in
    zeros_Zero (length A) (sums A x) (length_sums A x) (sums_Zero A x z.1) ∙ sym (zeros_Zero (length A) y ly z.0)
from_out (suc k) j n A y x w ly lx s =
    let c : ℤ = s.0 in
    let i : sums A (plus c (unit n j) x) ≡ plus c (column j A) y =
    from_out k (suc j) n A (plus c (column j A) y) (plus c (unit n j) x) w (length_plus c (column j A) y ∙ ly) (length_plus c (unit n j) x ∙ lx)
    (subst (Span (tableau_from k (suc j) n A)) (plus_append c (column j A) y (unit n j) x (length_column j A ∙ sym ly)) s.1) in
    plus_cancel c (column j A) (sums A x) y
    (ap (λ (r : List ℤ). plus c r (sums A x)) (sym (sums_unit A n j w)) ∙ sym (sums_plus A c (unit n j) x (length_unit n j ∙ sym lx)) ∙ i)

-- and those where x begins with j zeros
from_in : (k j n : ℕ) (A : List (List ℤ)) (y x : List ℤ) → j + k ≡ n → All (Len n) A → length y ≡ length A → length x ≡ n
    → ZeroTo j x → sums A x ≡ y → Span (tableau_from k j n A) (y ++ x)
unfolding tableau_from
from_in zero j n A y x h w ly lx z e =
    let zx : Zero x = ZeroTo_all j x (omega (arith, lx)) z in
    (Zero_append y x).1 (subst Zero e (sums_Zero A x zx), zx)
from_in (suc k) j n A y x h w ly lx z e =
    let c : ℤ = neg_ℤ (entry j x) in
    let x' : List ℤ = plus c (unit n j) x in (
      c,
      subst (Span (tableau_from k (suc j) n A)) (sym (plus_append c (column j A) y (unit n j) x (length_column j A ∙ sym ly)))
          (from_in k (suc j) n A (plus c (column j A) y) x' (omega arith) w (length_plus c (column j A) y ∙ ly) (length_plus c (unit n j) x ∙ lx)
          (ZeroTo_next j x' (ZeroTo_plus j c (unit n j) x (ZeroTo_unit n j) z)
          (entry_plus j c (unit n j) x (omega (arith, lx))
          ∙ ap (λ (t : ℤ). entry j x +ℤ c *ℤ t) (entry_unit_at n j (omega arith))
          ∙ gone (entry j x)))
          (sums_plus A c (unit n j) x (length_unit n j ∙ sym lx) ∙ ap₂ (plus c) (sums_unit A n j w) e)),
    )
  where
    gone : (t : ℤ) → t +ℤ neg_ℤ t *ℤ pos 1 ≡ pos 0
    gone t = rw (rep t) (simp diff_rel (omega arith))

pub tableau_span : (n : ℕ) (A : List (List ℤ)) (y x : List ℤ) → All (Len n) A → length y ≡ length A → length x ≡ n
    → Span (tableau n A) (y ++ x) ↔ (sums A x ≡ y)
unfolding tableau
tableau_span n A y x w ly lx = (from_out n 0 n A y x w ly lx, from_in n 0 n A y x (omega arith) w ly lx tt)

-- ---- with the right side
pub tableau_generators : (n : ℕ) (A : List (List ℤ)) (b : List ℤ) → Sized n A b → Generators n (length A) (tableau n A) (neg b ++ zeros n)
tableau_generators n A b z = record {
  wide = tableau_length n A;
  independent = tableau_independent n A;
  long = length-append (neg b) (zeros n) ∙ ap₂ ◌+◌ (length_neg b ∙ z.long) (length-replicate n (pos 0));
}

-- (0, x) − (−b, 0) = (b, x)
less_right : (m n : ℕ) (b x : List ℤ) → length b ≡ m → minus (zeros m ++ x) (neg b ++ zeros n) ≡ b ++ x
less_right m n b x l =
    let e : length b ≡ length (zeros m) = l ∙ sym (length-replicate m (pos 0)) in
    plus_append (negsuc 0) (neg b) (zeros m) (zeros n) x (length_neg b ∙ e)
    ∙ ap₂ ◌++◌ (plus_neg (negsuc 0) b (zeros m) ∙ plus_one b (zeros m) e (Zero_zeros m)) (plus_zeros (negsuc 0) (zeros n) x (Zero_zeros n))

pub tableau_reaches : (n : ℕ) (A : List (List ℤ)) (b : List ℤ) → Sized n A b → (x : List ℤ)
    → Reaches n (length A) (tableau n A) (neg b ++ zeros n) x ↔ Satisfies n A b x
tableau_reaches n A b z x = (
  (λ r. record { wide = r.long; keeps = (tableau_span n A b x z.wide z.long r.long).0 (rw is at r.spans) }),
  (λ s. record { long = s.wide; spans = rw is ((tableau_span n A b x z.wide z.long s.wide).1 s.keeps) }),
)
  where
    is : minus (zeros (length A) ++ x) (neg b ++ zeros n) ≡ b ++ x
    is = less_right (length A) n b x z.long
