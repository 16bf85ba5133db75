-- The stride is the greatest common divisor of its column.
--   stride_greatest   so it is
--   span_divides      what divides a column's magnitude in every row divides it in every list of their span
-- Assumes nothing.
use mathlib.Core.Path.{◌≡◌, sym, subst}
use mathlib.Core.List.{List, [], ◌∷◌}
use Prim.Native.Nat.{ℕ, zero, suc, ◌<◌, ◌∣◌}
use native.Mathlib.Nat.{dvd-zero, dvd_trans, eq-zero_of_zero-dvd}
use native.Mathlib.Omega.{arith}
use lib.IntN.{ℤ, pos, neg_ℤ, nat_abs, ◌+ℤ◌, ◌*ℤ◌}
use lib.ListN.{length}
use Rattle.whole.specs.Lists.{entry}
use Rattle.whole.proofs.Integers.{rep, diff_rel}
use Rattle.whole.specs.Divisor.{divisor, Greatest}
use Rattle.whole.proofs.Euclid.{divisor_greatest, dvd_abs_add, dvd_abs_mul}
use Rattle.lattice.specs.Rows.{plus, Zero}
use Rattle.lattice.proofs.RowLaws.{length_plus, entry_plus}
use Rattle.lattice.specs.Span.{All, Span}
use Rattle.lattice.proofs.Span.{all_map}
use Rattle.settling.specs.Strides.{stride, StrideGreatest}

-- ---- the stride
-- d divides the magnitude in column j
abbrev Divides : ℕ → ℕ → List ℤ → Type 0
Divides d j r = d ∣ nat_abs (entry j r)

stride_divides : (N : List (List ℤ)) (j : ℕ) → All (Divides (stride N j) j) N
unfolding stride
stride_divides [] j = tt
stride_divides (r ∷ N) j =
    let a : ℕ = nat_abs (entry j r) in
    let g : Greatest a (stride N j) (divisor a (stride N j)) = divisor_greatest a (stride N j) in (
      g.first,
      all_map (Divides (stride N j) j) (Divides (divisor a (stride N j)) j)
          (λ s h. dvd_trans (divisor a (stride N j)) {b = stride N j} {c = nat_abs (entry j s)} g.second h) N (stride_divides N j),
    )

stride_above : (N : List (List ℤ)) (j c : ℕ) → All (Divides c j) N → c ∣ stride N j
unfolding stride
stride_above [] j c a = dvd-zero c
stride_above (r ∷ N) j c a = (divisor_greatest (nat_abs (entry j r)) (stride N j)).greatest c a.0 (stride_above N j c a.1)

pub stride_greatest : StrideGreatest
stride_greatest N j = record {
  divides = stride_divides N j;
  greatest = stride_above N j;
  none = λ z.
      eq-zero_of_zero-dvd
      (stride_above N j 0
      (all_map (λ (r : List ℤ). entry j r ≡ pos 0) (Divides 0 j) (λ r e. subst (λ (x : ℤ). 0 ∣ nat_abs x) (sym e) (dvd-zero 0)) N z));
}

-- ---- the span
-- x = (x + k y) − k y
less_again : (k x y : ℤ) → x +ℤ k *ℤ y +ℤ neg_ℤ k *ℤ y ≡ x
less_again k x y = rw (rep k, rep x, rep y) (simp diff_rel (omega arith))

pub span_divides : (c j : ℕ) (N : List (List ℤ)) (v : List ℤ) → j < length v → All (λ (r : List ℤ). c ∣ nat_abs (entry j r)) N → Span N v
    → c ∣ nat_abs (entry j v)
span_divides c j [] v h a z = go j v z
  where
    go : (j : ℕ) (v : List ℤ) → Zero v → c ∣ nat_abs (entry j v)
    go j [] z = dvd-zero c
    go zero (x ∷ v) z = subst (λ (x : ℤ). c ∣ nat_abs x) (sym z.0) (dvd-zero c)
    go (suc j) (x ∷ v) z = go j v z.1
span_divides c j (r ∷ N) v h a s =
    let k : ℤ = s.0 in
    let x : ℤ = entry j v in
    let y : ℤ = entry j r in
    let d : c ∣ nat_abs (entry j (plus k r v)) = span_divides c j N (plus k r v) (omega (arith, length_plus k r v)) a.1 s.1 in
    let e : c ∣ nat_abs (x +ℤ k *ℤ y) = subst (λ (x : ℤ). c ∣ nat_abs x) (entry_plus j k r v h) d in
    subst (λ (x : ℤ). c ∣ nat_abs x) (less_again k x y) (dvd_abs_add c (x +ℤ k *ℤ y) (neg_ℤ k *ℤ y) e (dvd_abs_mul c (neg_ℤ k) y a.0))
