-- Laws of the cosets of a row span, and the reduced list of a coset.
--   coset-..           u and v are of one coset of T if `Span T (minus u v)`: of itself, one after the other, turned round, under a sum
--   residue H v        v reduced by the rows of H, top first: the floor quotient times each row taken away
--   residue-..         its length; it is reduced; it is of v's coset; it stands for v; it is the only such list; lists of one coset have one
--   describes_unique   a set has only one description
-- Assumes nothing.
use mathlib.Core.Path.{◌≡◌, refl, sym, ◌∙◌, ap, subst}
use mathlib.Core.Logic.{◌↔◌}
use mathlib.Core.List.{List, [], ◌∷◌}
use Prim.Native.Nat.{ℕ, suc, ◌≤◌}
use native.Mathlib.Omega.{arith}
use lib.ListN.{length}
use lib.IntN.{ℤ, pos, negsuc, neg_ℤ, ◌+ℤ◌, ◌*ℤ◌}
use Rattle.whole.specs.Quotient.{floor_quotient}
use Rattle.whole.proofs.Integers.{rep, diff_rel, floor_quotient_low, floor_quotient_high}
use Rattle.lattice.specs.Rows.{plus, minus}
use Rattle.lattice.proofs.RowLaws.{length_plus, plus_nest, minus_via, minus_turn, minus_sums, minus_part_lem, Zero_minus}
use Rattle.lattice.specs.Span.{Span, Same}
use Rattle.lattice.proofs.Span.{span_zero, span_plus}
use Rattle.lattice.specs.Hermite.{Echelon, done, skip, step, width, rows, Reduced, Hermite}
use Rattle.lattice.proofs.Hermite.{span_indent, reduced_unique, hermite_unique}
use Rattle.lattice.specs.Coset.{Describes}

abbrev pub residue : Echelon → List ℤ → List ℤ
residue done v = v
residue (skip H) [] = []
residue (skip H) (x ∷ v) = x ∷ residue H v
residue (step p r H) [] = []
residue (step p r H) (x ∷ v) = (x +ℤ neg_ℤ (floor_quotient x p) *ℤ p) ∷ residue H (plus (neg_ℤ (floor_quotient x p)) r v)

-- ---- cosets
module _ (T : List (List ℤ)) where
  pub coset_self : (u : List ℤ) → Span T (minus u u)
  coset_self u = span_zero T (minus u u) (Zero_minus u)

  pub coset_via : (u w v : List ℤ) → length u ≤ length w → Span T (minus u w) → Span T (minus w v) → Span T (minus u v)
  coset_via u w v l s t =
      subst (Span T) (minus_via u w v l)
      (span_plus T (pos 1) (minus w v) (minus u w) (omega (arith, length_plus (negsuc 0) v w, length_plus (negsuc 0) w u)) t s)

  pub coset_turn : (u v : List ℤ) → length v ≤ length u → Span T (minus u v) → Span T (minus v u)
  coset_turn u v l s =
      subst (Span T) (minus_turn u v l)
      (span_plus T (negsuc 0) (minus u v) (minus v v) (omega (arith, length_plus (negsuc 0) v u, length_plus (negsuc 0) v v)) s (coset_self v))

  pub coset_sums : (c : ℤ) (u w v : List ℤ) → length v ≤ length u → Span T (minus u w) → Span T (minus (plus c u v) (plus c w v))
  coset_sums c u w v l s =
      subst (Span T) (minus_sums c u w v l)
      (span_plus T c (minus u w) (minus v v) (omega (arith, length_plus (negsuc 0) w u, length_plus (negsuc 0) v v)) s (coset_self v))

-- ---- residues
pub residue_length : (H : Echelon) (v : List ℤ) → length (residue H v) ≡ length v
residue_length done v = refl
residue_length (skip H) [] = refl
residue_length (skip H) (x ∷ v) = ap suc (residue_length H v)
residue_length (step p r H) [] = refl
residue_length (step p r H) (x ∷ v) = ap suc (residue_length H _ ∙ length_plus _ r v)

pub residue_reduced : (H : Echelon) (v : List ℤ) → Hermite H → Reduced H (residue H v)
residue_reduced done v h = tt
residue_reduced (skip H) [] h = tt
residue_reduced (skip H) (x ∷ v) h = residue_reduced H v h
residue_reduced (step p r H) [] h = tt
residue_reduced (step p r H) (x ∷ v) h = (floor_quotient_low x h.0, floor_quotient_high x h.0, residue_reduced H _ h.3)

pub residue_coset : (H : Echelon) (v : List ℤ) → length v ≡ width H → Span (rows H) (minus (residue H v) v)
unfolding plus
residue_coset done v e = Zero_minus v
residue_coset (skip H) [] e = absurd (omega arith)
residue_coset (skip H) (x ∷ v) e = (span_indent (rows H) _ _).1 (rw (rep x) (simp diff_rel (omega arith)), residue_coset H v (omega arith))
residue_coset (step p r H) [] e = absurd (omega arith)
residue_coset (step p r H) (x ∷ v) e =
    let q : ℤ = floor_quotient x p in
    let w : List ℤ = plus (neg_ℤ q) r v in (
      q,
      (span_indent (rows H) _ _).1 (
        back q,
        subst (Span (rows H))
            (plus_nest (negsuc 0) (neg_ℤ q) r v (residue H w) (omega (arith, residue_length H w, length_plus (neg_ℤ q) r v))
            ∙ ap (λ (c : ℤ). plus c r (minus (residue H w) v)) (twice q))
            (residue_coset H w (length_plus (neg_ℤ q) r v ∙ omega arith)),
      ),
    )
  where
    back : (q : ℤ) → x +ℤ neg_ℤ q *ℤ p +ℤ negsuc 0 *ℤ x +ℤ q *ℤ p ≡ pos 0
    back q = rw (rep q, rep x, rep p) (simp diff_rel (omega arith))

    twice : (q : ℤ) → negsuc 0 *ℤ neg_ℤ q ≡ q
    twice q = rw (rep q) (simp diff_rel (omega arith))

pub residue_for : (H : Echelon) (u v : List ℤ) → length u ≡ width H → length v ≡ width H
    → Span (rows H) (minus u v) ↔ Span (rows H) (minus u (residue H v))
residue_for H u v a b =
    let l : length (residue H v) ≡ length v = residue_length H v in (
      (λ s. coset_via (rows H) u v (residue H v) (omega arith) s (coset_turn (rows H) (residue H v) v (omega arith) (residue_coset H v b))),
      (λ s. coset_via (rows H) u (residue H v) v (omega arith) s (residue_coset H v b)),
    )

pub residue_unique : (H : Echelon) (u v : List ℤ) → length u ≡ width H → length v ≡ width H → Hermite H → Reduced H u → Span (rows H) (minus u v)
    → u ≡ residue H v
residue_unique H u v a b h r s =
    reduced_unique H u (residue H v) a (residue_length H v ∙ b) h r (residue_reduced H v h) ((residue_for H u v a b).0 s)

pub residue_equal : (H : Echelon) (u v : List ℤ) → length u ≡ width H → length v ≡ width H → Hermite H → Span (rows H) (minus u v)
    → residue H u ≡ residue H v
residue_equal H u v a b h s =
    let l : length (residue H u) ≡ length u = residue_length H u in
    residue_unique H (residue H u) v (l ∙ a) b h (residue_reduced H u h) (coset_via (rows H) (residue H u) u v (omega arith) (residue_coset H u a) s)

-- ---- descriptions
-- of two sets, the lists of the one being lists of the other
module _ {n : ℕ} {Q R : List ℤ → Type 0} {s t : List ℤ} {N M : List (List ℤ)} (a : Describes n Q s N) (b : Describes n R t M)
    (f : (x : List ℤ) → length x ≡ n → Q x → R x) where
  start : Span M (minus s t)
  start = (b.set s a.long).0 (f s a.long ((a.set s a.long).1 (coset_self N s)))

  within : (y : List ℤ) → length y ≡ n → Span N y → Span M y
  within y l sy =
      let x : List ℤ = plus (pos 1) y s in
      let y_is : minus x s ≡ y = minus_part_lem y s (l ∙ sym a.long) in
      let lx : length x ≡ n = length_plus (pos 1) y s ∙ a.long in
      let xt : Span M (minus x t) = (b.set x lx).0 (f x lx ((a.set x lx).1 (rw y_is sy))) in
      rw y_is at (coset_via M x t s (omega (arith, lx, b.long)) xt (coset_turn M s t (omega (arith, a.long, b.long)) start))

pub describes_unique : {n : ℕ} {Q R : List ℤ → Type 0} {s t : List ℤ} {N M : List (List ℤ)} → Describes n Q s N → Describes n R t M
    → ((x : List ℤ) → length x ≡ n → Q x ↔ R x) → (s ≡ t) × (N ≡ M)
describes_unique {n} {Q} {R} {s} {t} {N} {M} a b f =
    let to : (x : List ℤ) → length x ≡ n → Q x → R x = λ x l. (f x l).0 in
    let from : (x : List ℤ) → length x ≡ n → R x → Q x = λ x l. (f x l).1 in
    let w : Same n N M = record { both = λ y l. (within a b to y l, within b a from y l) } in
    let k : a.form ≡ b.form =
    hermite_unique a.form b.form (a.wide ∙ sym b.wide) a.hermite b.hermite (rw (a.wide, ← a.is, ← b.is) w) in (
      reduced_unique b.form s t (a.long ∙ sym b.wide) (b.long ∙ sym b.wide) b.hermite (rw k at a.reduced) b.reduced
          (rw b.is at (start a b to)),
      a.is ∙ ap rows k ∙ sym b.is,
    )
