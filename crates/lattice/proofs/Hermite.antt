-- Laws of row Hermite forms: their leads, what they span, and that a form is the only one of its span.
--   rows_led            each row of a Hermite form has the form's width, and a lead above 0
--   rows_rising         the leads of its rows rise, from column 0 on
--   rising_parts        and so they do in the rows of each of two parts
--   span_indent, -pivot the span of a table behind a column of zeros, and below a pivot's row
--   past m H            the rows whose lead lies past the first m columns, without these
--   past-..             their width, their form, what is reduced by them, what they span
--   reduced_unique      of the lists that differ by a list of the span at most one is reduced
--   reduced_head        a reduced list of the coset of (m zeros, u) begins with m zeros
--   hermite_unique      two Hermite forms of one span are the same
-- Assumes nothing.
use mathlib.Core.Path.{◌≡◌, refl, sym, ◌∙◌, ap, ap₂, subst}
use mathlib.Core.Logic.Iff
use mathlib.Core.Logic.{◌↔◌}
use mathlib.Core.List.{List, [], ◌∷◌, ◌++◌}
use Prim.Native.Nat.{ℕ, zero, suc, ◌+◌}
use native.Mathlib.Omega.{arith}
use lib.ListN.{length}
use lib.IntN.{ℤ, pos, negsuc, ◌+ℤ◌, ◌*ℤ◌}
use lib.Signed.{≤ℤ_refl}
use Rattle.whole.specs.Lists.{zeros}
use Rattle.whole.specs.Tests.{positive, Positive}
use Rattle.whole.proofs.Integers.{rep, diff_rel, add_none, positive_above, positive_nonzero}
use Rattle.whole.proofs.Integers.{multiple_zero, multiple_small, multiple_both, multiple_self}
use Rattle.lattice.specs.Rows.{plus, minus, ZeroTo, lead}
use Rattle.lattice.proofs.RowLaws.{plus_none}
use Rattle.lattice.specs.Span.{All, Span, Same}
use Rattle.lattice.proofs.Span.{span_row, span_under}
use Rattle.lattice.specs.Hermite.{done, skip, step, Echelon, Hermite, Led, Reduced, Rising, indent, rows, width}

abbrev pub past : ℕ → Echelon → Echelon
past zero H = H
past (suc m) done = done
past (suc m) (skip H) = past m H
past (suc m) (step p r H) = past m H

-- ---- the rows' lengths and leads
indent_led : (n : ℕ) (T : List (List ℤ)) → All (Led n) T → All (Led (suc n)) (indent T)
unfolding lead
indent_led n [] a = tt
indent_led n (r ∷ T) a =
    (record { wide = ap suc a.0.wide; inside = omega (arith, a.0.inside); above = a.0.above }, indent_led n T a.1)

pivot_led : (n : ℕ) (p : ℤ) (r : List ℤ) → Positive p → length r ≡ n → Led (suc n) (p ∷ r)
unfolding lead
pivot_led n p r (positive k) e = record { wide = ap suc e; inside = omega arith; above = positive k }

pub rows_led : (H : Echelon) → Hermite H → All (Led (width H)) (rows H)
rows_led done h = tt
rows_led (skip H) h = indent_led (width H) (rows H) (rows_led H h)
rows_led (step p r H) h = (pivot_led (width H) p r h.0 h.1, indent_led (width H) (rows H) (rows_led H h.3))

indent_rising : (c : ℕ) (T : List (List ℤ)) → Rising c T → Rising (suc c) (indent T)
unfolding lead
indent_rising c [] a = tt
indent_rising c (r ∷ T) a = (omega (arith, a.0), indent_rising (suc (lead r)) T a.1)

pivot_lead : {p : ℤ} (r : List ℤ) → Positive p → lead (p ∷ r) ≡ 0
unfolding lead
pivot_lead r (positive k) = refl

rising_sooner : (c : ℕ) (T : List (List ℤ)) → Rising c T → Rising 0 T
rising_sooner c [] a = tt
rising_sooner c (r ∷ T) a = (omega arith, a.1)

pub rising_parts : (c : ℕ) (A B : List (List ℤ)) → Rising c (A ++ B) → Rising c A × Rising 0 B
rising_parts c [] B a = (tt, rising_sooner c B a)
rising_parts c (r ∷ A) B a =
    let i : Rising (suc (lead r)) A × Rising 0 B = rising_parts (suc (lead r)) A B a.1 in ((a.0, i.0), i.1)

pub rows_rising : (H : Echelon) → Hermite H → Rising 0 (rows H)
rows_rising done h = tt
rows_rising (skip H) h = rising_sooner 1 (indent (rows H)) (indent_rising 0 (rows H) (rows_rising H h))
rows_rising (step p r H) h =
    let a : Rising 1 (indent (rows H)) = indent_rising 0 (rows H) (rows_rising H h.3) in
    (omega arith, subst (λ (k : ℕ). Rising (suc k) (indent (rows H))) (sym (pivot_lead r h.0)) a)

-- ---- spans behind a column
pub span_indent : (T : List (List ℤ)) (x : ℤ) (v : List ℤ) → Span (indent T) (x ∷ v) ↔ ((x ≡ pos 0) × Span T v)
unfolding plus
span_indent [] x v = ((λ s. s), (λ s. s))
span_indent (r ∷ T) x v = (
  (λ s.
      let i : (x +ℤ s.0 *ℤ pos 0 ≡ pos 0) × Span T (plus s.0 r v) = (span_indent T _ _).0 s.1 in
      (sym (add_none s.0 x (pos 0) refl) ∙ i.0, (s.0, i.1))),
  (λ s. (s.1.0, (span_indent T _ _).1 (add_none s.1.0 x (pos 0) refl ∙ s.0, s.1.1))),
)

span_pivot : {p : ℤ} (r : List ℤ) (T : List (List ℤ)) (v : List ℤ) → Positive p → Span ((p ∷ r) ∷ indent T) (pos 0 ∷ v) ↔ Span T v
unfolding plus
span_pivot {p} r T v h = (
  (λ s.
      let i : (pos 0 +ℤ s.0 *ℤ p ≡ pos 0) × Span T (plus s.0 r v) = (span_indent T _ _).0 s.1 in
      let z : s.0 ≡ pos 0 = multiple_zero s.0 h i.0 in
      subst (Span T) (ap (λ (c : ℤ). plus c r v) z ∙ plus_none r v) i.1),
  (λ s. span_under (p ∷ r) (indent T) (pos 0 ∷ v) ((span_indent T (pos 0) v).1 (refl, s))),
)

-- ---- past the first m columns
pub past_width : (m n : ℕ) (H : Echelon) → width H ≡ m + n → width (past m H) ≡ n
past_width zero n H e = omega arith
past_width (suc m) n done e = absurd (omega arith)
past_width (suc m) n (skip H) e = past_width m n H (omega arith)
past_width (suc m) n (step p r H) e = past_width m n H (omega arith)

pub past_hermite : (m : ℕ) (H : Echelon) → Hermite H → Hermite (past m H)
past_hermite zero H h = h
past_hermite (suc m) done h = tt
past_hermite (suc m) (skip H) h = past_hermite m H h
past_hermite (suc m) (step p r H) h = past_hermite m H h.3

pub past_reduced : (m : ℕ) (H : Echelon) (v : List ℤ) → Reduced H (zeros m ++ v) → Reduced (past m H) v
past_reduced zero H v r = r
past_reduced (suc m) done v r = tt
past_reduced (suc m) (skip H) v r = past_reduced m H v r
past_reduced (suc m) (step p s H) v r = past_reduced m H v r.2

pub past_span : (m n : ℕ) (H : Echelon) (v : List ℤ) → width H ≡ m + n → Hermite H → Span (rows H) (zeros m ++ v) ↔ Span (rows (past m H)) v
past_span zero n H v e h = ((λ s. s), (λ s. s))
past_span (suc m) n done v e h = absurd (omega arith)
past_span (suc m) n (skip H) v e h =
    Iff.trans (span_indent (rows H) (pos 0) (zeros m ++ v)) (Iff.trans ((λ s. s.1), (λ s. (refl, s))) (past_span m n H v (omega arith) h))
past_span (suc m) n (step p r H) v e h = Iff.trans (span_pivot r (rows H) (zeros m ++ v) h.0) (past_span m n H v (omega arith) h.3)

-- ---- reduced lists
equal : (x y : ℤ) → x +ℤ negsuc 0 *ℤ y ≡ pos 0 → x ≡ y
equal x y = rw (rep x, rep y) (simp diff_rel (omega arith))

pub reduced_unique : (H : Echelon) (u v : List ℤ) → length u ≡ width H → length v ≡ width H → Hermite H → Reduced H u → Reduced H v
    → Span (rows H) (minus u v) → u ≡ v
unfolding plus
reduced_unique done [] [] a b h ru rv s = refl
reduced_unique done [] (y ∷ v) a b h ru rv s = absurd (omega arith)
reduced_unique done (x ∷ u) v a b h ru rv s = absurd (omega arith)
reduced_unique (skip H) [] v a b h ru rv s = absurd (omega arith)
reduced_unique (skip H) (x ∷ u) [] a b h ru rv s = absurd (omega arith)
reduced_unique (skip H) (x ∷ u) (y ∷ v) a b h ru rv s =
    let i : (x +ℤ negsuc 0 *ℤ y ≡ pos 0) × Span (rows H) (minus u v) = (span_indent (rows H) _ _).0 s in
    ap₂ ◌∷◌ (equal x y i.0) (reduced_unique H u v (omega arith) (omega arith) h ru rv i.1)
reduced_unique (step p r H) [] v a b h ru rv s = absurd (omega arith)
reduced_unique (step p r H) (x ∷ u) [] a b h ru rv s = absurd (omega arith)
reduced_unique (step p r H) (x ∷ u) (y ∷ v) a b h ru rv s =
    let i : (x +ℤ negsuc 0 *ℤ y +ℤ s.0 *ℤ p ≡ pos 0) × Span (rows H) (plus s.0 r (minus u v)) = (span_indent (rows H) _ _).0 s.1 in
    let z : (s.0 ≡ pos 0) × (x ≡ y) = multiple_small x y s.0 h.0 ru.0 ru.1 rv.0 rv.1 i.0 in
    ap₂ ◌∷◌ z.1
    (reduced_unique H u v (omega arith) (omega arith) h.3 ru.2 rv.2
    (subst (Span (rows H)) (ap (λ (c : ℤ). plus c r (minus u v)) z.0 ∙ plus_none r (minus u v)) i.1))

-- a reduced list that differs by a list of the span from one with m zeros in front has them too
pub reduced_head : (m : ℕ) (H : Echelon) (u v : List ℤ) → length (zeros m ++ u) ≡ width H → Hermite H → Reduced H v
    → Span (rows H) (minus (zeros m ++ u) v) → ZeroTo m v
unfolding plus
reduced_head zero H u v l h r s = tt
reduced_head (suc m) H u [] l h r s = tt
reduced_head (suc m) done u (y ∷ v) l h r s = absurd (omega arith)
reduced_head (suc m) (skip H) u (y ∷ v) l h r s =
    let i : (pos 0 +ℤ negsuc 0 *ℤ y ≡ pos 0) × Span (rows H) (minus (zeros m ++ u) v) = (span_indent (rows H) _ _).0 s in
    (sym (equal (pos 0) y i.0), reduced_head m H u v (omega arith) h r i.1)
reduced_head (suc m) (step p t H) u (y ∷ v) l h r s =
    let w : List ℤ = minus (zeros m ++ u) v in
    let i : (pos 0 +ℤ negsuc 0 *ℤ y +ℤ s.0 *ℤ p ≡ pos 0) × Span (rows H) (plus s.0 t w) = (span_indent (rows H) _ _).0 s.1 in
    let z : (s.0 ≡ pos 0) × (pos 0 ≡ y) = multiple_small (pos 0) y s.0 h.0 (≤ℤ_refl (pos 0)) (positive_above h.0) r.0 r.1 i.0 in
    (sym z.1, reduced_head m H u v (omega arith) h.3 r.2 (subst (Span (rows H)) (ap (λ (c : ℤ). plus c t w) z.0 ∙ plus_none t w) i.1))

-- ---- the form of a span
-- a pivot in one form has a pivot in the other
no_skip : (p : ℤ) (r : List ℤ) (H K : Echelon) → Hermite (step p r H) → (Span (rows (step p r H)) (p ∷ r) → Span (rows (skip K)) (p ∷ r)) → ⊥
no_skip p r H K h f = positive_nonzero h.0 ((span_indent (rows K) p r).0 (f (span_row (p ∷ r) (indent (rows H))))).0

-- below the first column
inner_skip : (H K : Echelon) → Same (width (skip H)) (rows (skip H)) (rows (skip K)) → Same (width H) (rows H) (rows K)
inner_skip H K f = record {
  both = λ v e. (
    (λ x. ((span_indent (rows K) (pos 0) v).0 ((f.both (pos 0 ∷ v) (ap suc e)).0 ((span_indent (rows H) (pos 0) v).1 (refl, x)))).1),
    (λ x. ((span_indent (rows H) (pos 0) v).0 ((f.both (pos 0 ∷ v) (ap suc e)).1 ((span_indent (rows K) (pos 0) v).1 (refl, x)))).1),
  );
}

inner_step : {p q : ℤ} (r s : List ℤ) (H K : Echelon) → Positive p → Positive q
    → Same (width (step p r H)) (rows (step p r H)) (rows (step q s K)) → Same (width H) (rows H) (rows K)
inner_step r s H K pp pq f = record {
  both = λ v e. (
    (λ x. (span_pivot s (rows K) v pq).0 ((f.both (pos 0 ∷ v) (ap suc e)).0 ((span_pivot r (rows H) v pp).1 x))),
    (λ x. (span_pivot r (rows H) v pp).0 ((f.both (pos 0 ∷ v) (ap suc e)).1 ((span_pivot s (rows K) v pq).1 x))),
  );
}

-- two first rows over one form
first_row : (p q : ℤ) (r s : List ℤ) (H : Echelon) → Hermite (step p r H) → Hermite (step q s H)
    → Same (suc (width H)) (rows (step p r H)) (rows (step q s H)) → step p r H ≡ step q s H
unfolding plus
first_row p q r s H h k f =
    let a : Span (rows (step q s H)) (p ∷ r) = (f.both (p ∷ r) (ap suc h.1)).0 (span_row (p ∷ r) (indent (rows H))) in
    let b : Span (rows (step p r H)) (q ∷ s) = (f.both (q ∷ s) (ap suc k.1)).1 (span_row (q ∷ s) (indent (rows H))) in
    let a' : (p +ℤ a.0 *ℤ q ≡ pos 0) × Span (rows H) (plus a.0 s r) = (span_indent (rows H) _ _).0 a.1 in
    let b' : (q +ℤ b.0 *ℤ p ≡ pos 0) × Span (rows H) (plus b.0 r s) = (span_indent (rows H) _ _).0 b.1 in
    let pq : p ≡ q = multiple_both a.0 b.0 h.0 k.0 a'.0 b'.0 in
    let c : a.0 ≡ negsuc 0 = multiple_self a.0 h.0 (ap (λ (x : ℤ). p +ℤ a.0 *ℤ x) pq ∙ a'.0) in
    let rs : r ≡ s = reduced_unique H r s h.1 k.1 h.3 h.2 k.2 (subst (Span (rows H)) (ap (λ (x : ℤ). plus x s r) c) a'.1) in
    ap₂ (λ (x : ℤ) (t : List ℤ). step x t H) pq rs

pub hermite_unique : (H K : Echelon) → width H ≡ width K → Hermite H → Hermite K → Same (width H) (rows H) (rows K) → H ≡ K
hermite_unique done done e h k f = refl
hermite_unique done (skip K) e h k f = absurd (omega arith)
hermite_unique done (step q s K) e h k f = absurd (omega arith)
hermite_unique (skip H) done e h k f = absurd (omega arith)
hermite_unique (skip H) (skip K) e h k f = ap skip (hermite_unique H K (omega arith) h k (inner_skip H K f))
hermite_unique (skip H) (step q s K) e h k f = absurd (no_skip q s K H k (f.both (q ∷ s) (ap suc k.1 ∙ sym e)).1)
hermite_unique (step p r H) done e h k f = absurd (omega arith)
hermite_unique (step p r H) (skip K) e h k f = absurd (no_skip p r H K h (f.both (p ∷ r) (ap suc h.1)).0)
hermite_unique (step p r H) (step q s K) e h k f =
    let i : H ≡ K = hermite_unique H K (omega arith) h.3 k.3 (inner_step r s H K h.0 k.0 f) in
    first_row p q r s H h (rw (← i) at k) (rw (← i) at f) ∙ ap (step q s) i
