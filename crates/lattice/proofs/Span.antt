-- Laws of row spans and of the elementary row steps.
--   all-..              properties of all rows
--   span-..             the span has zeros, each row, multiples and sums
--   front, back, unders a row brought past others, and steps below others
--   steps-..            the steps keep what negation and sums keep, the rows' number and lengths, the span, and independence
--   independent_nonzero there is no row of zeros among independent rows
-- Assumes nothing.
use mathlib.Core.Path.{◌≡◌, refl, sym, ◌∙◌, ap, subst}
use mathlib.Core.Logic.Iff
use mathlib.Core.Logic.{◌↔◌}
use mathlib.Core.List.{List, [], ◌∷◌, ◌++◌, append-nil}
use Prim.Native.Nat.{ℕ, zero, suc, ◌<◌, ◌≤◌}
use native.Mathlib.Omega.{arith}
use lib.ListN.{length, get_or, length-replicate}
use lib.IntN.{ℤ, pos, negsuc, neg_ℤ, ◌+ℤ◌, ◌*ℤ◌, neg_ℤ-neg_ℤ}
use Rattle.whole.specs.Lists.{entry, zeros}
use Rattle.whole.specs.Tests.{positive}
use Rattle.whole.proofs.Integers.{rep, diff_rel, add_none, positive_nonzero}
use Rattle.lattice.specs.Rows.{plus, minus, neg, Zero}
use Rattle.lattice.proofs.RowLaws.{length_plus, length_neg, plus_none, plus_plus, plus_comm, plus_nest, plus_neg, plus_zeros}
use Rattle.lattice.proofs.RowLaws.{Zero_minus, Zero_plus, Zero_zeros, entry_plus}
use Rattle.lattice.specs.Span.{All, Independent, Len, Span, ◌~◌, same, ◌then◌, under, swap, sign, add}

-- ---- all rows
pub all_map : (Q R : List ℤ → Type 0) → ((r : List ℤ) → Q r → R r) → (T : List (List ℤ)) → All Q T → All R T
all_map Q R f [] a = tt
all_map Q R f (r ∷ T) a = (f r a.0, all_map Q R f T a.1)

pub all_both : (Q R S : List ℤ → Type 0) → ((r : List ℤ) → Q r → R r → S r) → (T : List (List ℤ)) → All Q T → All R T → All S T
all_both Q R S f [] a b = tt
all_both Q R S f (r ∷ T) a b = (f r a.0 b.0, all_both Q R S f T a.1 b.1)

pub all_append : {A : Type 0} (Q : A → Type 0) (T U : List A) → All Q (T ++ U) ↔ (All Q T × All Q U)
all_append Q [] U = ((λ a. (tt, a)), (λ a. a.1))
all_append Q (r ∷ T) U = (
  (λ a. ((a.0, ((all_append Q T U).0 a.1).0), ((all_append Q T U).0 a.1).1)),
  (λ a. (a.0.0, (all_append Q T U).1 (a.0.1, a.1))),
)

pub all_end : {A : Type 0} (Q : A → Type 0) (T : List A) (r : A) → All Q T → Q r → All Q (T ++ (r ∷ []))
all_end Q T r a q = (all_append Q T (r ∷ [])).1 (a, (q, tt))

pub all_at : {A : Type 0} (Q : A → Type 0) (T : List A) (j : ℕ) (d : A) → j < length T → All Q T → Q (get_or T j d)
all_at Q [] j d h a = absurd (omega arith)
all_at Q (r ∷ T) zero d h a = a.0
all_at Q (r ∷ T) (suc j) d h a = all_at Q T j d (omega arith) a.1

-- ---- what lies in a span
pub span_under : (r : List ℤ) (T : List (List ℤ)) (v : List ℤ) → Span T v → Span (r ∷ T) v
span_under r T v s = (pos 0, rw (plus_none r v) s)

pub span_zero : (T : List (List ℤ)) (v : List ℤ) → Zero v → Span T v
span_zero [] v z = z
span_zero (r ∷ T) v z = span_under r T v (span_zero T v z)

pub span_row : (r : List ℤ) (T : List (List ℤ)) → Span (r ∷ T) r
span_row r T = (negsuc 0, span_zero T (minus r r) (Zero_minus r))

-- v + c u, of two lists of the span
pub span_plus : (T : List (List ℤ)) (c : ℤ) (u v : List ℤ) → length v ≤ length u → Span T u → Span T v → Span T (plus c u v)
span_plus [] c u v l s t = Zero_plus c u v s t
span_plus (r ∷ T) c u v l s t =
    let a : ℤ = s.0 in
    let b : ℤ = t.0 in (
      b +ℤ c *ℤ a,
      subst (Span T)
          (plus_nest c a r u (plus b r v) (omega (arith, length_plus b r v))
          ∙ ap (plus (c *ℤ a) r) (plus_comm c b u r v)
          ∙ plus_plus (c *ℤ a) b r (plus c u v))
          (span_plus T c (plus a r u) (plus b r v) (omega (arith, length_plus a r u, length_plus b r v)) s.1 t.1),
    )

-- where every row has a 0
pub span_entry : (i : ℕ) (T : List (List ℤ)) (v : List ℤ) → i < length v → All (λ (r : List ℤ). entry i r ≡ pos 0) T → Span T v → entry i v ≡ pos 0
span_entry i [] v h a s = go i v s
  where
    go : (i : ℕ) (v : List ℤ) → Zero v → entry i v ≡ pos 0
    go i [] z = refl
    go zero (x ∷ v) z = z.0
    go (suc i) (x ∷ v) z = go i v z.1
span_entry i (r ∷ T) v h a s =
    sym (add_none s.0 (entry i v) (entry i r) a.0)
    ∙ sym (entry_plus i s.0 r v h)
    ∙ span_entry i T (plus s.0 r v) (omega (arith, length_plus s.0 r v)) a.1 s.1

-- ---- rows brought past others
pub front : (T : List (List ℤ)) (r : List ℤ) (U : List (List ℤ)) → (T ++ (r ∷ U)) ~ (r ∷ (T ++ U))
front [] r U = same
front (t ∷ T) r U = under t (front T r U) then swap t r

pub back : (T : List (List ℤ)) (r : List ℤ) (U : List (List ℤ)) → (r ∷ (T ++ U)) ~ (T ++ (r ∷ U))
back [] r U = same
back (t ∷ T) r U = swap r t then under t (back T r U)

pub unders : (T : List (List ℤ)) {U W : List (List ℤ)} → U ~ W → (T ++ U) ~ (T ++ W)
unders [] s = s
unders (t ∷ T) s = under t (unders T s)

-- ---- what the steps keep
module _ (Q : List ℤ → Type 0) (qn : (r : List ℤ) → Q r → Q (neg r)) (qp : (q : ℤ) (r s : List ℤ) → Q r → Q s → Q (plus q r s)) where
  pub steps_all : {T U : List (List ℤ)} → T ~ U → All Q T → All Q U
  steps_all same a = a
  steps_all (s then t) a = steps_all t (steps_all s a)
  steps_all (under r s) a = (a.0, steps_all s a.1)
  steps_all (swap r s) a = (a.1.0, (a.0, a.1.1))
  steps_all (sign r) a = (qn r a.0, a.1)
  steps_all (add q r s) a = (a.0, (qp q r s a.0 a.1.0, a.1.1))

pub steps_count : {T U : List (List ℤ)} → T ~ U → length T ≡ length U
steps_count same = refl
steps_count (x then y) = steps_count x ∙ steps_count y
steps_count (under r x) = ap suc (steps_count x)
steps_count (swap r s) = refl
steps_count (sign r) = refl
steps_count (add c r s) = refl

pub steps_length : (n : ℕ) {T U : List (List ℤ)} → T ~ U → All (Len n) T → All (Len n) U
steps_length n s a = steps_all (Len n) (λ r e. length_neg r ∙ e) (λ q r s e f. length_plus q r s ∙ f) s a

-- v + c r + d (s + q r) = v + (c + d q) r + d s
regroup : (c d q : ℤ) (r s v : List ℤ) → length v ≤ length s → plus d (plus q r s) (plus c r v) ≡ plus d s (plus (c +ℤ d *ℤ q) r v)
regroup c d q r s v h =
    plus_nest d q r s (plus c r v) (omega (arith, length_plus c r v))
    ∙ plus_comm (d *ℤ q) d r s (plus c r v)
    ∙ ap (plus d s) (plus_plus (d *ℤ q) c r v)

less_more : (c k : ℤ) → c ≡ c +ℤ neg_ℤ k +ℤ k
less_more c k = rw (rep c, rep k) (simp diff_rel (omega arith))

pub steps_span : (n : ℕ) {T U : List (List ℤ)} → T ~ U → All (Len n) T → (v : List ℤ) → length v ≡ n → Span T v ↔ Span U v
steps_span n same a v e = Iff.rfl
steps_span n (s then t) a v e = Iff.trans (steps_span n s a v e) (steps_span n t (steps_length n s a) v e)
steps_span n (under r s) a v e = (
  (λ x. (x.0, (steps_span n s a.1 (plus x.0 r v) (length_plus x.0 r v ∙ e)).0 x.1)),
  (λ x. (x.0, (steps_span n s a.1 (plus x.0 r v) (length_plus x.0 r v ∙ e)).1 x.1)),
)
steps_span n (swap {T} r s) a v e = (
  (λ x. (x.1.0, (x.0, subst (Span T) (plus_comm x.1.0 x.0 s r v) x.1.1))),
  (λ x. (x.1.0, (x.0, subst (Span T) (plus_comm x.1.0 x.0 r s v) x.1.1))),
)
steps_span n (sign {T} r) a v e = (
  (λ x. (neg_ℤ x.0, rw (plus_neg (neg_ℤ x.0) r v, neg_ℤ-neg_ℤ x.0) x.1)),
  (λ x. (neg_ℤ x.0, subst (Span T) (plus_neg x.0 r v) x.1)),
)
steps_span n (add {T} q r s) a v e = (
  (λ x.
      let d : ℤ = x.1.0 in
      let c : ℤ = x.0 +ℤ neg_ℤ (d *ℤ q) in (
        c,
        (
          d,
          subst (Span T)
              (ap (λ (k : ℤ). plus d s (plus k r v)) (less_more x.0 (d *ℤ q)) ∙ sym (regroup c d q r s v (omega (arith, a.1.0))))
              x.1.1,
        ),
      )),
  (λ x. (x.0 +ℤ x.1.0 *ℤ q, (x.1.0, subst (Span T) (regroup x.0 x.1.0 q r s v (omega (arith, a.1.0))) x.1.1))),
)

neg_zero : (c : ℤ) → neg_ℤ c ≡ pos 0 → c ≡ pos 0
neg_zero c = rw (rep c) (simp diff_rel (omega arith))

-- with the first multiple zero
drop_first : (T : List (List ℤ)) (r s : List ℤ) (c d : ℤ) (v : List ℤ) → c ≡ pos 0 → Span T (plus d s (plus c r v)) → Span T (plus d s v)
drop_first T r s c d v z x = subst (Span T) (ap (λ (c : ℤ). plus d s (plus c r v)) z ∙ ap (plus d s) (plus_none r v)) x

pub steps_independent : (n : ℕ) {T U : List (List ℤ)} → T ~ U → All (Len n) T → Independent n T → Independent n U
steps_independent n same a i = i
steps_independent n (s then t) a i = steps_independent n t (steps_length n s a) (steps_independent n s a i)
steps_independent n (under r s) a i = (
  (λ c x. i.0 c ((steps_span n s a.1 (plus c r (zeros n)) (length_plus c r (zeros n) ∙ length-replicate n (pos 0))).1 x)),
  steps_independent n s a.1 i.1,
)
steps_independent n (swap {T} r s) a i = (
  (λ d x.
      let z : Span T (plus d s (plus x.0 r (zeros n))) = subst (Span T) (plus_comm x.0 d r s (zeros n)) x.1 in
      i.1.0 d (drop_first T r s x.0 d (zeros n) (i.0 x.0 (d, z)) z)),
  ((λ c x. i.0 c (span_under s T (plus c r (zeros n)) x)), i.1.1),
)
steps_independent n (sign {T} r) a i = ((λ c x. neg_zero c (i.0 (neg_ℤ c) (subst (Span T) (plus_neg c r (zeros n)) x))), i.1)
steps_independent n (add {T} q r s) a i = (
  (λ c x.
      let d : ℤ = x.0 in
      let z : Span T (plus d s (plus (c +ℤ d *ℤ q) r (zeros n))) = subst (Span T) (regroup c d q r s (zeros n) short) x.1 in
      let e : c +ℤ d *ℤ q ≡ pos 0 = i.0 (c +ℤ d *ℤ q) (d, z) in
      both c d q e (i.1.0 d (drop_first T r s (c +ℤ d *ℤ q) d (zeros n) e z))),
  (
    (λ d x.
        let y : Span T (plus d (plus q r s) (plus (pos 0) r (zeros n))) = rw (plus_none r (zeros n)) x in
        let z : Span T (plus d s (plus (pos 0 +ℤ d *ℤ q) r (zeros n))) = subst (Span T) (regroup (pos 0) d q r s (zeros n) short) y in
        i.1.0 d (drop_first T r s (pos 0 +ℤ d *ℤ q) d (zeros n) (i.0 (pos 0 +ℤ d *ℤ q) (d, z)) z)),
    i.1.1,
  ),
)
  where
    short : length (zeros n) ≤ length s
    short = omega (arith, a.1.0, length-replicate n (pos 0))

    both : (c d q : ℤ) → c +ℤ d *ℤ q ≡ pos 0 → d ≡ pos 0 → c ≡ pos 0
    both c d q e z = rw (rep c) (simp diff_rel (omega (arith, simp diff_rel at (rw (rep c, rep q, z) at e))))

pub independent_nonzero : (n : ℕ) (T Z : List (List ℤ)) → All (Len n) (T ++ Z) → Independent n (T ++ Z) → All Zero Z → T ++ Z ≡ T
independent_nonzero n T [] l i z = append-nil T
independent_nonzero n T (s ∷ Z) l i z =
    let j : Independent n (s ∷ (T ++ Z)) = steps_independent n (front T s Z) l i in
    let e : pos 1 ≡ pos 0 = j.0 (pos 1) (rw (plus_zeros (pos 1) s (zeros n) z.0) (span_zero (T ++ Z) (zeros n) (Zero_zeros n))) in
    absurd (positive_nonzero (positive 0) e)
