-- Laws of the right side: what it finds tells the set of lists that a form and a right side reach.
--   sweep_rows            to sweep by the rows of a form is to reduce by it
--   indents m T           m columns of zeros before T
--   rising_none, -all     where the leads rise from column m on, no row is a leading one, and all are remaining ones
--   rising_split          where the leads rise, the rows are the leading ones, then the remaining ones
--   remaining_past        the remaining ones are the form past m columns, behind m zeros
--   basis_past            so the basis is the form past m columns
--   right_found           what is found: the residue's tail and the form past m columns, if the residue begins with m zeros
--   right_tells           and that tells the set of lists x where (m zeros, x) − v lies in the form's span
-- The mark `over` changes nothing in the rows.
-- Assumes nothing.
use mathlib.Core.Path.{◌≡◌, refl, sym, ◌∙◌, ap, ap₂, subst}
use mathlib.Core.Logic.Iff
use mathlib.Core.Logic.{◌↔◌}
use mathlib.Core.Bool.{Bool, true, false, cond, false≢true}
use mathlib.Core.List.{List, [], ◌∷◌, ◌++◌, map, map-map, map-id}
use Prim.Native.Nat.{ℕ, zero, suc, ◌+◌, ◌≤◌}
use native.Mathlib.Omega.{arith}
use borrow.Author.Tests.{ltb-false, lt-ltb, le-ltb}
use lib.Dec.{ltb, leb-suc-suc}
use lib.ListN.{length, take, drop, length-drop, take-append-drop}
use lib.Seq.{length-take-le}
use lib.IntN.{ℤ, pos, neg_ℤ, ◌+ℤ◌, ◌*ℤ◌}
use Rattle.whole.specs.Lists.{entry, zeros}
use Rattle.whole.specs.Quotient.{floor_quotient}
use Rattle.whole.specs.Tests.{positive, Positive}
use Rattle.whole.proofs.Integers.{add_none}
use Rattle.lattice.specs.Rows.{plus, minus, all_zero, lead}
use Rattle.lattice.proofs.RowLaws.{length_plus, length_zeros, zeros_Zero, minus_zeros, all_zero_Zero}
use Rattle.lattice.specs.Span.{Span}
use Rattle.lattice.specs.Hermite.{Echelon, done, skip, step, width, indent, rows, Reduced, Hermite, Rising}
use Rattle.lattice.proofs.Hermite.{past, rows_rising, past_width, past_hermite, past_reduced, past_span, reduced_head}
use Rattle.lattice.proofs.Coset.{residue, residue_length, residue_reduced, residue_for}
use Rattle.tableau.specs.Elimination.{reduced}
use Rattle.tableau.specs.RightSide.{sweep, leading, remaining, basis, Found, none, some, Solved, right_side}
use Rattle.tableau.specs.Generators.{Tells}

-- ---- sweeping
pub sweep_length : (T : List (List ℤ)) (v : List ℤ) → length (sweep T v).row ≡ length v
unfolding sweep reduced
sweep_length [] v = refl
sweep_length (r ∷ T) v = sweep_length T _ ∙ length_plus _ r v

sweep_append : (T U : List (List ℤ)) (v : List ℤ) → (sweep (T ++ U) v).row ≡ (sweep U (sweep T v).row).row
unfolding sweep
sweep_append [] U v = refl
sweep_append (r ∷ T) U v = sweep_append T U (reduced (lead r) r v).row

sweep_indent : (T : List (List ℤ)) (x : ℤ) (v : List ℤ) → (sweep (indent T) (x ∷ v)).row ≡ x ∷ (sweep T v).row
unfolding sweep lead reduced plus
sweep_indent [] x v = refl
sweep_indent (r ∷ T) x v =
    let q : ℤ = neg_ℤ (floor_quotient (entry (lead r) v) (entry (lead r) r)) in
    ap (λ (y : ℤ). (sweep (indent T) (y ∷ plus q r v)).row) (add_none q x (pos 0) refl) ∙ sweep_indent T x (plus q r v)

sweep_pivot : (p : ℤ) (r : List ℤ) (T : List (List ℤ)) (x : ℤ) (v : List ℤ) → Positive p
    → (sweep ((p ∷ r) ∷ T) (x ∷ v)).row ≡ (sweep T ((x +ℤ neg_ℤ (floor_quotient x p) *ℤ p) ∷ plus (neg_ℤ (floor_quotient x p)) r v)).row
unfolding sweep lead reduced plus
sweep_pivot p r T x v (positive k) = refl

pub sweep_rows : (H : Echelon) (v : List ℤ) → length v ≡ width H → Hermite H → (sweep (rows H) v).row ≡ residue H v
unfolding sweep
sweep_rows done v l h = refl
sweep_rows (skip H) [] l h = absurd (omega arith)
sweep_rows (skip H) (x ∷ v) l h = sweep_indent (rows H) x v ∙ ap (λ (t : List ℤ). x ∷ t) (sweep_rows H v (omega arith) h)
sweep_rows (step p r H) [] l h = absurd (omega arith)
sweep_rows (step p r H) (x ∷ v) l h =
    let q : ℤ = neg_ℤ (floor_quotient x p) in
    sweep_pivot p r (indent (rows H)) x v h.0
    ∙ sweep_indent (rows H) (x +ℤ q *ℤ p) (plus q r v)
    ∙ ap (λ (t : List ℤ). (x +ℤ q *ℤ p) ∷ t) (sweep_rows H (plus q r v) (length_plus q r v ∙ omega arith) h.3)

-- ---- leading and remaining rows
module _ (m : ℕ) where
  -- no row leads before column c, where the leads rise from there on
  pub rising_none : (c : ℕ) (T : List (List ℤ)) → m ≤ c → Rising c T → leading m T ≡ []
  unfolding leading
  rising_none c [] l a = refl
  rising_none c (r ∷ T) l a = rw (le-ltb (lead r) m (omega (arith, a.0))) (rising_none (suc (lead r)) T (omega (arith, a.0)) a.1)

  rising_all : (c : ℕ) (T : List (List ℤ)) → m ≤ c → Rising c T → remaining m T ≡ T
  unfolding remaining
  rising_all c [] l a = refl
  rising_all c (r ∷ T) l a =
      rw (le-ltb (lead r) m (omega (arith, a.0)))
      (ap (λ (X : List (List ℤ)). r ∷ X) (rising_all (suc (lead r)) T (omega (arith, a.0)) a.1))

  pub rising_split : (c : ℕ) (T : List (List ℤ)) → Rising c T → leading m T ++ remaining m T ≡ T
  unfolding leading remaining
  rising_split c [] a = refl
  rising_split c (r ∷ T) a = go (ltb (lead r) m) (rising_split (suc (lead r)) T a.1) (ltb-false (lead r) m)
    where
      go : (b : Bool) → leading m T ++ remaining m T ≡ T → (b ≡ false → m ≤ lead r)
          → cond b (r ∷ leading m T) (leading m T) ++ cond b (remaining m T) (r ∷ remaining m T) ≡ r ∷ T
      go true e f = ap (λ (X : List (List ℤ)). r ∷ X) e
      go false e f =
          let l : m ≤ suc (lead r) = omega (arith, f refl) in
          ap₂ (λ (X Y : List (List ℤ)). X ++ (r ∷ Y)) (rising_none (suc (lead r)) T l a.1) (rising_all (suc (lead r)) T l a.1)

indent_cond : (b : Bool) (X Y : List (List ℤ)) → cond b (indent X) (indent Y) ≡ indent (cond b X Y)
indent_cond true X Y = refl
indent_cond false X Y = refl

remaining_indent : (m : ℕ) (T : List (List ℤ)) → remaining (suc m) (indent T) ≡ indent (remaining m T)
unfolding remaining lead
remaining_indent m [] = refl
remaining_indent m (r ∷ T) =
    rw (leb-suc-suc (suc (lead r)) m, remaining_indent m T) (indent_cond (ltb (lead r) m) (remaining m T) (r ∷ remaining m T))

remaining_pivot : (m : ℕ) (p : ℤ) (r : List ℤ) (T : List (List ℤ)) → Positive p → remaining (suc m) ((p ∷ r) ∷ T) ≡ remaining (suc m) T
unfolding remaining lead
remaining_pivot m p r T (positive k) = rw (lt-ltb 0 (suc m) (omega arith))

abbrev indents : ℕ → List (List ℤ) → List (List ℤ)
indents zero T = T
indents (suc m) T = indent (indents m T)

remaining_past : (m : ℕ) (H : Echelon) → Hermite H → remaining m (rows H) ≡ indents m (rows (past m H))
unfolding remaining
remaining_past zero H h = rising_all 0 0 (rows H) (omega arith) (rows_rising H h)
remaining_past (suc m) done h = sym (indents_none (suc m))
  where
    indents_none : (m : ℕ) → indents m [] ≡ []
    indents_none zero = refl
    indents_none (suc m) = ap indent (indents_none m)
remaining_past (suc m) (skip H) h = remaining_indent m (rows H) ∙ ap indent (remaining_past m H h)
remaining_past (suc m) (step p r H) h =
    remaining_pivot m p r (indent (rows H)) h.0 ∙ remaining_indent m (rows H) ∙ ap indent (remaining_past m H h.3)

-- without the m zeros
indents_drop : (m : ℕ) (T : List (List ℤ)) → map (drop m) (indents m T) ≡ T
indents_drop zero T = map-id T
indents_drop (suc m) T = map-map (drop (suc m)) (λ r. pos 0 ∷ r) (indents m T) ∙ indents_drop m T

pub basis_past : (m : ℕ) (H : Echelon) → Hermite H → basis m (rows H) ≡ rows (past m H)
basis_past m H h = ap (map (drop m)) (remaining_past m H h) ∙ indents_drop m (rows (past m H))

-- the first m numbers stay
indents_take : (m : ℕ) (T : List (List ℤ)) (v : List ℤ) → m ≤ length v → take m (sweep (indents m T) v).row ≡ take m v
indents_take zero T v l = refl
indents_take (suc m) T [] l = absurd (omega arith)
indents_take (suc m) T (x ∷ v) l =
    ap (take (suc m)) (sweep_indent (indents m T) x v) ∙ ap (λ (t : List ℤ). x ∷ t) (indents_take m T v (omega arith))

-- ---- what is found, from the residue w and the basis N
abbrev read : ℕ → List ℤ → List (List ℤ) → Found
read m w N = cond (all_zero (take m w)) (some (drop m w) N) none

found_cond : (b : Bool) (s t : Solved) → (cond b s t).found ≡ cond b s.found t.found
found_cond true s t = refl
found_cond false s t = refl

pub right_found : (m : ℕ) (H : Echelon) (over : Bool) (v : List ℤ) → length v ≡ width H → m ≤ width H → Hermite H
    → (right_side m (rows H) over v).found ≡ read m (residue H v) (rows (past m H))
unfolding right_side
right_found m H over v l k h =
    found_cond (all_zero (take m w)) _ _
    ∙ ap₂ (λ (a : List ℤ) (b : Found). cond (all_zero a) b none) heads
    (ap₂ (λ (x : List ℤ) (N : List (List ℤ)). some (drop m x) N) whole (basis_past m H h))
  where
    w : List ℤ
    w = (sweep (leading m (rows H)) v).row

    x : List ℤ
    x = (sweep (remaining m (rows H)) w).row

    whole : x ≡ residue H v
    whole =
        sym (sweep_append (leading m (rows H)) (remaining m (rows H)) v)
        ∙ ap (λ (T : List (List ℤ)). (sweep T v).row) (rising_split m 0 (rows H) (rows_rising H h))
        ∙ sweep_rows H v l h

    heads : take m w ≡ take m (residue H v)
    heads =
        sym (indents_take m (rows (past m H)) w (omega (arith, sweep_length (leading m (rows H)) v)))
        ∙ ap (λ (T : List (List ℤ)). take m (sweep T w).row) (sym (remaining_past m H h))
        ∙ ap (take m) whole

-- ---- what it tells
pub right_tells : (n m : ℕ) (H : Echelon) (over : Bool) (v : List ℤ) → width H ≡ m + n → Hermite H → length v ≡ m + n
    → Tells n (λ (x : List ℤ). Span (rows H) (minus (zeros m ++ x) v)) (right_side m (rows H) over v).found
right_tells n m H over v e h l =
    subst (Tells n Q) (sym (right_found m H over v lv (omega arith) h)) (go (all_zero (take m w)) refl)
  where
    Q : List ℤ → Type 0
    Q x = Span (rows H) (minus (zeros m ++ x) v)

    w : List ℤ
    w = residue H v

    s : List ℤ
    s = drop m w

    lv : length v ≡ width H
    lv = l ∙ sym e

    lw : length w ≡ m + n
    lw = residue_length H v ∙ l

    lx : (x : List ℤ) → length x ≡ n → length (zeros m ++ x) ≡ width H
    lx x k = length_zeros m x ∙ ap (λ (i : ℕ). m + i) k ∙ sym e

    go : (b : Bool) → all_zero (take m w) ≡ b → Tells n Q (cond b (some s (rows (past m H))) none)
    go true t =
        let w_is : w ≡ zeros m ++ s =
        sym (take-append-drop m w)
        ∙ ap (λ (u : List ℤ). u ++ s) (zeros_Zero m (take m w) (length-take-le m w (omega (arith, lw))) ((all_zero_Zero (take m w)).0 t)) in
        record {
          form = past m H;
          wide = past_width m n H e;
          hermite = past_hermite m H h;
          is = refl;
          long = length-drop m w ∙ omega (arith, lw);
          reduced = past_reduced m H s (subst (Reduced H) w_is (residue_reduced H v h));
          set = λ x k.
              Iff.trans (residue_for H (zeros m ++ x) v (lx x k) lv)
              (subst (λ (u : List ℤ). Span (rows H) u ↔ Span (rows (past m H)) (minus x s)) (sym (ap (minus (zeros m ++ x)) w_is ∙ minus_zeros m x s))
              (past_span m n H (minus x s) e h));
        }
    go false t =
        λ x k q.
        false≢true (sym t ∙ (all_zero_Zero (take m w)).1
        (reduced_head m H x w (lx x k) h (residue_reduced H v h) ((residue_for H (zeros m ++ x) v (lx x k) lv).0 q)))
