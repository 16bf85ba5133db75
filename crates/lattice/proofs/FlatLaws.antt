-- Laws of tables in one list, row after row.
--   flat_append, flat_chop, chop_flat    rows put end to end; a list cut into rows is that list; rows put end to end and cut are those rows
--   first_wide, chop_rows, length_chop   the rows have the width; there are as many as asked for
--   chop_split, chop_take                the first a rows, and b more; rows in the front of a list
--   one-less, chop_next                  the first row, and those behind it
--   length_flat, front_rows, front_rest rows in one list: how long it is; the rows in front of a list, and that list
--   chop_row, chop_set                   row j of a table; row j replaced
--   row_number                           a number of row j, in the list
--   in_table, row_in_table               where a number and a row of a table lie
--   put_take, put_drop                   a part u put into a list at `at`: what stands up to its end, and behind it
-- Assumes nothing.
use mathlib.Core.Path.{◌≡◌, refl, sym, ◌∙◌, ap, ap₂}
use mathlib.Core.List.{List, [], ◌∷◌, ◌++◌, append_assoc}
use Prim.Native.Nat.{ℕ, zero, suc, ◌+◌, ◌*◌, ◌-◌, ◌<◌, ◌≤◌}
use native.Mathlib.Nat.{zero-mul, zero-add, suc-mul, mul-le-mul_right}
use native.Mathlib.Omega.{arith}
use lib.IntN.{ℤ, pos}
use lib.ListN.{length, get_or, set, take, drop, length-append, length-drop, take-append-drop}
use lib.Seq.{length-take-le, take_at, drop_at, drop-drop, take-take, take-add, take-nil, get_or-take, get_or-drop}
use Rattle.whole.specs.Lists.{entry}
use Rattle.lattice.specs.Rows.{flat, chop}
use Rattle.lattice.specs.Span.{All, Len}

pub flat_append : (A B : List (List ℤ)) → flat (A ++ B) ≡ flat A ++ flat B
flat_append [] B = refl
flat_append (r ∷ A) B = ap (λ (l : List ℤ). r ++ l) (flat_append A B) ∙ sym (append_assoc r (flat A) (flat B))

-- the rows behind the first one
rest : (k w : ℕ) (t : List ℤ) → length t ≡ suc k * w → length (drop w t) ≡ k * w
rest k w t h = omega (arith, length-drop w t, suc-mul k w)

pub first_wide : (k w : ℕ) (t : List ℤ) → length t ≡ suc k * w → length (take w t) ≡ w
first_wide k w t h = length-take-le w t (omega (arith, suc-mul k w))

none : (t : List ℤ) → length t ≡ 0 → t ≡ []
none [] h = refl
none (x ∷ t) h = absurd (omega arith)

pub flat_chop : (k w : ℕ) (t : List ℤ) → length t ≡ k * w → flat (chop k w t) ≡ t
flat_chop zero w t h = sym (none t (h ∙ zero-mul w))
flat_chop (suc k) w t h = ap (λ (l : List ℤ). take w t ++ l) (flat_chop k w (drop w t) (rest k w t h)) ∙ take-append-drop w t

pub chop_flat : (w : ℕ) (T : List (List ℤ)) → All (Len w) T → chop (length T) w (flat T) ≡ T
chop_flat w [] a = refl
chop_flat w (r ∷ T) a =
    ap₂ ◌∷◌ (take_at r (flat T) w a.0) (ap (chop (length T) w) (drop_at r (flat T) w a.0) ∙ chop_flat w T a.1)

pub chop_rows : (k w : ℕ) (t : List ℤ) → length t ≡ k * w → All (Len w) (chop k w t)
chop_rows zero w t h = tt
chop_rows (suc k) w t h = (first_wide k w t h, chop_rows k w (drop w t) (rest k w t h))

pub length_chop : (k w : ℕ) (t : List ℤ) → length (chop k w t) ≡ k
length_chop zero w t = refl
length_chop (suc k) w t = ap suc (length_chop k w (drop w t))

pub chop_split : (a b w : ℕ) (t : List ℤ) → chop (a + b) w t ≡ chop a w t ++ chop b w (drop (a * w) t)
chop_split zero b w t =
    ap₂ (λ (n m : ℕ). chop n w (drop m t)) {x = 0 + b} {y = b} (omega arith) (sym (zero-mul w))
chop_split (suc a) b w t =
    let e : suc a + b ≡ suc (a + b) = omega arith in
    ap (λ (n : ℕ). chop n w t) e
    ∙ ap (λ (T : List (List ℤ)). take w t ∷ T)
    (chop_split a b w (drop w t)
    ∙ ap (λ (l : List ℤ). chop a w (drop w t) ++ chop b w l)
    (drop-drop (a * w) w t ∙ ap (λ (n : ℕ). drop n t) (sym (suc-mul a w ∙ back a w))))
  where
    back : (a w : ℕ) → a * w + w ≡ w + a * w
    back a w = omega arith

drop_take : (a n : ℕ) (t : List ℤ) → drop a (take n t) ≡ take (n - a) (drop a t)
drop_take zero n t = ap (λ (m : ℕ). take m t) {x = n} {y = n - 0} (omega arith)
drop_take (suc a) zero [] = ap (λ (m : ℕ). take m []) {x = 0} {y = 0 - suc a} (omega arith)
drop_take (suc a) (suc n) [] = sym (take-nil (suc n - suc a))
drop_take (suc a) zero (x ∷ t) = ap (λ (m : ℕ). take m (drop a t)) {x = 0} {y = 0 - suc a} (omega arith)
drop_take (suc a) (suc n) (x ∷ t) = drop_take a n t ∙ ap (λ (m : ℕ). take m (drop a t)) {x = n - a} {y = suc n - suc a} (omega arith)

pub chop_take : (k w n : ℕ) (t : List ℤ) → k * w ≤ n → chop k w (take n t) ≡ chop k w t
chop_take zero w n t h = refl
chop_take (suc k) w n t h =
    let e : w + k * w ≤ n = omega (arith, suc-mul k w) in
    ap₂ ◌∷◌ (take-take w n t (omega arith)) (ap (chop k w) (drop_take w n t) ∙ chop_take k w (n - w) (drop w t) (omega arith))

pub length_flat : (w : ℕ) (T : List (List ℤ)) → All (Len w) T → length (flat T) ≡ length T * w
length_flat w [] a = sym (zero-mul w)
length_flat w (r ∷ T) a = omega (arith, length-append r (flat T), length_flat w T a.1, a.0, suc-mul (length T) w)

-- rows in front of a list
module _ (k w : ℕ) (T : List (List ℤ)) (l : List ℤ) (a : All (Len w) T) (e : length T ≡ k) where
  rows_end : length (flat T) ≡ k * w
  rows_end = length_flat w T a ∙ ap (λ (n : ℕ). n * w) e

  pub front_rows : chop k w (flat T ++ l) ≡ T
  front_rows =
      sym (chop_take k w (k * w) (flat T ++ l) (omega arith))
      ∙ ap (chop k w) (take_at (flat T) l (k * w) rows_end)
      ∙ ap (λ (n : ℕ). chop n w (flat T)) (sym e)
      ∙ chop_flat w T a

  pub front_rest : drop (k * w) (flat T ++ l) ≡ l
  front_rest = drop_at (flat T) l (k * w) rows_end

-- ---- the first of k rows, at the code's k − 1
pub one_less : (k w : ℕ) → 0 < k → k * w ≡ w + (k - 1) * w
one_less zero w p = absurd (omega arith)
one_less (suc k) w p = let e : suc k - 1 ≡ k = omega arith in rw e (omega (arith, suc-mul k w))

pub chop_next : (k w : ℕ) (t : List ℤ) → 0 < k → chop k w t ≡ take w t ∷ chop (k - 1) w (drop w t)
chop_next zero w t h = absurd (omega arith)
chop_next (suc k) w t h = ap (λ (m : ℕ). take w t ∷ chop m w (drop w t)) {x = k} {y = suc k - 1} (omega arith)

-- ---- row j
more : (j w : ℕ) → suc j * w ≡ w + j * w
more j w = omega (arith, suc-mul j w)

pub chop_row : (k w j : ℕ) (t d : List ℤ) → j < k → get_or (chop k w t) j d ≡ take w (drop (j * w) t)
chop_row zero w j t d h = absurd (omega arith)
chop_row (suc k) w zero t d h = ap (λ (m : ℕ). take w (drop m t)) (sym (zero-mul w))
chop_row (suc k) w (suc j) t d h =
    chop_row k w j (drop w t) d (omega arith) ∙ ap (take w) (drop-drop (j * w) w t ∙ ap (λ (m : ℕ). drop m t) (sym (more j w)))

pub chop_set : (k w j : ℕ) (t r : List ℤ) → length t ≡ k * w → j < k → length r ≡ w
    → chop k w (take (j * w) t ++ (r ++ drop (j * w + w) t)) ≡ set (chop k w t) j r
chop_set zero w j t r l h e = absurd (omega arith)
chop_set (suc k) w zero t r l h e =
    ap₂ (λ (a b : ℕ). chop (suc k) w (take a t ++ (r ++ drop b t))) (zero-mul w) (ap (λ (m : ℕ). m + w) (zero-mul w) ∙ zero-add w)
    ∙ ap₂ ◌∷◌ (take_at r (drop w t) w e) (ap (chop k w) (drop_at r (drop w t) w e))
chop_set (suc k) w (suc j) t r l h e =
    let n : length (take w t) ≡ w = first_wide k w t l in
    let f : List ℤ = take (j * w) (drop w t) ++ (r ++ drop (j * w + w) (drop w t)) in
    let same : take (suc j * w) t ++ (r ++ drop (suc j * w + w) t) ≡ take w t ++ f =
    ap₂ (λ (x y : List ℤ). x ++ (r ++ y))
    (ap (λ (m : ℕ). take m t) (more j w) ∙ take-add w (j * w) t)
    (ap (λ (m : ℕ). drop m t) (behind j w) ∙ sym (drop-drop (j * w + w) w t))
    ∙ append_assoc (take w t) (take (j * w) (drop w t)) (r ++ drop (j * w + w) (drop w t)) in
    ap (chop (suc k) w) same
    ∙ ap₂ ◌∷◌ (take_at (take w t) f w n)
    (ap (chop k w) (drop_at (take w t) f w n) ∙ chop_set k w j (drop w t) r (rest k w t l) (omega arith) e)
  where
    behind : (j w : ℕ) → suc j * w + w ≡ w + (j * w + w)
    behind j w = omega (arith, suc-mul j w)

pub row_number : (w j c : ℕ) (t : List ℤ) → c < w → entry c (take w (drop (j * w) t)) ≡ entry (j * w + c) t
row_number w j c t h = get_or-take w (drop (j * w) t) c (pos 0) h ∙ get_or-drop (j * w) t c (pos 0)

-- a place of a table of k rows, and the end of a row
pub in_table : (k w c j : ℕ) → c < w → j < k → j * w + c < k * w
in_table k w c j h l = omega (arith, mul-le-mul_right w l, suc-mul j w)

pub row_in_table : (k w j : ℕ) → j < k → j * w + w ≤ k * w
row_in_table k w j l = omega (arith, mul-le-mul_right w l, suc-mul j w)

-- ---- a number of two lists end to end, replaced in the second
-- ---- a part put in place
module _ (at w : ℕ) (t u v : List ℤ) (h : at ≤ length t) (e : length u ≡ w) where
  front_length : length (take at t ++ u) ≡ at + w
  front_length = length-append (take at t) u ∙ ap₂ ◌+◌ (length-take-le at t h) e

  pub put_take : take (at + w) (take at t ++ (u ++ v)) ≡ take at t ++ u
  put_take = rw (← append_assoc) (take_at (take at t ++ u) v (at + w) front_length)

  pub put_drop : drop (at + w) (take at t ++ (u ++ v)) ≡ v
  put_drop = rw (← append_assoc) (drop_at (take at t ++ u) v (at + w) front_length)
