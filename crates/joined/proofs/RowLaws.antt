-- Laws of rows that are laid into a list, one after the other.
--   both                   `&mut t[m..]`, when `&mut t[..m]` has come back: both parts end to end are the list
--   row_inside, row_wide   the row i of a list of rows lies in the list, and how long it is
--   row                    the row that is read next, as the borrow checker has it
--   rows_start, rows_on, rows_end   the rows laid so far and those left: none, one row more, all of them
-- Assumes nothing.
use mathlib.Core.Path.{◌≡◌, refl, sym, ◌∙◌, ap, ap₂}
use mathlib.Core.List.{List, ◌∷◌, ◌++◌, map, append_assoc, append-nil}
use Prim.Native.Nat.{ℕ, ◌+◌, ◌*◌, ◌-◌, ◌<◌, ◌≤◌}
use native.Mathlib.Nat.{zero-mul}
use native.Mathlib.Omega.{arith}
use borrow.Rule.Slice.PartMut.{mid_of, put_mid}
use lib.IntN.{ℤ}
use lib.ListN.{length, take, drop, length-append, length-drop}
use lib.Seq.{drop-drop, length-take-le, take_all, take_at}
use Rattle.lattice.specs.Rows.{flat, chop}
use Rattle.lattice.proofs.LentParts.{tail_back, part_is, part_back}
use Rattle.lattice.proofs.FlatLaws.{chop_next, row_in_table, put_take}

-- ---- two parts: the front comes back as x, and the rest as y
pub both : (m : ℕ) (t x y : List ℤ) {u v : List ℤ} → m ≤ length t → length x ≡ length (take m t) → x ≡ u → y ≡ v
    → put_mid m (length (x ++ drop m t) - m) (x ++ drop m t) y ≡ u ++ v
both m t x y h e p q =
    let f : length x ≡ m = e ∙ length-take-le m t h in
    tail_back m (x ++ drop m t) y (omega (arith, length-append x (drop m t), f)) ∙ ap₂ ◌++◌ (take_at x (drop m t) m f ∙ p) q

-- ---- row i of a list of m rows of w numbers
module _ (m w i : ℕ) (l : List ℤ) (e : length l ≡ m * w) (h : i < m) where
  pub row_inside : i * w + w ≤ length l
  row_inside = omega (arith, e, row_in_table m w i h)

  pub row_wide : length (take (i * w + w - i * w) (drop (i * w) l)) ≡ w
  row_wide = ap length (part_is (i * w) w l) ∙ length-take-le w (drop (i * w) l) (omega (arith, length-drop (i * w) l, row_inside))

-- ---- row after row, each laid by f
module _ (f : List ℤ → List ℤ) (m w n : ℕ) (a t : List ℤ) where
  -- t holds the first i rows as they are laid, and the others are left
  abbrev pub rows_with : ℕ → List ℤ → List ℤ
  rows_with i t = take (i * n) t ++ flat (map f (chop (m - i) w (drop (i * w) a)))

  pub rows_start : rows_with 0 t ≡ flat (map f (chop m w a))
  rows_start = let e : m - 0 ≡ m = omega arith in rw (zero-mul n, zero-mul w, e) refl

  pub rows_end : (i : ℕ) → length t ≡ m * n → i ≤ m → m ≤ i → rows_with i t ≡ t
  rows_end i k l h =
      let d : m - i ≡ 0 = omega arith in
      let e : i ≡ m = omega arith in
      let g : length t ≤ i * n = rw e (omega (arith, k)) in rw d (append-nil (take (i * n) t) ∙ take_all (i * n) t g)

  module _ (i : ℕ) (h : i < m) (e : length a ≡ m * w) (l : length t ≡ m * n) where
    abbrev pub row : List ℤ
    row = take (i * w + w - i * w) (drop (i * w) a)

    -- those left
    abbrev left : List (List ℤ)
    left = chop (m - i - 1) w (drop (i * w + w) a)

    apart : chop (m - i) w (drop (i * w) a) ≡ take w (drop (i * w) a) ∷ left
    apart =
        chop_next (m - i) w (drop (i * w) a) (omega arith)
        ∙ ap (λ (l : List ℤ). take w (drop (i * w) a) ∷ chop (m - i - 1) w l) (drop-drop w (i * w) a)

    -- the row comes back as u
    pub rows_on : (u : List ℤ) → length u ≡ length (mid_of (i * n) (i * n + n - i * n) t) → u ≡ f row
        → rows_with (i + 1) (put_mid (i * n) (i * n + n - i * n) t u) ≡ rows_with i t
    rows_on u k v =
        let z : i * n ≤ length t = omega (arith, row_inside m n i t l h) in
        let d : m - (i + 1) ≡ m - i - 1 = omega arith in
        let p : (i + 1) * n ≡ i * n + n = omega arith in
        let q : (i + 1) * w ≡ i * w + w = omega arith in
        rw (part_back (i * n) n t u)
        (rw (d, p, q)
        (ap (λ (l : List ℤ). l ++ flat (map f left)) (put_take (i * n) n t u (drop (i * n + n) t) z (k ∙ row_wide m n i t l h))
        ∙ append_assoc (take (i * n) t) u (flat (map f left))
        ∙ ap (λ (l : List ℤ). take (i * n) t ++ (l ++ flat (map f left))) (v ∙ ap f (part_is (i * w) w a))
        ∙ ap (λ (T : List (List ℤ)). take (i * n) t ++ flat (map f T)) (sym apart)))
