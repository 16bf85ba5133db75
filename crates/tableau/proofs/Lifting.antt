-- Laws of a row that is brought to the top.
--   lowered_first, -next   what lies behind the first row, once that has taken the place of row j
--   swapped         so it is once the first row and another have changed their numbers from the column on before which both are 0
--   top_row         what is at the top then
-- Assumes nothing.
use mathlib.Core.Path.{◌≡◌, refl, sym, ◌∙◌, ap, ap₂}
use mathlib.Core.List.{List, [], ◌∷◌, ◌++◌, append_assoc}
use Prim.Native.Nat.{ℕ, zero, suc, ◌+◌, ◌*◌, ◌-◌, ◌<◌, ◌≤◌}
use native.Mathlib.Nat.{zero-mul, zero-add}
use native.Mathlib.Omega.{arith}
use lib.IntN.{ℤ}
use lib.ListN.{length, take, drop, length-drop}
use lib.Seq.{length-take-le, take_at, drop_at, drop-drop, take-add, take-take}
use Rattle.std.proofs.lemmas.List.{drop-append-le}
use Rattle.lattice.specs.Rows.{ZeroTo}
use Rattle.lattice.proofs.FlatLaws.{one_less}
use Rattle.tableau.specs.Tails.{lower_first, brought}

-- ---- the rows behind the first
pub lowered_first : (w : ℕ) (t : List ℤ) → w ≤ length t → drop w (lower_first w 0 t) ≡ drop w t
lowered_first w t l =
    ap₂ (λ (a b : ℕ). drop w (take a t ++ (take w t ++ drop b t))) (zero-mul w) (ap (λ (n : ℕ). n + w) (zero-mul w) ∙ zero-add w)
    ∙ drop_at (take w t) (drop w t) w (length-take-le w t l)

pub lowered_next : (w j : ℕ) (t : List ℤ) → w ≤ length t → 0 < j
    → drop w (lower_first w j t) ≡ take ((j - 1) * w) (drop w t) ++ (take w t ++ drop ((j - 1) * w + w) (drop w t))
lowered_next w j t l p =
    let m : ℕ = (j - 1) * w in
    let e : j * w + w ≡ w + (m + w) = omega (arith, one_less j w p) in
    ap (drop w)
    (ap₂ (λ (x y : List ℤ). x ++ (take w t ++ y))
    (ap (λ (n : ℕ). take n t) (one_less j w p) ∙ take-add w m t)
    (ap (λ (n : ℕ). drop n t) e ∙ sym (drop-drop (m + w) w t))
    ∙ append_assoc (take w t) (take m (drop w t)) (take w t ++ drop (m + w) (drop w t)))
    ∙ drop_at (take w t) _ w (length-take-le w t l)

-- ---- the swap
-- the first c numbers are 0 in both lists
zero_both : (c : ℕ) (a b : List ℤ) → c ≤ length a → c ≤ length b → ZeroTo c a → ZeroTo c b → take c a ≡ take c b
zero_both zero a b l m p q = refl
zero_both (suc c) [] b l m p q = absurd (omega arith)
zero_both (suc c) (x ∷ a) [] l m p q = absurd (omega arith)
zero_both (suc c) (x ∷ a) (y ∷ b) l m p q = ap₂ ◌∷◌ (p.0 ∙ sym q.0) (zero_both c a b (omega arith) (omega arith) p.1 q.1)

-- a, with the part from c up to w taken from b
front_of : (w c : ℕ) (a b : List ℤ) → c ≤ w → take c a ≡ take c b
    → take c a ++ (take (w - c) (drop c b) ++ drop (w - c) (drop c a)) ≡ take w b ++ drop w a
front_of w c a b h e =
    let f : w ≡ c + (w - c) = omega arith in
    sym (append_assoc (take c a) (take (w - c) (drop c b)) (drop (w - c) (drop c a)))
    ∙ ap₂ (λ (u v : List ℤ). u ++ v)
    (ap (λ (l : List ℤ). l ++ take (w - c) (drop c b)) e ∙ sym (ap (λ (n : ℕ). take n b) f ∙ take-add c (w - c) b))
    (drop-drop (w - c) c a ∙ ap (λ (n : ℕ). drop n a) (sym f))

-- the first row and row j, which are 0 before c, have changed their numbers from c on, where u and v lie then
pub swapped : (w c j : ℕ) (t top low u v : List ℤ) → c ≤ w → 0 < j → j * w + w ≤ length t → ZeroTo c (take w t) → ZeroTo c (take w (drop (j * w) t))
    → top ≡ take (j * w) t → low ≡ drop (j * w) t → u ≡ take (w - c) (drop c low) → v ≡ take (w - c) (drop c top)
    → (take c top ++ (u ++ drop (w - c) (drop c top))) ++ (take c low ++ (v ++ drop (w - c) (drop c low))) ≡ brought w j t
swapped w c j t top low u v h p r a b d e f g =
    let m : w ≤ j * w = omega (arith, one_less j w p) in
    let n : length top ≡ j * w = ap length d ∙ length-take-le (j * w) t (omega arith) in
    let k : length low ≡ length t - j * w = ap length e ∙ length-drop (j * w) t in
    let first : take w top ≡ take w t = ap (take w) d ∙ take-take w (j * w) t m in
    let same : take c top ≡ take c low =
    sym (take-take c w top h)
    ∙ zero_both c (take w top) (take w low) (omega (arith, length-take-le w top (omega (arith, n))))
    (omega (arith, length-take-le w low (omega (arith, k))))
    (rw first a) (rw e b)
    ∙ take-take c w low h in
    ap₂ (λ (x y : List ℤ). (take c top ++ (x ++ drop (w - c) (drop c top))) ++ (take c low ++ (y ++ drop (w - c) (drop c low)))) f g
    ∙ ap₂ (λ (x y : List ℤ). x ++ y) (front_of w c top low h same) (front_of w c low top h (sym same))
    ∙ append_assoc (take w low) (drop w top) (take w top ++ drop w low)
    ∙ ap₂ (λ (x y : List ℤ). take w x ++ y) e
    (ap₂ (λ (x y : List ℤ). drop w top ++ (x ++ y)) first (ap (drop w) e ∙ drop-drop w (j * w) t)
    ∙ sym (drop-append-le w top (take w t ++ drop (j * w + w) t) (omega (arith, n)))
    ∙ ap (λ (x : List ℤ). drop w (x ++ (take w t ++ drop (j * w + w) t))) d)

-- ---- once row j is at the top
module _ (w j : ℕ) (t : List ℤ) (room : j * w + w ≤ length t) {u : List ℤ} (e : u ≡ brought w j t) where
  row_wide : length (take w (drop (j * w) t)) ≡ w
  row_wide = length-take-le w (drop (j * w) t) (omega (arith, length-drop (j * w) t))

  pub top_row : take w u ≡ take w (drop (j * w) t)
  top_row = ap (take w) e ∙ take_at (take w (drop (j * w) t)) (drop w (lower_first w j t)) w row_wide
