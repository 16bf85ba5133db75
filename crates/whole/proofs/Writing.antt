-- Laws of a loop that writes a list of numbers from the left.
--   WrittenTo t₀ g t i   the first i numbers of t are those of g, and the others are still those of t₀, which is as long
--   starts, goes_on      it holds at 0 of t₀ itself, and at i + 1 once g's number is stored at i
--   passes               and further on where t₀'s numbers are those of g
--   ends                 past the last number t is g
--   unread               the number at i is still that of t₀
-- Assumes nothing.
use mathlib.Core.Path.{◌≡◌, refl, ◌∙◌, ap, ap₂}
use mathlib.Core.List.{List, [], ◌∷◌, ◌++◌, append-nil}
use Prim.Native.Nat.{ℕ, zero, suc, ◌+◌, ◌<◌, ◌≤◌}
use native.Mathlib.Numerals.{add-one}
use native.Mathlib.Omega.{arith}
use lib.IntN.{ℤ}
use lib.ListN.{length, take, drop, set, length-set, drop_of_length-le}
use lib.Seq.{take_all}
use Rattle.whole.specs.Lists.{entry}

pub record WrittenTo (t₀ g t : List ℤ) (i : ℕ) : Type 0 where
  pub alike : length t₀ ≡ length g
  pub most : i ≤ length g
  pub same : length t ≡ length t₀
  pub is : t ≡ take i g ++ drop i t₀

pub starts : {t₀ g : List ℤ} → length t₀ ≡ length g → WrittenTo t₀ g t₀ 0
starts h = record { alike = h; most = omega arith; same = refl; is = refl }

store : (t₀ g : List ℤ) (i : ℕ) (x : ℤ) → length t₀ ≡ length g → i < length g → x ≡ entry i g
    → set (take i g ++ drop i t₀) i x ≡ take (suc i) g ++ drop (suc i) t₀
store [] [] i x h l e = absurd (omega arith)
store [] (y ∷ g) i x h l e = absurd (omega arith)
store (z ∷ t) [] i x h l e = absurd (omega arith)
store (z ∷ t) (y ∷ g) zero x h l e = ap (λ (v : ℤ). v ∷ t) e
store (z ∷ t) (y ∷ g) (suc i) x h l e = ap (λ (r : List ℤ). y ∷ r) (store t g i x (omega arith) (omega arith) e)

pub goes_on : {t₀ g t : List ℤ} {i : ℕ} {x : ℤ} → WrittenTo t₀ g t i → i < length g → x ≡ entry i g → WrittenTo t₀ g (set t i x) (i + 1)
goes_on {t₀} {g} {t} {i} {x} w l e =
    record {
      alike = w.alike;
      most = omega arith;
      same = length-set t i x ∙ w.same;
      is = ap (λ (r : List ℤ). set r i x) w.is ∙ rw (add-one) (store t₀ g i x w.alike l e);
    }

past : (t₀ g : List ℤ) (i k : ℕ) → length t₀ ≡ length g → i ≤ k → k ≤ length g → ((x : ℕ) → i ≤ x → x < k → entry x t₀ ≡ entry x g)
    → take i g ++ drop i t₀ ≡ take k g ++ drop k t₀
past t₀ g zero zero h a b e = refl
past t₀ g (suc i) zero h a b e = absurd (omega arith)
past [] [] i (suc k) h a b e = absurd (omega arith)
past [] (y ∷ g) i (suc k) h a b e = absurd (omega arith)
past (z ∷ t) [] i (suc k) h a b e = absurd (omega arith)
past (z ∷ t) (y ∷ g) zero (suc k) h a b e =
    ap₂ (λ (v : ℤ) (r : List ℤ). v ∷ r) (e 0 (omega arith) (omega arith))
    (past t g 0 k (omega arith) (omega arith) (omega arith) (λ x l m. e (suc x) (omega arith) (omega arith)))
past (z ∷ t) (y ∷ g) (suc i) (suc k) h a b e =
    ap (λ (r : List ℤ). y ∷ r) (past t g i k (omega arith) (omega arith) (omega arith) (λ x l m. e (suc x) (omega arith) (omega arith)))

pub passes : {t₀ g t : List ℤ} {i : ℕ} (k : ℕ) → WrittenTo t₀ g t i → i ≤ k → k ≤ length g
    → ((x : ℕ) → i ≤ x → x < k → entry x t₀ ≡ entry x g) → WrittenTo t₀ g t k
passes {t₀} {g} {t} {i} k w a b e = record { alike = w.alike; most = b; same = w.same; is = w.is ∙ past t₀ g i k w.alike a b e }

pub ends : {t₀ g t : List ℤ} {i : ℕ} → WrittenTo t₀ g t i → length g ≤ i → t ≡ g
ends {t₀} {g} {t} {i} w l =
    w.is ∙ rw (take_all i g l, drop_of_length-le t₀ {i = i} (omega (arith, w.alike))) (append-nil g)

still : (t₀ g : List ℤ) (i : ℕ) → length t₀ ≡ length g → i < length g → entry i (take i g ++ drop i t₀) ≡ entry i t₀
still [] [] i h l = absurd (omega arith)
still [] (y ∷ g) i h l = absurd (omega arith)
still (z ∷ t) [] i h l = absurd (omega arith)
still (z ∷ t) (y ∷ g) zero h l = refl
still (z ∷ t) (y ∷ g) (suc i) h l = still t g i (omega arith) (omega arith)

pub unread : {t₀ g t : List ℤ} {i : ℕ} → WrittenTo t₀ g t i → i < length g → entry i t ≡ entry i t₀
unread {t₀} {g} {t} {i} w l = ap (entry i) w.is ∙ still t₀ g i w.alike l
