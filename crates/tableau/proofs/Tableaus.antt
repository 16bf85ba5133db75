-- Laws of the table of a problem, and of the loop that fills it.
--   column_length, column_number, column_on, unit_set   a column of the matrix, number by number; one number more of it written; a unit list
--   Filled n w A t₀ t j      the first j rows of the table are in t
--   starts, goes_on, ends    it holds at first, and after one more row; past the last row t is the table
--   tableau_within           within ±M, where the matrix is
-- Assumes nothing.
use mathlib.Core.Path.{◌≡◌, refl, sym, ◌∙◌, ap, ap₂}
use mathlib.Core.List.{List, [], ◌∷◌, ◌++◌, append_assoc, append-nil}
use Prim.Native.Nat.{ℕ, zero, suc, ◌+◌, ◌*◌, ◌-◌, ◌<◌, ◌≤◌}
use native.Mathlib.Nat.{zero-mul, suc-mul, mul-le-mul_right}
use native.Mathlib.Numerals.{add-one}
use native.Mathlib.Omega.{arith}
use borrow.Author.Tests.{le-ltb}
use lib.IntN.{ℤ, pos, nat_abs}
use lib.ListN.{length, take, drop, set, length-append, length-drop, length-map, get_or-map}
use lib.Seq.{length-take-le, take_all}
use Rattle.whole.specs.Lists.{entry, zeros}
use Rattle.whole.proofs.Writing.{WrittenTo, goes_on as goes_on_written}
use Rattle.lattice.specs.Rows.{unit, flat, chop}
use Rattle.lattice.specs.Span.{All}
use Rattle.lattice.proofs.FlatLaws.{chop_row, length_chop, row_number, put_take}
use Rattle.problem.specs.Limits.{M, any_beyond}
use Rattle.tableau.specs.Within.{Within}
use Rattle.tableau.specs.Table.{column, tableau_from, tableau}
use Rattle.tableau.proofs.Within.{within_append, within_entry, within_zeros}
use Rattle.tableau.proofs.Staying.{flat_all}

pub column_length : (j m n : ℕ) (a : List ℤ) → length (column j (chop m n a)) ≡ m
column_length j m n a = length-map (chop m n a) (entry j) ∙ length_chop m n a

pub column_number : (i j m n : ℕ) (a : List ℤ) → i < m → j < n → entry i (column j (chop m n a)) ≡ entry (i * n + j) a
column_number i j m n a h l =
    get_or-map (entry j) (chop m n a) i []
    ∙ ap (entry j) (chop_row m n i a [] h)
    ∙ row_number n i j a l

pub column_on : {t₀ t : List ℤ} {i j n : ℕ} {x : ℤ} (a : List ℤ) → WrittenTo t₀ (column j (chop (length t₀) n a)) t i → i < length t₀ → j < n
    → x ≡ entry (i * n + j) a → WrittenTo t₀ (column j (chop (length t₀) n a)) (set t i x) (i + 1)
column_on {t₀} {t} {i} {j} {n} a w h l e =
    goes_on_written w (omega (arith, column_length j (length t₀) n a)) (e ∙ sym (column_number i j (length t₀) n a h l))

pub unit_set : (n j : ℕ) → j < n → set (zeros n) j (pos 1) ≡ unit n j
unit_set zero j h = absurd (omega arith)
unit_set (suc n) zero h = refl
unit_set (suc n) (suc j) h = ap (λ (l : List ℤ). pos 0 ∷ l) (unit_set n j (omega arith))

-- ---- filling
pub record Filled (n w : ℕ) (A : List (List ℤ)) (t₀ t : List ℤ) (j : ℕ) : Type 0 where
  pub same : length t ≡ length t₀
  pub most : j ≤ n
  pub rest : take (j * w) t ++ flat (tableau_from (n - j) j n A) ≡ flat (tableau n A)

pub starts : (n w : ℕ) (A : List (List ℤ)) (t₀ : List ℤ) → Filled n w A t₀ t₀ 0
unfolding tableau
starts n w A t₀ =
    let e : n - 0 ≡ n = omega arith in
    record { same = refl; most = omega arith; rest = rw (e, zero-mul w) refl }

next_row : (k j n : ℕ) (A : List (List ℤ)) → 0 < k → tableau_from k j n A ≡ (column j A ++ unit n j) ∷ tableau_from (k - 1) (j + 1) n A
unfolding tableau_from
next_row zero j n A h = absurd (omega arith)
next_row (suc k) j n A h = let e : suc k - 1 ≡ k = omega arith in rw (e, add-one)

module _ {n w : ℕ} {A : List (List ℤ)} {t₀ t : List ℤ} {j : ℕ} (h : Filled n w A t₀ t j) (l : length t₀ ≡ n * w) (s : j < n) where
  abbrev at : ℕ
  at = j * w

  next : (j + 1) * w ≡ j * w + w
  next = rw (add-one) (omega (arith, suc-mul j w))

  ahead : at + w ≤ length t
  ahead = omega (arith, h.same, l, mul-le-mul_right w s, suc-mul j w)

  pub row_wide : length (take w (drop at t)) ≡ w
  row_wide = length-take-le w (drop at t) (omega (arith, length-drop at t, ahead))

  pub goes_on : (u : List ℤ) → length u ≡ w → u ≡ column j A ++ unit n j → Filled n w A t₀ (take (j * w) t ++ (u ++ drop (j * w + w) t)) (j + 1)
  goes_on u m e =
      let a : at ≤ length t = omega (arith, ahead) in
      let d : n - j - 1 ≡ n - (j + 1) = omega arith in
      record {
        same =
            length-append (take at t) (u ++ drop (at + w) t)
            ∙ ap₂ ◌+◌ (length-take-le at t a) (length-append u (drop (at + w) t) ∙ ap₂ ◌+◌ m (length-drop (at + w) t))
            ∙ omega (arith, ahead, h.same);
        most = omega arith;
        rest =
            rw next
            (ap₂ (λ (x : List ℤ) (k : ℕ). x ++ flat (tableau_from k (j + 1) n A)) (put_take at w t u (drop (at + w) t) a m) (sym d)
            ∙ append_assoc (take at t) u (flat (tableau_from (n - j - 1) (j + 1) n A))
            ∙ ap (λ (x : List ℤ). take at t ++ (x ++ flat (tableau_from (n - j - 1) (j + 1) n A))) e
            ∙ ap (λ (T : List (List ℤ)). take at t ++ flat T) (sym (next_row (n - j) j n A (omega arith)))
            ∙ h.rest);
      }

pub ends : {n w : ℕ} {A : List (List ℤ)} {t₀ t : List ℤ} {j : ℕ} → Filled n w A t₀ t j → length t₀ ≡ n * w → n ≤ j → t ≡ flat (tableau n A)
unfolding tableau_from
ends {n} {w} {A} {t₀} {t} {j} h l s =
    let d : n - j ≡ 0 = omega arith in
    let e : j ≡ n = omega (arith, h.most) in
    let f : j * w ≡ length t = ap (λ (i : ℕ). i * w) e ∙ sym (h.same ∙ l) in
    sym (append-nil t)
    ∙ ap (λ (x : List ℤ). x ++ []) (sym (take_all (j * w) t (omega arith)))
    ∙ ap (λ (k : ℕ). take (j * w) t ++ flat (tableau_from k j n A)) (sym d)
    ∙ h.rest

-- ---- within ±M
column_within : (j : ℕ) (A : List (List ℤ)) → All Within A → Within (column j A)
unfolding any_beyond
column_within j [] a = refl
column_within j (r ∷ A) a = rw (le-ltb M (nat_abs (entry j r)) (within_entry r j a.0)) (column_within j A a.1)

unit_within : (n j : ℕ) → Within (unit n j)
unfolding any_beyond
unit_within zero j = refl
unit_within (suc n) zero = within_zeros n
unit_within (suc n) (suc j) = unit_within n j

from_within : (k j n : ℕ) (A : List (List ℤ)) → All Within A → All Within (tableau_from k j n A)
unfolding tableau_from
from_within zero j n A a = tt
from_within (suc k) j n A a = (within_append (column j A) (unit n j) (column_within j A a) (unit_within n j), from_within k (suc j) n A a)

pub tableau_within : (n : ℕ) (A : List (List ℤ)) → All Within A → Within (flat (tableau n A))
unfolding tableau
tableau_within n A a = flat_all (tableau_from n 0 n A) (from_within n 0 n A a)
