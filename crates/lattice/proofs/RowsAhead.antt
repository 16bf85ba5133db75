-- Laws of a loop that goes through the rows of a table in one list t, from the top.
--   RowsAhead w t at left   from the number `at` on, t has `left` rows of w numbers, and nothing behind them
--   row, rows, apart        the first row ahead, and those behind it
--   ahead, row_wide         it lies in t, and has w numbers
--   behind                  past it there is one row less ahead
-- Assumes nothing.
use mathlib.Core.Path.{◌≡◌, ◌∙◌, ap}
use mathlib.Core.List.{List, ◌∷◌}
use Prim.Native.Nat.{ℕ, ◌+◌, ◌*◌, ◌-◌, ◌<◌, ◌≤◌}
use native.Mathlib.Nat.{mul-le-mul_right}
use native.Mathlib.Omega.{arith}
use lib.IntN.{ℤ}
use lib.ListN.{length, take, drop, length-drop}
use lib.Seq.{length-take-le, drop-drop}
use Rattle.lattice.specs.Rows.{chop}
use Rattle.lattice.proofs.FlatLaws.{one_less, chop_next}

pub record RowsAhead (w : ℕ) (t : List ℤ) (at left : ℕ) : Type 0 where
  pub room : at + left * w ≡ length t

module _ {w : ℕ} {t : List ℤ} {at left : ℕ} (h : RowsAhead w t at left) (some : 0 < left) where
  pub ahead : at + w ≤ length t
  ahead = let l : 1 * w ≤ left * w = mul-le-mul_right w some in omega (arith, h.room)

  abbrev pub row : List ℤ
  row = take w (drop at t)

  pub row_wide : length row ≡ w
  row_wide = length-take-le w (drop at t) (omega (arith, length-drop at t, ahead))

  abbrev pub rows : List (List ℤ)
  rows = chop (left - 1) w (drop (at + w) t)

  pub apart : chop left w (drop at t) ≡ row ∷ rows
  apart = chop_next left w (drop at t) some ∙ ap (λ (l : List ℤ). row ∷ chop (left - 1) w l) (drop-drop w at t)

  pub behind : RowsAhead w t (at + w) (left - 1)
  behind = record { room = omega (arith, h.room, one_less left w some) }
