-- Laws of the rounds of a table's columns.
--   rounds_on, -skip     those of several columns: the first one's and the others', or the others' alone where it has no choice
--   rounds_past, -done   there are none where no column is left, or no row
--   rounds_all           all columns of a lent table
--   passed_rounds_lem    those of a column with a choice are gathering's
--   passed_few           of numbers within ±M a column has at most 31
-- Assumes nothing.
use mathlib.Core.Path.{◌≡◌, refl, sym, ◌∙◌, ap}
use mathlib.Core.List.{List, [], ◌∷◌}
use Prim.Native.Nat.{ℕ, zero, suc, ◌+◌, ◌*◌, ◌-◌, ◌<◌, ◌≤◌}
use native.Mathlib.Nat.{zero-mul}
use native.Mathlib.Numerals.{add-one}
use native.Mathlib.Omega.{arith}
use lib.IntN.{ℤ}
use lib.ListN.{take, drop}
use Rattle.lattice.specs.Rows.{chop}
use Rattle.lattice.proofs.FlatLaws.{chop_next, chop_rows, flat_chop}
use Rattle.tableau.specs.Elimination.{Choice, none, choose, pass_column_by, pass_column}
use Rattle.tableau.specs.RoundCount.{column_rounds, rounds_from, rounds}
use Rattle.tableau.specs.Tails.{Tail, Picked, gathering_rounds_of}
use Rattle.tableau.specs.ColumnPass.{Standing, above_of, below_of, passed_rounds}
use Rattle.tableau.proofs.RoundLaws.{gathering_rounds_first, column_bits}
use Rattle.tableau.proofs.Passing.{tail_of, none_below}
use Rattle.tableau.proofs.Staying.{all_flat}

-- those of d columns, by the choice in the first
abbrev from : ℕ → ℕ → List (List ℤ) → List (List ℤ) → Choice → ℕ
from d c A B z = column_rounds c B z + rounds_from (d - 1) (c + 1) (pass_column c A B z).above (pass_column c A B z).below

pub rounds_on : (d c : ℕ) (A B : List (List ℤ)) → 0 < d → rounds_from d c A B ≡ from d c A B (choose c B)
unfolding rounds_from
rounds_on zero c A B h = absurd (omega arith)
rounds_on (suc d) c A B h = let e : suc d - 1 ≡ d = omega arith in rw (e, add-one)

pub rounds_skip : (d c : ℕ) (A B : List (List ℤ)) → 0 < d → choose c B ≡ none → rounds_from d c A B ≡ rounds_from (d - 1) (c + 1) A B
unfolding pass_column_by column_rounds
rounds_skip d c A B h e = rounds_on d c A B h ∙ ap (from d c A B) e ∙ omega arith

pub rounds_past : (d c : ℕ) (A B : List (List ℤ)) → d ≡ 0 → rounds_from d c A B ≡ 0
unfolding rounds_from
rounds_past d c A B e = rw e

none_left : (d c : ℕ) (A : List (List ℤ)) → rounds_from d c A [] ≡ 0
unfolding rounds_from pass_column_by column_rounds choose
none_left zero c A = refl
none_left (suc d) c A = omega (arith, none_left d (suc c) A)

pub rounds_done : {n k : ℕ} (d c w : ℕ) (A : List (List ℤ)) (t : List ℤ) → k ≡ n → rounds_from d c A (below_of n w k t) ≡ 0
rounds_done d c w A t e = rw (none_below w t e) (none_left d c A)

pub rounds_all : (n w : ℕ) (t : List ℤ) → rounds_from (w - 0) 0 (above_of w 0 t) (below_of n w 0 t) ≡ rounds w (chop n w t)
unfolding rounds
rounds_all n w t =
    let a : w - 0 ≡ w = omega arith in
    let b : n - 0 ≡ n = omega arith in
    rw (a, b, zero-mul)

module _ {n w c k : ℕ} {t : List ℤ} (h : Standing n w c k t) (l : c < w) where
  pub passed_rounds_lem : {j : ℕ} → Picked (n - k) w c (drop (k * w) t) j → passed_rounds n w c k t ≡ gathering_rounds_of (n - k) w c (drop (k * w) t)
  unfolding column_rounds
  passed_rounds_lem g =
      let b : List ℤ = take w (drop (k * w) t) in
      let B : List (List ℤ) = chop (n - k - 1) w (drop w (drop (k * w) t)) in
      ap (λ (T : List (List ℤ)). column_rounds c T (choose c T)) (chop_next (n - k) w (drop (k * w) t) g.some)
      ∙ ap (column_rounds c (b ∷ B)) g.is.choice
      ∙ sym (gathering_rounds_first g.is)

  pub passed_few : passed_rounds n w c k t ≤ 31
  passed_few =
      let u : List ℤ = drop (k * w) t in
      let v : Tail (n - k) w c u = tail_of h l in
      column_bits (below_of n w k t) l (chop_rows (n - k) w u v.wide) (all_flat (below_of n w k t) (rw (flat_chop (n - k) w u v.wide) v.small))
