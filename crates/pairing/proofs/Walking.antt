-- Laws of a pair that is free, and of the pairs behind it.
--   column_in_lem      a column of n, counted from 1
--   free_columns       a pair that is free has columns of the two parts
--   pairs_next         it leaves its partner, and those behind it follow
-- Assumes nothing.
use mathlib.Core.Path.{◌≡◌, refl, sym, ◌∙◌, ap}
use mathlib.Core.Bool.{true, not, ◌&&◌}
use mathlib.Core.List.{List, [], ◌∷◌}
use Prim.Native.Nat.{ℕ, ◌-◌, ◌≤◌}
use native.Mathlib.Omega.{arith}
use borrow.Author.Tests.{leb-true}
use lib.Dec.{leb}
use lib.ListN.{length, get_or, set, take, drop}
use lib.Seq.{take_all}
use Rattle.std.specs.Prelude.{Option, Some, None, is_none}
use Rattle.whole.proofs.Tests.{both_true}
use Rattle.pairing.specs.Pairs.{Bounds, uses, is_column, is_free, leaves, pair_check, pair_up}

pub column_in_lem : (n a : ℕ) → is_column n a ≡ true → (1 ≤ a) × (a ≤ n)
column_in_lem n a e = let s : (leb 1 a ≡ true) × (leb a n ≡ true) = both_true (leb 1 a) (leb a n) e in (leb-true 1 a s.0, leb-true a n s.1)

pub free_columns : (n m : ℕ) (R : List (Option ℕ)) (a b : ℕ) → is_free n m R a b ≡ true → (1 ≤ a) × (a ≤ n) × (1 ≤ b) × (b ≤ m)
free_columns n m R a b e =
    let x = both_true (is_column n a) (not (uses R (a - 1)) && (is_column m b && is_none (get_or R (b - 1) None))) e in
    let y = both_true (not (uses R (a - 1))) (is_column m b && is_none (get_or R (b - 1) None)) x.1 in
    let i = column_in_lem n a x.0 in
    let j = column_in_lem m b (both_true (is_column m b) (is_none (get_or R (b - 1) None)) y.1).0 in
    (i.0, i.1, j.0, j.1)

-- of the pairs ps, where the first is free and leaves something
pub pairs_next : (X Y : Bounds) (ps : List ℕ) (R : List (Option ℕ)) → 2 ≤ length ps
    → is_free (length X.lower) (length Y.lower) R (get_or ps 0 0) (get_or ps 1 0) ≡ true
    → leaves X Y (get_or ps 0 0 - 1) (get_or ps 1 0 - 1) ≡ true
    → pair_up X Y (take (length ps - 2) (drop 2 ps)) (set R (get_or ps 1 0 - 1) (Some (get_or ps 0 0 - 1))) ≡ pair_up X Y ps R
unfolding pair_check pair_up
pairs_next X Y [] R l f e = absurd (omega arith)
pairs_next X Y (a ∷ []) R l f e = absurd (omega arith)
pairs_next X Y (a ∷ b ∷ ps) R l f e =
    ap (λ (S : List ℕ). pair_up X Y S (set R (b - 1) (Some (a - 1)))) (take_all (length (a ∷ b ∷ ps) - 2) ps (omega arith)) ∙ sym (rw (f, e) refl)
