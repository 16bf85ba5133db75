-- Laws of the choice of a row.
--   no_rows        no rows
--   next_row       one row more, at the code's numbers
--   chosen_size    the size that it holds is that of the choice
--   few            there are no more entries other than 0 than rows
-- Assumes nothing.
use mathlib.Core.Path.{◌≡◌, refl, sym, ◌∙◌, ap, ap₂}
use mathlib.Core.Bool.{Bool, true, false, cond}
use mathlib.Core.List.{List, [], ◌∷◌, ◌++◌}
use Prim.Native.Nat.{ℕ, zero, suc, ◌+◌, ◌*◌, ◌<◌, ◌≤◌}
use native.Mathlib.Omega.{arith}
use borrow.Author.Tests.{ltb-true, ltb-false, leb-true, leb-false, le-ltb, le-leb, lt-leb}
use lib.Dec.{ltb, leb}
use lib.IntN.{ℤ, nat_abs}
use lib.ListN.{length, take, drop}
use Rattle.whole.specs.Lists.{entry}
use Rattle.lattice.specs.Rows.{chop}
use Rattle.lattice.proofs.FlatLaws.{chop_split, chop_next, row_number, length_chop}
use Rattle.tableau.specs.Elimination.{Choice, none, at, shifted, prefer, choose}
use Rattle.std.specs.Prelude.{Option, Some, None}
use Rattle.tableau.specs.Choices.{choice_of, count_of, below, counted, nonzeros, Chooses}
use Rattle.tableau.specs.Tails.{Picked}
use Rattle.tableau.specs.declared.gathering.Choice as code

pub chosen_size : {k w c i : ℕ} {t : List ℤ} {z : code.Choice} (g : Picked k w c t i) → Chooses c (chop k w t) (Some z)
    → z.size ≡ g.size
chosen_size {k} {w} {c} {i} {t} {z} g h =
    let e : at z.row z.size ≡ at i g.size = h.is ∙ ap (choose c) (chop_next k w t g.some) ∙ g.is.choice in cc

-- ---- rows from the first on
above_below : (m k n : ℕ) → prefer (suc m) (at n (suc k)) ≡ below (at 0 (suc m)) (suc n) (suc k)
above_below m k n = go (ltb (suc k) (suc m)) refl
  where
    go : (s : Bool) → ltb (suc k) (suc m) ≡ s
        → cond (leb (suc m) (suc k)) (at 0 (suc m)) (at (suc n) (suc k)) ≡ cond s (at (suc n) (suc k)) (at 0 (suc m))
    go true e = rw (lt-leb (suc m) (suc k) (ltb-true (suc k) (suc m) e))
    go false e = rw (le-leb (suc m) (suc k) (ltb-false (suc k) (suc m) e))

between : (m k j p n : ℕ) → prefer (suc m) (below (at j p) n (suc k)) ≡ below (prefer (suc m) (at j p)) (suc n) (suc k)
between m k j p n = go (ltb (suc k) p) refl (leb (suc m) p) refl
  where
    go : (s : Bool) → ltb (suc k) p ≡ s → (t : Bool) → leb (suc m) p ≡ t
        → prefer (suc m) (cond s (at n (suc k)) (at j p)) ≡ below (cond t (at 0 (suc m)) (at (suc j) p)) (suc n) (suc k)
    go true e true f = above_below m k n
    go true e false f = rw (e, lt-leb (suc m) (suc k) (omega (arith, ltb-true (suc k) p e, leb-false (suc m) p f)))
    go false e true f = rw (f, le-ltb (suc k) (suc m) (omega (arith, ltb-false (suc k) p e, leb-true (suc m) p f)))
    go false e false f = rw (e, f)

-- a row above and one below may be added in either order
both_ends : (m : ℕ) (z : Choice) (n k : ℕ) → prefer m (below z n k) ≡ below (prefer m z) (suc n) k
both_ends m z n zero = refl
both_ends zero none n (suc k) = refl
both_ends zero (at j p) n (suc k) = go (ltb (suc k) p)
  where
    go : (s : Bool) → shifted (cond s (at n (suc k)) (at j p)) ≡ cond s (at (suc n) (suc k)) (at (suc j) p)
    go true = refl
    go false = refl
both_ends (suc m) none n (suc k) = above_below m k n
both_ends (suc m) (at j p) n (suc k) = between m k j p n

last_row : (c : ℕ) (A : List (List ℤ)) (r : List ℤ) → choose c (A ++ (r ∷ [])) ≡ below (choose c A) (length A) (nat_abs (entry c r))
unfolding choose
last_row c [] r = only (nat_abs (entry c r))
  where
    only : (k : ℕ) → prefer k none ≡ below none 0 k
    only zero = refl
    only (suc k) = refl
last_row c (a ∷ A) r =
    ap (prefer (nat_abs (entry c a))) (last_row c A r) ∙ both_ends (nat_abs (entry c a)) (choose c A) (length A) (nat_abs (entry c r))

last_count : (c : ℕ) (A : List (List ℤ)) (r : List ℤ) → nonzeros c (A ++ (r ∷ [])) ≡ nonzeros c A + counted (nat_abs (entry c r))
unfolding nonzeros
last_count c [] r = omega arith
last_count c (a ∷ A) r = omega (arith, last_count c A r)

pub few : (c : ℕ) (B : List (List ℤ)) → nonzeros c B ≤ length B
unfolding nonzeros
few c [] = omega arith
few c (r ∷ B) = omega (arith, few c B, most (nat_abs (entry c r)))
  where
    most : (k : ℕ) → counted k ≤ 1
    most zero = omega arith
    most (suc k) = omega arith

pub no_rows : (c w : ℕ) (t : List ℤ) → Chooses c (chop 0 w t) None
unfolding choose nonzeros
no_rows c w t = record { is = refl; count = refl }

rows_next : (i w : ℕ) (t : List ℤ) → chop (i + 1) w t ≡ chop i w t ++ (take w (drop (i * w) t) ∷ [])
rows_next i w t = chop_split i 1 w t ∙ ap (λ (X : List (List ℤ)). chop i w t ++ X) (chop_next 1 w (drop (i * w) t) (omega arith))

pub next_row : (c w i : ℕ) (t : List ℤ) {z y : Option code.Choice} (k : ℕ) → c < w → Chooses c (chop i w t) z → k ≡ nat_abs (entry (i * w + c) t)
    → (choice_of y ≡ below (choice_of z) i k) × (count_of y ≡ count_of z + counted k) → Chooses c (chop (i + 1) w t) y
next_row c w i t {z} {y} k h a e b =
    let n : nat_abs (entry c (take w (drop (i * w) t))) ≡ k = ap nat_abs (row_number w i c t h) ∙ sym e in
    record {
      is =
          b.0
          ∙ ap₂ (λ (x : Choice) (m : ℕ). below x m k) a.is (sym (length_chop i w t))
          ∙ ap (below (choose c (chop i w t)) (length (chop i w t))) (sym n)
          ∙ sym (ap (choose c) (rows_next i w t) ∙ last_row c (chop i w t) (take w (drop (i * w) t)));
      count =
          b.1
          ∙ ap₂ (λ (x m : ℕ). x + counted m) a.count (sym n)
          ∙ sym (ap (nonzeros c) (rows_next i w t) ∙ last_count c (chop i w t) (take w (drop (i * w) t)));
    }
