-- Laws of `lead` for a loop that has come to the number at i.
--   lead_on, lead_at_lem, lead_end, lead_past   the number there is 0; it is not; there is none left
-- Assumes nothing.
use mathlib.Core.Path.{◌≡◌, refl, ap}
use mathlib.Core.List.{List, ◌∷◌}
use mathlib.Core.Logic.{⊎_elim}
use Prim.Native.Nat.{ℕ, zero, suc, ◌+◌, ◌<◌, ◌≤◌}
use native.Mathlib.Numerals.{add-one}
use native.Mathlib.Omega.{arith}
use Rattle.std.specs.Prelude.{max}
use Rattle.std.proofs.lemmas.Bool.{cases_lt}
use lib.IntN.{ℤ, pos, negsuc, nat_abs}
use lib.ListN.{length, drop, drop_of_length-le}
use lib.Seq.{drop-cons}
use Rattle.whole.specs.Lists.{entry}
use Rattle.lattice.specs.Rows.{lead}

lead_zero : (x : ℤ) (r : List ℤ) → nat_abs x ≡ 0 → lead (x ∷ r) ≡ suc (lead r)
unfolding lead
lead_zero (pos zero) r e = refl
lead_zero (pos (suc n)) r e = absurd (omega arith)
lead_zero (negsuc n) r e = absurd (omega arith)

lead_other : (x : ℤ) (r : List ℤ) → (nat_abs x ≡ 0 → ⊥) → lead (x ∷ r) ≡ 0
unfolding lead
lead_other (pos zero) r e = absurd (e refl)
lead_other (pos (suc n)) r e = refl
lead_other (negsuc n) r e = refl

module _ (row : List ℤ) (i : ℕ) where
  split : i < length row → drop i row ≡ entry i row ∷ drop (i + 1) row
  split l = rw (add-one) (drop-cons row i (pos 0) l)

  pub lead_on : i < length row → nat_abs (entry i row) ≡ 0 → i + lead (drop i row) ≡ (i + 1) + lead (drop (i + 1) row)
  lead_on l e = omega (arith, ap lead (split l), lead_zero (entry i row) (drop (i + 1) row) e)

  pub lead_at_lem : i < length row → (nat_abs (entry i row) ≡ 0 → ⊥) → i ≡ i + lead (drop i row)
  lead_at_lem l e = omega (arith, ap lead (split l), lead_other (entry i row) (drop (i + 1) row) e)

  pub lead_end : length row ≤ i → i ≡ i + lead (drop i row)
  unfolding lead
  lead_end l = rw (drop_of_length-le row {i = i} l) (omega arith)

-- past the last number, also where the loop began behind it
pub lead_past : (row : List ℤ) (i from : ℕ) → length row ≤ i → (from ≤ length row → i ≤ length row)
    → i + lead (drop i row) ≡ from + lead (drop from row)
    → max from (length row) ≡ from + lead (drop from row)
lead_past row i from l b e =
    let z : i ≡ i + lead (drop i row) = lead_end row i l in
    ⊎_elim (λ (h : from < length row). omega (arith, b (omega arith))) (λ (h : length row ≤ from). omega (arith, lead_end row from h))
    (cases_lt from (length row))
