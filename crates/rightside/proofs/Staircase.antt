-- Laws of a walk down rows whose leads rise.
--   Walks w t at left c    `left` rows of w numbers are still ahead in t, from the number `at` on, and their leads rise from column c on
--   starts                 so it is at first
--   lead_is                the lead of the first row ahead, looked for from c on
--   goes_on                behind it
--   Counts                 the loop that counts the leading rows: those passed, and those ahead
--   count-..               at first, at a leading row, at another one, past the last row
-- Assumes nothing.
use mathlib.Core.Path.{◌≡◌, ◌∙◌, ap, subst}
use mathlib.Core.List.{List, [], ◌∷◌}
use Prim.Native.Nat.{ℕ, suc, ◌+◌, ◌*◌, ◌-◌, ◌<◌, ◌≤◌}
use native.Mathlib.Omega.{arith}
use borrow.Author.Tests.{lt-ltb}
use lib.IntN.{ℤ}
use lib.ListN.{length, drop}
use Rattle.lattice.specs.Rows.{lead, chop}
use Rattle.lattice.proofs.RowLaws.{lead_behind}
use Rattle.lattice.specs.Hermite.{Rising}
use Rattle.lattice.proofs.RowsAhead.{RowsAhead, row, rows, apart, behind}
use Rattle.tableau.specs.RightSide.{leading}
use Rattle.tableau.proofs.RightLaws.{rising_none}

pub record Walks (w : ℕ) (t : List ℤ) (at left c : ℕ) : Type 0 where
  pub room : RowsAhead w t at left
  pub rises : Rising c (chop left w (drop at t))

pub starts : (w k : ℕ) (t : List ℤ) → length t ≡ k * w → Rising 0 (chop k w t) → Walks w t 0 k 0
starts w k t l a = record { room = record { room = omega arith }; rises = a }

module _ {w : ℕ} {t : List ℤ} {at left c : ℕ} (h : Walks w t at left c) (some : 0 < left) where
  abbrev next : List ℤ
  next = row h.room some

  abbrev rest : List (List ℤ)
  rest = rows h.room some

  rising : Rising c (next ∷ rest)
  rising = subst (Rising c) (apart h.room some) h.rises

  pub lead_is : {l : ℕ} → l ≡ c + lead (drop c next) → l ≡ lead next
  lead_is e = e ∙ lead_behind c next rising.0

  pub goes_on : {l : ℕ} → l ≡ lead next → Walks w t (at + w) (left - 1) (l + 1)
  goes_on {l} e =
      let k : suc (lead next) ≡ l + 1 = omega arith in
      record { room = behind h.room some; rises = subst (λ (i : ℕ). Rising i rest) k rising.1 }

  -- the leading ones among the rows ahead: none, where the first one leads at column m or behind
  none_ahead : (m : ℕ) → m ≤ lead next → leading m (chop left w (drop at t)) ≡ []
  none_ahead m l = ap (leading m) (apart h.room some) ∙ rising_none m (lead next) (next ∷ rest) l (omega arith, rising.1)

  one_ahead : (m : ℕ) → lead next < m → leading m (chop left w (drop at t)) ≡ next ∷ leading m rest
  unfolding leading
  one_ahead m l = ap (leading m) (apart h.room some) ∙ rw (lt-ltb (lead next) m l)

-- ---- counting
pub record Counts (m w k : ℕ) (t : List ℤ) (at left c : ℕ) : Type 0 where
  pub walk : Walks w t at left c
  pub most : left ≤ k
  pub rest : k - left + length (leading m (chop left w (drop at t))) ≡ length (leading m (chop k w t))

pub count_starts : (m w k : ℕ) (t : List ℤ) → length t ≡ k * w → Rising 0 (chop k w t) → Counts m w k t 0 k 0
count_starts m w k t l a = record { walk = starts w k t l a; most = omega arith; rest = omega arith }

module _ {m w k : ℕ} {t : List ℤ} {at left c : ℕ} (h : Counts m w k t at left c) where
  pub count_on : {l : ℕ} (some : 0 < left) → l ≡ lead (row h.walk.room some) → l < m → Counts m w k t (at + w) (left - 1) (l + 1)
  count_on some e l = record {
    walk = goes_on h.walk some e;
    most = omega (arith, h.most);
    rest = omega (arith, h.most, h.rest, ap length (one_ahead h.walk some m (omega arith)));
  }

  pub count_stops : {l : ℕ} (some : 0 < left) → l ≡ lead (row h.walk.room some) → m ≤ l → k - left ≡ length (leading m (chop k w t))
  count_stops some e l = omega (arith, h.rest, ap length (none_ahead h.walk some m (omega arith)))

  pub count_ends : left ≡ 0 → k ≡ length (leading m (chop k w t))
  unfolding leading
  count_ends e =
      let n : length (leading m (chop left w (drop at t))) ≡ 0 = ap (λ (i : ℕ). length (leading m (chop i w (drop at t)))) e in
      omega (arith, h.rest)
