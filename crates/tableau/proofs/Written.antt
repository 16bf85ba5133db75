-- Laws of the loops that go along a row, and write each number with what the machine computes.
--   negated_fits, negated_on   the row's numbers negated: the next one fits, and is written
--   Subtracting r p q t bits i   q times the pivot p taken from the first i numbers of the row r: t is the row now, and bits are those of its
--                              first numbers; by `subtracting`, at first, `product_here` and `left_fits`, what the machine computes,
--                              `subtracted_on`, at the next number, and `subtracted`, past the last one
-- Assumes nothing.
use mathlib.Core.Path.{◌≡◌, sym, ◌∙◌, ap, ap₂}
use mathlib.Core.Bool.{Bool, ◌||◌}
use mathlib.Core.List.{List}
use Prim.Native.Nat.{ℕ, ◌+◌, ◌<◌, ◌≤◌}
use native.Mathlib.Omega.{arith}
use lib.Bits.{bit_or}
use lib.Dec.{ltb}
use lib.IntN.{ℤ, pos, nat_abs, neg_ℤ, ◌-ℤ◌, ◌*ℤ◌}
use lib.ListN.{length, set, take}
use lib.Seq.{take_all}
use mir.Syntax.{w64}
use mir.Val.{to_z, of_z}
use Rattle.std.specs.Int.RustNames.{FitsSigned}
use Rattle.std.proofs.lemmas.Int.{to_z-of_z}
use Rattle.whole.specs.Lists.{entry}
use Rattle.whole.proofs.Signed.{abs_neg}
use Rattle.whole.proofs.Writing.{WrittenTo, starts, goes_on, ends, unread}
use Rattle.lattice.specs.Rows.{plus, neg}
use Rattle.lattice.proofs.RowLaws.{length_neg, entry_neg, length_plus, entry_plus}
use Rattle.problem.specs.Limits.{M, any_beyond}
use Rattle.tableau.specs.Within.{Within}
use Rattle.tableau.proofs.Bits.{or_beyond}
use Rattle.tableau.proofs.Machine.{read, turned, turned_fits, product_fits, less_is, less_fits}
use Rattle.tableau.proofs.Within.{within_entry, beyond_none, beyond_next}

abbrev machine : ℤ → ℤ
machine x = to_z w64 (of_z w64 x)

module _ {r t : List ℤ} {i : ℕ} (w : WrittenTo r (neg r) t i) (s : Within r) (h : i < length r) where
  inside : i < length (neg r)
  inside = omega (arith, length_neg r)

  next : machine (entry i t) ≡ entry i r
  next = rw (unread w inside) (read (entry i r) (within_entry r i s))

  pub negated_fits : FitsSigned w64 (pos 0 -ℤ machine (entry i t))
  negated_fits = rw next (turned_fits (entry i r) (within_entry r i s))

  pub negated_on : WrittenTo r (neg r) (set t i (machine (pos 0 -ℤ machine (entry i t)))) (i + 1)
  negated_on =
      goes_on w inside
      (rw (next, turned, read (neg_ℤ (entry i r)) (omega (arith, abs_neg (entry i r), within_entry r i s))) (sym (entry_neg i r)))

-- ---- q times the pivot p taken from the row r
pub record Subtracting (r p : List ℤ) (q : ℤ) (t : List ℤ) (bits i : ℕ) : Type 0 where
  pub written : WrittenTo r (plus (neg_ℤ q) p r) t i
  pub mark : ltb M bits ≡ any_beyond (take i (plus (neg_ℤ q) p r))

pub subtracting : (r p : List ℤ) (q : ℤ) → Subtracting r p q r 0 0
subtracting r p q = record { written = starts (sym (length_plus (neg_ℤ q) p r)); mark = sym (beyond_none (plus (neg_ℤ q) p r)) }

module _ {r p t : List ℤ} {q : ℤ} {bits i : ℕ} (w : Subtracting r p q t bits i) (l : length r ≡ length p) (s : Within r × Within p)
    (small : nat_abs q ≤ M) (h : i < length r) where
  abbrev left : ℤ
  left = machine (machine (entry i t) -ℤ machine (q *ℤ machine (entry i p)))

  wanted : List ℤ
  wanted = plus (neg_ℤ q) p r

  within : i < length (plus (neg_ℤ q) p r)
  within = omega (arith, length_plus (neg_ℤ q) p r)

  number : machine (entry i t) ≡ entry i r
  number = rw (unread w.written within) (read (entry i r) (within_entry r i s.0))

  pivot : machine (entry i p) ≡ entry i p
  pivot = read (entry i p) (within_entry p i s.1)

  pub product_here : FitsSigned w64 (q *ℤ machine (entry i p))
  product_here = rw pivot (product_fits q (entry i p) small (within_entry p i s.1))

  product_is : machine (q *ℤ machine (entry i p)) ≡ q *ℤ entry i p
  product_is = to_z-of_z w64 (q *ℤ machine (entry i p)) product_here ∙ ap (λ (y : ℤ). q *ℤ y) pivot

  pub left_fits : FitsSigned w64 (machine (entry i t) -ℤ machine (q *ℤ machine (entry i p)))
  left_fits = rw (number, product_is) (less_fits (entry i r) q (entry i p) (within_entry r i s.0) small (within_entry p i s.1))

  left_is : left ≡ entry i (plus (neg_ℤ q) p r)
  left_is =
      to_z-of_z w64 (machine (entry i t) -ℤ machine (q *ℤ machine (entry i p))) left_fits
      ∙ ap₂ (λ (x y : ℤ). x -ℤ y) number product_is
      ∙ less_is (entry i r) q (entry i p)
      ∙ sym (entry_plus i (neg_ℤ q) p r (omega (arith, l)))

  again : machine left ≡ left
  again = ap machine (to_z-of_z w64 (machine (entry i t) -ℤ machine (q *ℤ machine (entry i p))) left_fits)

  pub subtracted_on : {n : ℕ} → n ≡ nat_abs (machine left) → Subtracting r p q (set t i left) (bit_or bits n) (i + 1)
  subtracted_on {n} e =
      record {
        written = goes_on w.written within left_is;
        mark = or_beyond bits n ∙ ap₂ (λ (a : Bool) (x : ℕ). a || ltb M x) w.mark (e ∙ ap nat_abs (again ∙ left_is))
            ∙ sym (beyond_next (plus (neg_ℤ q) p r) i within);
      }

pub subtracted : {r p t : List ℤ} {q : ℤ} {bits i : ℕ} → Subtracting r p q t bits i → length r ≤ i
    → (t ≡ plus (neg_ℤ q) p r) × (ltb M bits ≡ any_beyond (plus (neg_ℤ q) p r))
subtracted {r} {p} {t} {q} {bits} {i} w h =
    let e : length (plus (neg_ℤ q) p r) ≤ i = omega (arith, length_plus (neg_ℤ q) p r) in
    (ends w.written e, w.mark ∙ ap any_beyond (take_all i (plus (neg_ℤ q) p r) e))
