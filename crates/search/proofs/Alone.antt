-- A vector alone, and the column of a place.
--   alone-..             a vector alone: it is listed, it is a move of the basis, its number, what it adds, and the columns that it changes
--   here-..              the column of a place, room for its measure, and what that is
-- Assumes nothing.
use mathlib.Core.Path.{◌≡◌, sym, ◌∙◌, ap, subst}
use mathlib.Core.Bool.{true, not}
use mathlib.Core.List.{List}
use Prim.Native.Nat.{ℕ, ◌+◌, ◌*◌, ◌<◌}
use native.Mathlib.Nat.{one-mul}
use native.Mathlib.Omega.{arith}
use lib.Dec.{eqb}
use lib.IntN.{ℤ, nat_abs, ◌+ℤ◌, ◌*ℤ◌, +ℤ_idr, zero-*ℤ}
use lib.ListN.{get_or}
use Rattle.whole.specs.Lists.{entry}
use Rattle.whole.proofs.Signed.{abs_mul}
use Rattle.settling.specs.Columns.{cell}
use Rattle.settling.specs.Moves.{vector, moves, change, changes}
use Rattle.settling.specs.Sizes.{Crossable}
use Rattle.settling.proofs.Sizes.{measure_room}
use Rattle.settling.specs.Views.{OfBasis}
use Rattle.settling.specs.Verdicts.{Listed}
use Rattle.search.specs.declared.given.Search.{Search}
use Rattle.search.specs.declared.seen.Place.{Place}
use Rattle.search.specs.declared.seen.Sign.{Sign}
use Rattle.search.specs.declared.seen.Sign.TheVariants.{Plus, Minus}
use Rattle.search.specs.Numbers.{span, number_at}
use Rattle.search.specs.Progress.{alone, value}
use Rattle.search.specs.Searches.{columns_of, measure_of}
use Rattle.search.specs.Sets.{touches}
use Rattle.search.proofs.Listings.{listed_single}
use Rattle.search.proofs.Numbering.{value_is, value_one, single_is}
use Rattle.search.proofs.Reached.{search_sized}

-- ---- a vector alone
abbrev pub digit : Sign → ℕ
digit Plus = 0
digit Minus = 1

pub alone_listed : (r s : ℕ) (x : Sign) → s < r → Listed (alone s x) (moves r)
alone_listed r s x h = listed_single r s (value x) h (value_is x)

pub alone_basis : (r s : ℕ) (x : Sign) → s < r → OfBasis r (alone s x)
alone_basis r s x h = record { s = h; t = h; a = omega (arith, value_one x); b = omega arith }

pub alone_number : (k s : ℕ) (x : Sign) → number_at k (alone s x) ≡ k * span + (2 * s + digit x)
alone_number k s Plus = ap (λ (n : ℕ). k * span + n) (single_is s (value Plus))
alone_number k s Minus = ap (λ (n : ℕ). k * span + n) (single_is s (value Minus))

pub alone_change : (N : List (List ℤ)) (s : ℕ) (x : Sign) (j : ℕ) → change N (alone s x) j ≡ value x *ℤ entry j (vector N s)
alone_change N s x j =
    ap (λ (d : ℤ). value x *ℤ entry j (vector N s) +ℤ d) (zero-*ℤ (entry j (vector N s))) ∙ +ℤ_idr (value x *ℤ entry j (vector N s))

pub alone_changes : (N : List (List ℤ)) (s : ℕ) (x : Sign) (j : ℕ) → touches N s j ≡ true → changes N (alone s x) j ≡ true
alone_changes N s x j h = ap (λ (n : ℕ). not (eqb n 0)) size ∙ h
  where
    e : ℤ
    e = entry j (vector N s)

    size : nat_abs (change N (alone s x) j) ≡ nat_abs e
    size = ap nat_abs (alone_change N s x j) ∙ abs_mul (value x) e ∙ ap (λ (n : ℕ). n * nat_abs e) (value_one x) ∙ one-mul (nat_abs e)

-- ---- a column
pub measured_room : (S : Search) (i : ℕ) → i < S.basis.columns → Crossable (measure_of S i)
measured_room S i h = measure_room S.part (cell (columns_of S) S.values.now i) (search_sized S i h)

-- ---- the column of a place
module _ (h : Place) where
  pub here_column : h.column < h.search.now.basis.columns
  here_column = omega (arith, h.here.column, h.search.now.ranked.below h.at h.here.inside)

  pub here_room : Crossable h.q
  here_room = subst Crossable (sym h.here.measure) (measured_room h.search.now h.column here_column)

  -- the measure to come below
  pub here_measure : measure_of h.search.now (get_or h.search.now.order.now h.at 0) ≡ h.q
  here_measure = sym (h.here.measure ∙ ap (measure_of h.search.now) h.here.column)
