-- Document 02, (vi): "a list of pairs (column of the first, column of the second)", looked at in its order.
--   larger, smaller        of two numbers
--   leave lo hi lo' hi'    of two pairs of bounds: "bounds of a pair that leave nothing" does not hold
--   Bounds, bounds, bounds_of   a part's lower and upper bounds, made of two lists, and of a part; it has as many columns as lower bounds
--   leaves X Y i j         so for column i of the first and j of the second, counted from 0
--   partners               of each column of the second part: its partner in the first, counted from 0, or None for an unshared one
--   unpaired n             before the first pair: none is shared
--   uses R i               the column i of the first, counted from 0, is used by some pair before
--   is_column n a          a, counted from 1, is one of n columns
--   is_free n k R a b      the pair's columns lie within their parts, of n and k columns, and neither is used before
--   pair_check X Y R a b   what is found of one pair: 14, then 15
--   Matched                what is found of pairs, and the partners that then stand; `matched` makes one
--   on_pair c R z          what is found of a pair with the partners R before it: where it passes, z, and else the refusal, with R left
--   pair_up X Y ps R       the pairs ps after those that left the partners R
-- Columns of pairs are counted from 1, as in texts and listings, so 0 lies outside. A last number without a second one is left alone: an odd
-- length is refused before.
-- Assumes nothing.
use Rattle.std.specs.Prelude.{Bool, not, ◌&&◌, List, [], ◌∷◌, ℕ, ◌-◌, leb, ℤ, length, get_or, set, replicate, nat_eq}
use Rattle.std.specs.Prelude.{Option, Some, None, is_none, Ok, Err}
use Rattle.std.specs.Int.{int_max, int_min}
use Rattle.std.specs.Int.Signed.{le_z}
use Rattle.std.specs.List.{list_any}
use Rattle.std.specs.Option.{option_eq}
use Rattle.whole.specs.Lists.{entry}
use Rattle.problem.specs.Checks.{or_next, Check}
use Rattle.problem.specs.declared.Refusal.TheVariants.{Pair, PairBounds}
use Rattle.pairing.specs.Parts.{Part}

abbrev pub larger : ℤ → ℤ → ℤ
larger a b = int_max a b

abbrev pub smaller : ℤ → ℤ → ℤ
smaller a b = int_min a b

-- the larger lower bound is at most the smaller upper bound
abbrev pub leave : ℤ → ℤ → ℤ → ℤ → Bool
leave lo hi lo' hi' = le_z (larger lo lo') (smaller hi hi')

pub record Bounds : Type 0 where
  pub lower : List ℤ
  pub upper : List ℤ

abbrev pub bounds : List ℤ → List ℤ → Bounds
bounds lower upper = record { lower = lower; upper = upper }

abbrev pub bounds_of : Part → Bounds
bounds_of P = bounds P.lists.lower P.lists.upper

abbrev pub leaves : Bounds → Bounds → ℕ → ℕ → Bool
leaves X Y i j = leave (entry i X.lower) (entry i X.upper) (entry j Y.lower) (entry j Y.upper)

abbrev pub unpaired : ℕ → List (Option ℕ)
unpaired n = replicate n None

abbrev pub uses : List (Option ℕ) → ℕ → Bool
uses R i = list_any (λ p. option_eq nat_eq p (Some i)) R

abbrev pub is_column : ℕ → ℕ → Bool
is_column n a = leb 1 a && leb a n

abbrev pub is_free : ℕ → ℕ → List (Option ℕ) → ℕ → ℕ → Bool
is_free n k R a b = is_column n a && (not (uses R (a - 1)) && (is_column k b && is_none (get_or R (b - 1) None)))

-- "14, a pair with a column outside or used before; 15, bounds of a pair that leave nothing"; "14 first within a pair"
unfoldable pub pair_check : Bounds → Bounds → List (Option ℕ) → ℕ → ℕ → Check
pair_check X Y R a b =
    or_next (is_free (length X.lower) (length Y.lower) R a b) Pair
    (or_next (leaves X Y (a - 1) (b - 1)) PairBounds (Ok tt))

pub record Matched : Type 0 where
  pub found : Check
  pub partners : List (Option ℕ)

abbrev pub matched : Check → List (Option ℕ) → Matched
matched c R = record { found = c; partners = R }

abbrev pub on_pair : Check → List (Option ℕ) → Matched → Matched
on_pair (Ok u) R z = z
on_pair (Err why) R z = matched (Err why) R

-- "in pair order": the first pair that is refused decides
unfoldable pub pair_up : Bounds → Bounds → List ℕ → List (Option ℕ) → Matched
pair_up X Y [] R = matched (Ok tt) R
pair_up X Y (a ∷ []) R = matched (Ok tt) R
pair_up X Y (a ∷ b ∷ ps) R = on_pair (pair_check X Y R a b) R (pair_up X Y ps (set R (b - 1) (Some (a - 1))))
