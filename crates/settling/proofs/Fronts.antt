-- The first w items of a buffer t, lent and put back; and a case on two numbers.
--   part_length          how many there are
--   part_back, -fits     they come back as u, and are read again
--   lt_or_ge             x lies below k, or does not
-- Assumes nothing.
use mathlib.Core.Path.{◌≡◌, refl, sym, ◌∙◌}
use mathlib.Core.Logic.{◌⊎◌, inl, inr}
use mathlib.Core.Bool.{Bool, true, false}
use mathlib.Core.List.{List, ◌++◌}
use Prim.Native.Nat.{ℕ, ◌<◌, ◌≤◌}
use native.Mathlib.Omega.{arith}
use borrow.Author.Tests.{ltb-true, ltb-false}
use lib.Dec.{ltb}
use lib.ListN.{length, take, drop, length-take, length-append}
use lib.Seq.{take_at}

pub part_length : {X : Type 0} (w : ℕ) (t : List X) → w ≤ length t → w ≡ length (take w t)
part_length w t h = sym (length-take w t ∙ omega arith)

pub part_back : {X : Type 0} (w : ℕ) (u t : List X) → length u ≡ w → take w (u ++ drop w t) ≡ u
part_back w u t h = take_at u (drop w t) w h

pub part_fits : {X : Type 0} (w : ℕ) (u t : List X) → length u ≡ w → w ≤ length (u ++ drop w t)
part_fits w u t h = omega (arith, length-append u (drop w t))

pub lt_or_ge : (x k : ℕ) → (x < k) ⊎ (k ≤ x)
lt_or_ge x k = go (ltb x k) refl
  where
    go : (t : Bool) → ltb x k ≡ t → (x < k) ⊎ (k ≤ x)
    go true e = inl (ltb-true x k e)
    go false e = inr (ltb-false x k e)
