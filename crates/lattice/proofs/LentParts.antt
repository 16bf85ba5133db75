-- A part of a list that is lent and comes back, as the borrow checker has it.
--   tail_is, tail_back   `&mut t[a..]`
--   part_is, part_back   `&mut t[a..a + w]`
-- Assumes nothing.
use mathlib.Core.Path.{◌≡◌}
use mathlib.Core.List.{List, ◌++◌, append-nil}
use Prim.Native.Nat.{ℕ, ◌+◌, ◌-◌, ◌≤◌}
use native.Mathlib.Nat.{le_refl}
use native.Mathlib.Omega.{arith}
use borrow.Rule.Slice.PartMut.{mid_of, put_mid, Post-is}
use lib.ListN.{length, take, drop, length-drop, drop_of_length-le}
use lib.Seq.{take_all}

pub tail_is : {X : Type 0} (a : ℕ) (t : List X) → mid_of a (length t - a) t ≡ drop a t
tail_is a t = take_all (length t - a) (drop a t) (omega (arith, length-drop a t))

pub tail_back : {X : Type 0} (a : ℕ) (t u : List X) → a ≤ length t → put_mid a (length t - a) t u ≡ take a t ++ u
tail_back a t u h = rw (Post-is a (length t) t h, drop_of_length-le t (le_refl (length t)), append-nil)

pub part_is : {X : Type 0} (a w : ℕ) (t : List X) → mid_of a (a + w - a) t ≡ take w (drop a t)
part_is a w t = let e : a + w - a ≡ w = omega arith in rw e

pub part_back : {X : Type 0} (a w : ℕ) (t u : List X) → put_mid a (a + w - a) t u ≡ take a t ++ (u ++ drop (a + w) t)
part_back a w t u = rw (Post-is a (a + w) t (omega arith))
