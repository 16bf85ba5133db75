-- Laws of rows: of plus, minus and neg, of zeros, and of entries.
--   length-..               the lengths
--   plus_none .. -append    v + c r: no multiple; multiples of one row add up; those of two rows may change places; a multiple of a sum; of a
--                           negated row; of zeros; once a row and zeros; of rows end to end. Lengths are asked for only where a sum is
--                           itself taken times a number
--   minus-..                u − v by way of w; turned round; of two sums; of a sum and one of its parts; behind m zeros
--   Zero-.., ZeroTo-..      what zeros are, and what keeps them
--   entry-..                the number at a place of a sum, a negated row, a unit list
--   all_zero_Zero           what the test for zeros says
--   lead_behind             a lead at column c or behind, looked for from there on
-- Assumes nothing.
use mathlib.Core.Path.{◌≡◌, refl, sym, ◌∙◌, ap, ap₂, subst}
use mathlib.Core.Logic.{◌↔◌}
use mathlib.Core.Bool.{Bool, true, ◌&&◌}
use mathlib.Core.List.{List, [], ◌∷◌, ◌++◌}
use Prim.Native.Nat.{ℕ, zero, suc, ◌+◌, ◌<◌, ◌≤◌}
use native.Mathlib.Omega.{arith}
use lib.ListN.{length, take, drop, length-append, length-replicate}
use lib.Seq.{take_all}
use lib.IntN.{ℤ, pos, negsuc, neg_ℤ, ◌+ℤ◌, ◌*ℤ◌, +ℤ_invr}
use Rattle.whole.specs.Lists.{entry, zeros}
use Rattle.whole.specs.Tests.{is_zero}
use Rattle.whole.proofs.Tests.{both_true}
use Rattle.whole.proofs.Integers.{rep, diff_rel, add_none, is_zero_true}
use Rattle.lattice.specs.Rows.{plus, minus, neg, unit, Zero, ZeroTo, all_zero, lead}

-- ---- lengths
pub length_plus : (c : ℤ) (r v : List ℤ) → length (plus c r v) ≡ length v
unfolding plus
length_plus c [] v = refl
length_plus c (y ∷ r) [] = refl
length_plus c (y ∷ r) (x ∷ v) = ap suc (length_plus c r v)

pub length_neg : (r : List ℤ) → length (neg r) ≡ length r
unfolding neg
length_neg [] = refl
length_neg (x ∷ r) = ap suc (length_neg r)

pub length_unit : (n j : ℕ) → length (unit n j) ≡ n
length_unit zero j = refl
length_unit (suc n) zero = ap suc (length-replicate n (pos 0))
length_unit (suc n) (suc j) = ap suc (length_unit n j)

pub length_zeros : (m : ℕ) (v : List ℤ) → length (zeros m ++ v) ≡ m + length v
length_zeros m v = length-append (zeros m) v ∙ ap (λ (k : ℕ). k + length v) (length-replicate m (pos 0))

-- ---- multiples of a row
pub plus_none : (r v : List ℤ) → plus (pos 0) r v ≡ v
unfolding plus
plus_none [] v = refl
plus_none (y ∷ r) [] = refl
plus_none (y ∷ r) (x ∷ v) = ap₂ ◌∷◌ (rw (rep x, rep y) (simp diff_rel (omega arith))) (plus_none r v)

pub plus_plus : (c d : ℤ) (r v : List ℤ) → plus c r (plus d r v) ≡ plus (d +ℤ c) r v
unfolding plus
plus_plus c d [] v = refl
plus_plus c d (y ∷ r) [] = refl
plus_plus c d (y ∷ r) (x ∷ v) = ap₂ ◌∷◌ (rw (rep c, rep d, rep x, rep y) (simp diff_rel (omega arith))) (plus_plus c d r v)

pub plus_cancel : (c : ℤ) (r u v : List ℤ) → plus c r u ≡ plus c r v → u ≡ v
plus_cancel c r u v e = sym (undo u) ∙ ap (plus (neg_ℤ c) r) e ∙ undo v
  where
    undo : (v : List ℤ) → plus (neg_ℤ c) r (plus c r v) ≡ v
    undo v = plus_plus (neg_ℤ c) c r v ∙ ap (λ (k : ℤ). plus k r v) (+ℤ_invr c) ∙ plus_none r v

pub plus_comm : (c d : ℤ) (r s v : List ℤ) → plus c r (plus d s v) ≡ plus d s (plus c r v)
unfolding plus
plus_comm c d [] s v = refl
plus_comm c d (y ∷ r) [] v = refl
plus_comm c d (y ∷ r) (z ∷ s) [] = refl
plus_comm c d (y ∷ r) (z ∷ s) (x ∷ v) =
    ap₂ ◌∷◌ (rw (rep c, rep d, rep x, rep y, rep z) (simp diff_rel (omega arith))) (plus_comm c d r s v)

-- v + k (u + c r) = v + k u + k c r
pub plus_nest : (k c : ℤ) (r u v : List ℤ) → length v ≤ length u → plus k (plus c r u) v ≡ plus (k *ℤ c) r (plus k u v)
unfolding plus
plus_nest k c [] u v h = refl
plus_nest k c (y ∷ r) [] [] h = refl
plus_nest k c (y ∷ r) [] (z ∷ v) h = absurd (omega arith)
plus_nest k c (y ∷ r) (x ∷ u) [] h = refl
plus_nest k c (y ∷ r) (x ∷ u) (z ∷ v) h =
    ap₂ ◌∷◌ (rw (rep k, rep c, rep x, rep y, rep z) (simp diff_rel (omega arith))) (plus_nest k c r u v (omega arith))

pub plus_neg : (c : ℤ) (r v : List ℤ) → plus c (neg r) v ≡ plus (neg_ℤ c) r v
unfolding plus neg
plus_neg c [] v = refl
plus_neg c (y ∷ r) [] = refl
plus_neg c (y ∷ r) (x ∷ v) = ap₂ ◌∷◌ (rw (rep c, rep x, rep y) (simp diff_rel (omega arith))) (plus_neg c r v)

pub plus_zeros : (c : ℤ) (r v : List ℤ) → Zero r → plus c r v ≡ v
unfolding plus
plus_zeros c [] v z = refl
plus_zeros c (y ∷ r) [] z = refl
plus_zeros c (y ∷ r) (x ∷ v) z = ap₂ ◌∷◌ (add_none c x y z.0) (plus_zeros c r v z.1)

pub plus_one : (r v : List ℤ) → length r ≡ length v → Zero v → plus (pos 1) r v ≡ r
unfolding plus
plus_one [] [] l z = refl
plus_one [] (x ∷ v) l z = absurd (omega arith)
plus_one (y ∷ r) [] l z = absurd (omega arith)
plus_one (y ∷ r) (x ∷ v) l z =
    ap₂ ◌∷◌ (ap (λ (t : ℤ). t +ℤ pos 1 *ℤ y) z.0 ∙ rw (rep y) (simp diff_rel (omega arith))) (plus_one r v (omega arith) z.1)

pub plus_append : (c : ℤ) (r v s w : List ℤ) → length r ≡ length v → plus c (r ++ s) (v ++ w) ≡ plus c r v ++ plus c s w
unfolding plus
plus_append c [] [] s w l = refl
plus_append c [] (x ∷ v) s w l = absurd (omega arith)
plus_append c (y ∷ r) [] s w l = absurd (omega arith)
plus_append c (y ∷ r) (x ∷ v) s w l = ap (λ (t : List ℤ). (x +ℤ c *ℤ y) ∷ t) (plus_append c r v s w (omega arith))

plus_take : (m : ℕ) (c : ℤ) (r v : List ℤ) → take m (plus c r v) ≡ plus c (take m r) (take m v)
unfolding plus
plus_take zero c r v = refl
plus_take (suc m) c [] v = refl
plus_take (suc m) c (y ∷ r) [] = refl
plus_take (suc m) c (y ∷ r) (x ∷ v) = ap (λ (t : List ℤ). (x +ℤ c *ℤ y) ∷ t) (plus_take m c r v)

-- ---- zeros
pub Zero_minus : (r : List ℤ) → Zero (minus r r)
unfolding plus
Zero_minus [] = tt
Zero_minus (x ∷ r) = (rw (rep x) (simp diff_rel (omega arith)), Zero_minus r)

pub Zero_plus : (c : ℤ) (r v : List ℤ) → Zero r → Zero v → Zero (plus c r v)
Zero_plus c r v zr zv = rw (plus_zeros c r v zr) zv

pub Zero_zeros : (n : ℕ) → Zero (zeros n)
Zero_zeros zero = tt
Zero_zeros (suc n) = (refl, Zero_zeros n)

pub zeros_Zero : (n : ℕ) (v : List ℤ) → length v ≡ n → Zero v → v ≡ zeros n
zeros_Zero zero [] l z = refl
zeros_Zero zero (x ∷ v) l z = absurd (omega arith)
zeros_Zero (suc n) [] l z = absurd (omega arith)
zeros_Zero (suc n) (x ∷ v) l z = ap₂ ◌∷◌ z.0 (zeros_Zero n v (omega arith) z.1)

pub Zero_append : (u v : List ℤ) → Zero (u ++ v) ↔ (Zero u × Zero v)
Zero_append [] v = ((λ z. (tt, z)), (λ z. z.1))
Zero_append (x ∷ u) v = (
  (λ z. ((z.0, ((Zero_append u v).0 z.1).0), ((Zero_append u v).0 z.1).1)),
  (λ z. (z.0.0, (Zero_append u v).1 (z.0.1, z.1))),
)

pub ZeroTo_next : (c : ℕ) (r : List ℤ) → ZeroTo c r → entry c r ≡ pos 0 → ZeroTo (suc c) r
ZeroTo_next c [] z e = tt
ZeroTo_next zero (x ∷ r) z e = (e, tt)
ZeroTo_next (suc c) (x ∷ r) z e = (z.0, ZeroTo_next c r z.1 e)

pub ZeroTo_all : (c : ℕ) (r : List ℤ) → length r ≤ c → ZeroTo c r → Zero r
ZeroTo_all c r l z = subst Zero (take_all c r l) z

pub ZeroTo_plus : (c : ℕ) (q : ℤ) (r s : List ℤ) → ZeroTo c r → ZeroTo c s → ZeroTo c (plus q r s)
ZeroTo_plus c q r s y z = rw (plus_take c q r s) (Zero_plus q (take c r) (take c s) y z)

pub ZeroTo_neg : (c : ℕ) (r : List ℤ) → ZeroTo c r → ZeroTo c (neg r)
unfolding neg
ZeroTo_neg zero r z = tt
ZeroTo_neg (suc c) [] z = tt
ZeroTo_neg (suc c) (x ∷ r) z = (ap neg_ℤ z.0, ZeroTo_neg c r z.1)

pub ZeroTo_unit : (n j : ℕ) → ZeroTo j (unit n j)
ZeroTo_unit zero zero = tt
ZeroTo_unit zero (suc j) = tt
ZeroTo_unit (suc n) zero = tt
ZeroTo_unit (suc n) (suc j) = (refl, ZeroTo_unit n j)

-- ---- differences, from the laws of plus
-- u − v = (u − w) + (w − v)
pub minus_via : (u w v : List ℤ) → length u ≤ length w → plus (pos 1) (minus w v) (minus u w) ≡ minus u v
minus_via u w v l =
    plus_nest (pos 1) (negsuc 0) v w (minus u w) (omega (arith, length_plus (negsuc 0) w u))
    ∙ ap (plus (negsuc 0) v) (plus_plus (pos 1) (negsuc 0) w u ∙ plus_none w u)

-- v − u = (v − v) − (u − v)
pub minus_turn : (u v : List ℤ) → length v ≤ length u → minus (minus v v) (minus u v) ≡ minus v u
minus_turn u v l =
    plus_nest (negsuc 0) (negsuc 0) v u (minus v v) (omega (arith, length_plus (negsuc 0) v v))
    ∙ plus_comm (pos 1) (negsuc 0) v u (minus v v)
    ∙ ap (plus (negsuc 0) u) (plus_plus (pos 1) (negsuc 0) v v ∙ plus_none v v)

-- (v − v) + c (u − w) = (v + c u) − (v + c w)
pub minus_sums : (c : ℤ) (u w v : List ℤ) → length v ≤ length u → plus c (minus u w) (minus v v) ≡ minus (plus c u v) (plus c w v)
minus_sums c u w v l =
    plus_nest c (negsuc 0) w u (minus v v) (omega (arith, length_plus (negsuc 0) v v))
    ∙ ap₂ (λ (k : ℤ) (t : List ℤ). plus k w t) same (plus_comm c (negsuc 0) u v v)
    ∙ sym (plus_nest (negsuc 0) c w v (plus c u v) (omega (arith, length_plus c u v)))
  where
    same : c *ℤ negsuc 0 ≡ negsuc 0 *ℤ c
    same = rw (rep c) (simp diff_rel (omega arith))

-- (v + u) − v = u
pub minus_part_lem : (u v : List ℤ) → length u ≡ length v → minus (plus (pos 1) u v) v ≡ u
minus_part_lem u v l = plus_comm (negsuc 0) (pos 1) v u v ∙ plus_one u (minus v v) (l ∙ sym (length_plus (negsuc 0) v v)) (Zero_minus v)

-- (0, u) − (0, v) = (0, u − v)
pub minus_zeros : (m : ℕ) (u v : List ℤ) → minus (zeros m ++ u) (zeros m ++ v) ≡ zeros m ++ minus u v
minus_zeros m u v =
    plus_append (negsuc 0) (zeros m) (zeros m) v u refl
    ∙ ap (λ (t : List ℤ). t ++ minus u v) (plus_zeros (negsuc 0) (zeros m) (zeros m) (Zero_zeros m))

-- ---- entries
pub entry_plus : (i : ℕ) (c : ℤ) (r v : List ℤ) → i < length v → entry i (plus c r v) ≡ entry i v +ℤ c *ℤ entry i r
unfolding plus
entry_plus i c [] v h = sym (add_none c (entry i v) (pos 0) refl)
entry_plus i c (y ∷ r) [] h = absurd (omega arith)
entry_plus zero c (y ∷ r) (x ∷ v) h = refl
entry_plus (suc i) c (y ∷ r) (x ∷ v) h = entry_plus i c r v (omega arith)

pub entry_neg : (i : ℕ) (r : List ℤ) → entry i (neg r) ≡ neg_ℤ (entry i r)
unfolding neg
entry_neg i [] = refl
entry_neg zero (x ∷ r) = refl
entry_neg (suc i) (x ∷ r) = entry_neg i r

pub entry_unit_at : (n j : ℕ) → j < n → entry j (unit n j) ≡ pos 1
entry_unit_at zero j h = absurd (omega arith)
entry_unit_at (suc n) zero h = refl
entry_unit_at (suc n) (suc j) h = entry_unit_at n j (omega arith)

pub entry_unit_before : (n i j : ℕ) → i < j → entry i (unit n j) ≡ pos 0
entry_unit_before zero i j h = refl
entry_unit_before (suc n) i zero h = absurd (omega arith)
entry_unit_before (suc n) zero (suc j) h = refl
entry_unit_before (suc n) (suc i) (suc j) h = entry_unit_before n i j (omega arith)

-- ---- the test
pub all_zero_Zero : (v : List ℤ) → (all_zero v ≡ true) ↔ Zero v
unfolding all_zero
all_zero_Zero [] = ((λ t. tt), (λ z. refl))
all_zero_Zero (x ∷ v) = (
  (λ t. let d = both_true (is_zero x) (all_zero v) t in (is_zero_true x d.0, (all_zero_Zero v).0 d.1)),
  (λ z. ap₂ (λ (y : ℤ) (b : Bool). is_zero y && b) z.0 ((all_zero_Zero v).1 z.1)),
)

-- ---- leads
pub lead_behind : (c : ℕ) (r : List ℤ) → c ≤ lead r → c + lead (drop c r) ≡ lead r
unfolding lead
lead_behind zero r h = omega arith
lead_behind (suc c) [] h = absurd (omega arith)
lead_behind (suc c) (pos zero ∷ r) h = omega (arith, lead_behind c r (omega arith))
lead_behind (suc c) (pos (suc n) ∷ r) h = absurd (omega arith)
lead_behind (suc c) (negsuc n ∷ r) h = absurd (omega arith)
