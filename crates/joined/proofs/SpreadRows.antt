-- The joined rows ask of a list what the two parts' rows ask of its shares.
--   Free r S                   the places S lie within r, r is 0 at each, and none comes twice
--   free_below                 such places lie within r
--   places_free                the places of the second's columns among zeros are such; joined_free, those of a join
--   length_places              there is one for each column
--   places_below               they lie before the number of the joined columns, one for each column of the second
--   sums_padded, sums_spread   rows with zeros behind: the rows over the list's front; rows spread over such places: the rows over their numbers
--   padded_wide, spread_wide   the rows' lengths
-- Assumes nothing.
use mathlib.Core.Path.{◌≡◌, refl, sym, ◌∙◌, ap, ap₂, subst}
use mathlib.Core.Bool.{Bool, false}
use mathlib.Core.List.{List, [], ◌∷◌, map}
use Prim.Native.Nat.{ℕ, zero, suc, ◌+◌, ◌<◌, ◌≤◌}
use native.Mathlib.Omega.{arith}
use lib.IntN.{ℤ, pos, ◌+ℤ◌, ◌*ℤ◌}
use lib.ListN.{length, get_or, set, take, length-append, length-set, length-replicate}
use lib.Seq.{get_or-set_other}
use borrow.Author.Tests.{eqb-false, ne_eqb}
use lib.Dec.{eqb}
use Rattle.std.specs.List.{list_any}
use Rattle.std.specs.Prelude.{nat_eq, Option, Some, None}
use Rattle.whole.specs.Lists.{entry, zeros}
use Rattle.whole.proofs.Integers.{rep, diff_rel}
use Rattle.whole.proofs.Lists.{entry_zeros}
use Rattle.whole.proofs.Tests.{neither}
use Rattle.lattice.specs.Span.{All, Len}
use Rattle.lattice.specs.Sums.{dot, sums}
use Rattle.lattice.proofs.SumLaws.{dot_row_zeros, dot_row_set}
use Rattle.pairing.specs.Parts.{Part, PartColumn, columns}
use Rattle.pairing.specs.Pairs.{uses}
use Rattle.pairing.proofs.Partners.{length_columns, Ready, not_first, Partners}
use Rattle.joined.specs.Columns.{places_from, places, unshared, joined_count}
use Rattle.joined.specs.Joined.{second_share, padded, spread_from, spread}
use Rattle.joined.specs.Filling.{AllBelow}
use Rattle.joined.proofs.Filling.{unshared_alone, unshared_shared}

-- ---- a row of the first
dot_padded : (k : ℕ) (a x : List ℤ) → dot (padded k a) x ≡ dot a (take (length a) x)
unfolding dot
dot_padded k [] x = dot_row_zeros k x
dot_padded k (c ∷ a) [] = refl
dot_padded k (c ∷ a) (v ∷ x) = ap (λ (s : ℤ). s +ℤ v *ℤ c) (dot_padded k a x)

-- ---- a row of the second
-- a place among others
abbrev pub among : List ℕ → ℕ → Bool
among S i = list_any (λ k. nat_eq k i) S

not_first_place : (k : ℕ) (S : List ℕ) (i : ℕ) → among (k ∷ S) i ≡ false → (k ≡ i → ⊥) × (among S i ≡ false)
not_first_place k S i u = let s : (eqb k i ≡ false) × (among S i ≡ false) = neither (eqb k i) (among S i) u in (eqb-false k i s.0, s.1)

not_either_place : (k : ℕ) (S : List ℕ) (i : ℕ) → (k ≡ i → ⊥) → among S i ≡ false → among (k ∷ S) i ≡ false
not_either_place k S i n u = rw (ne_eqb k i n, u)

abbrev pub Free : List ℤ → List ℕ → Type 0
Free r [] = Unit {0}
Free r (i ∷ S) = (i < length r) × (entry i r ≡ pos 0) × (among S i ≡ false) × Free r S

free_set : (r : List ℤ) (S : List ℕ) (i : ℕ) (c : ℤ) → among S i ≡ false → Free r S → Free (set r i c) S
free_set r [] i c u f = tt
free_set r (k ∷ S) i c u f =
    let n : (k ≡ i → ⊥) × (among S i ≡ false) = not_first_place k S i u in (
      omega (arith, f.0, length-set r i c),
      get_or-set_other r i k c (pos 0) n.0 ∙ f.1,
      f.2,
      free_set r S i c n.1 f.3,
    )

dot_spread : (r : List ℤ) (S : List ℕ) (a x : List ℤ) → length S ≡ length a → Free r S
    → dot (spread_from r S a) x ≡ dot r x +ℤ dot a (second_share S x)
unfolding spread_from dot
dot_spread r [] [] x e f = rw (rep (dot r x)) (simp diff_rel (omega arith))
dot_spread r [] (c ∷ a) x e f = absurd (omega arith)
dot_spread r (i ∷ S) [] x e f = absurd (omega arith)
dot_spread r (i ∷ S) (c ∷ a) x e f =
    dot_spread (set r i c) S a x (omega arith) (free_set r S i c f.2 f.3)
    ∙ ap (λ (s : ℤ). s +ℤ dot a (second_share S x)) (dot_row_set r i c x f.0 f.1)
    ∙ turn (dot r x) (entry i x) (dot a (second_share S x))
  where
    turn : (s v u : ℤ) → s +ℤ c *ℤ v +ℤ u ≡ s +ℤ (u +ℤ v *ℤ c)
    turn s v u = rw (rep s, rep v, rep u, rep c) (simp diff_rel (omega arith))

length_spread : (r : List ℤ) (S : List ℕ) (a : List ℤ) → length (spread_from r S a) ≡ length r
unfolding spread_from
length_spread r [] a = refl
length_spread r (i ∷ S) [] = refl
length_spread r (i ∷ S) (c ∷ a) = length_spread (set r i c) S a ∙ length-set r i c

-- ---- the places
-- a place behind L and before the next unshared one is not taken
places_behind : (L C : List PartColumn) (R : List (Option ℕ)) (i k : ℕ) → length R ≡ length C → length L ≤ i → i < k → Ready L R C
    → among (places_from k R) i ≡ false
unfolding places_from
places_behind L C [] i k l h e r = refl
places_behind L [] (p ∷ R) i k l h e r = absurd (omega arith)
places_behind L (c ∷ C) (None ∷ R) i k l h e r =
    not_either_place k (places_from (suc k) R) i (λ q. omega arith) (places_behind L C R i (suc k) (omega arith) h (omega arith) r)
places_behind L (c ∷ C) (Some q ∷ R) i k l h e r =
    not_either_place q (places_from k R) i (λ z. omega (arith, r.0)) (places_behind L C R i k (omega arith) h e r.3)

-- nor is the place of a column that is no partner
places_other : (R : List (Option ℕ)) (i k : ℕ) → i < k → uses R i ≡ false → among (places_from k R) i ≡ false
unfolding places_from
places_other [] i k h u = refl
places_other (None ∷ R) i k h u =
    not_either_place k (places_from (suc k) R) i (λ q. omega arith) (places_other R i (suc k) (omega arith) u)
places_other (Some q ∷ R) i k h u =
    let n : (q ≡ i → ⊥) × (uses R i ≡ false) = not_first q R i u in
    not_either_place q (places_from k R) i n.0 (places_other R i k h n.1)

pub places_free : (n k : ℕ) (L C : List PartColumn) (R : List (Option ℕ)) → length R ≡ length C → length L ≤ k → k + unshared R ≤ n → Ready L R C
    → Free (zeros n) (places_from k R)
unfolding places_from
places_free n k L C [] l h e r = tt
places_free n k L [] (p ∷ R) l h e r = absurd (omega arith)
places_free n k L (c ∷ C) (None ∷ R) l h e r = (
  omega (arith, length-replicate n (pos 0), unshared_alone R),
  entry_zeros k n,
  places_behind L C R k (suc k) (omega arith) h (omega arith) r,
  places_free n (suc k) L C R (omega arith) (omega arith) (omega (arith, unshared_alone R)) r,
)
places_free n k L (c ∷ C) (Some i ∷ R) l h e r = (
  omega (arith, length-replicate n (pos 0), r.0, unshared_shared i R),
  entry_zeros i n,
  places_other R i k (omega (arith, r.0)) r.2,
  places_free n k L C R (omega arith) h (omega (arith, unshared_shared i R)) r.3,
)

pub length_places : (k : ℕ) (R : List (Option ℕ)) → length (places_from k R) ≡ length R
unfolding places_from
length_places k [] = refl
length_places k (None ∷ R) = ap suc (length_places (suc k) R)
length_places k (Some i ∷ R) = ap suc (length_places k R)

place_below : (r : List ℤ) (S : List ℕ) (j : ℕ) → Free r S → j < length S → get_or S j 0 < length r
place_below r [] j f h = absurd (omega arith)
place_below r (i ∷ S) zero f h = f.0
place_below r (i ∷ S) (suc j) f h = place_below r S j f.3 (omega arith)

pub free_below : (r : List ℤ) (S : List ℕ) → Free r S → AllBelow (length r) S
free_below r S f = record { below = λ j h. place_below r S j f h }

-- ---- those of the second part
module _ (P Q : Part) (R : List (Option ℕ)) (r : Partners P Q R) where
  pub joined_free : Free (zeros (joined_count P R)) (places P R)
  joined_free =
      places_free (joined_count P R) P.columns (columns P) (columns Q) R (r.long ∙ sym (length_columns Q)) (omega (arith, length_columns P))
      (omega arith) r.ready

  pub places_below : AllBelow (joined_count P R) (places P R) × (length (places P R) ≡ Q.columns)
  places_below = (
    subst (λ (n : ℕ). AllBelow n (places P R)) (length-replicate (joined_count P R) (pos 0))
        (free_below (zeros (joined_count P R)) (places P R) joined_free),
    length_places P.columns R ∙ r.long,
  )

-- ---- all rows
pub sums_padded : (n k : ℕ) (A : List (List ℤ)) (x : List ℤ) → All (Len n) A → sums (map (padded k) A) x ≡ sums A (take n x)
unfolding sums
sums_padded n k [] x w = refl
sums_padded n k (a ∷ A) x w = ap₂ ◌∷◌ (dot_padded k a x ∙ ap (λ (m : ℕ). dot a (take m x)) w.0) (sums_padded n k A x w.1)

pub sums_spread : (n k : ℕ) (S : List ℕ) (A : List (List ℤ)) (x : List ℤ) → length S ≡ k → Free (zeros n) S → All (Len k) A
    → sums (map (spread n S) A) x ≡ sums A (second_share S x)
unfolding sums
sums_spread n k S [] x e f w = refl
sums_spread n k S (a ∷ A) x e f w =
    ap₂ ◌∷◌
    (dot_spread (zeros n) S a x (e ∙ sym w.0) f
    ∙ ap (λ (s : ℤ). s +ℤ dot a (second_share S x)) (dot_row_zeros n x)
    ∙ rw (rep (dot a (second_share S x))) (simp diff_rel (omega arith)))
    (sums_spread n k S A x e f w.1)

pub padded_wide : (n k : ℕ) (A : List (List ℤ)) → All (Len n) A → All (Len (n + k)) (map (padded k) A)
padded_wide n k [] w = tt
padded_wide n k (a ∷ A) w = (omega (arith, length-append a (zeros k), w.0, length-replicate k (pos 0)), padded_wide n k A w.1)

pub spread_wide : (n : ℕ) (S : List ℕ) (A : List (List ℤ)) → All (Len n) (map (spread n S) A)
spread_wide n S [] = tt
spread_wide n S (a ∷ A) = (length_spread (zeros n) S a ∙ length-replicate n (pos 0), spread_wide n S A)
