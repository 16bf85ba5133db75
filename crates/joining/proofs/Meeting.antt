-- What the pairs of a join that is made mean for the shares of a list.
--   free_unset                  a pair that is free has a column of the second that no pair before it has
--   Stands n m S a b            the pair of a and b, columns of n and m, stands in the partners S
--   passed_pair                 where the pairs pass, the first of them is free, and those behind it pass
--   stays                       a partner stays, whatever pairs come behind
--   pair_stands                 each pair stands in the partners that are left
--   alone_stays                 a column that stands in no pair is left as it was
--   place_paired, place_alone   the place of a column with a partner, and of one without
--   entry_second                a number of the second share
--   passes, stands              of a join that is made: its pairs pass, and each stands in the partners
--   join_within, join_meets     the columns of a pair are columns of their parts; they are one
--   join_alone, join_behind     a column has the partner 0 exactly when it stands in no pair; it comes behind
-- Assumes nothing.
use mathlib.Core.Path.{◌≡◌, refl, sym, ◌∙◌, ap}
use mathlib.Core.Bool.{Bool, true, not, ◌&&◌}
use mathlib.Core.List.{List, [], ◌∷◌}
use Prim.Native.Nat.{ℕ, zero, suc, ◌+◌, ◌*◌, ◌-◌, ◌<◌, ◌≤◌}
use native.Mathlib.Omega.{arith}
use lib.IntN.{ℤ, pos}
use lib.ListN.{length, get_or, set, take, length-set, length-replicate, get_or-replicate}
use lib.Seq.{get_or-set_same, get_or-set_other, get_or-take}
use Rattle.std.specs.Prelude.{Option, Some, None, is_none}
use Rattle.whole.proofs.Never.{never}
use Rattle.whole.specs.Lists.{entry}
use Rattle.whole.proofs.Tests.{both_true}
use Rattle.problem.specs.Checks.{or_next}
use Rattle.problem.specs.declared.Refusal.TheVariants.{Pair, PairBounds}
use Rattle.std.specs.Prelude.{Ok}
use Rattle.pairing.specs.declared.Sizes.{Sizes}
use Rattle.pairing.specs.Parts.{Lists, Part}
use Rattle.pairing.specs.Pairs.{Bounds, bounds_of, leaves, unpaired, uses, is_column, is_free, pair_check, matched, pair_up}
use Rattle.pairing.proofs.Walking.{free_columns}
use Rattle.pairing.proofs.Partners.{on_pair_lem, passed_next}
use Rattle.joined.specs.Columns.{places_from, places, unshared}
use Rattle.joined.specs.Joined.{second_share}
use Rattle.joined.proofs.Passing.{part_fits}
use Rattle.joined.proofs.SpreadRows.{length_places}
use Rattle.joined.proofs.Filling.{unshared_alone, unshared_shared}
use Rattle.joining.specs.Join.{pairing, partners, join}
use Rattle.joining.specs.Shares.{first_of, second_of, Alone, JoinWithin, JoinMeets, JoinAlone, JoinBehind}
use Rattle.joining.proofs.Made.{Makes, join_makes}

-- ---- one pair
pub free_unset : (n m : ℕ) (R : List (Option ℕ)) (a b : ℕ) → is_free n m R a b ≡ true → get_or R (b - 1) None ≡ None
free_unset n m R a b e =
    let x = both_true (is_column n a) (not (uses R (a - 1)) && (is_column m b && is_none (get_or R (b - 1) None))) e in
    let y = both_true (not (uses R (a - 1))) (is_column m b && is_none (get_or R (b - 1) None)) x.1 in
    none_is (get_or R (b - 1) None) (both_true (is_column m b) (is_none (get_or R (b - 1) None)) y.1).1
  where
    none_is : (q : Option ℕ) → is_none q ≡ true → q ≡ None
    none_is None h = refl
    none_is (Some i) h = never (cc)

pub record Stands (n m : ℕ) (S : List (Option ℕ)) (a b : ℕ) : Type 0 where
  pub first_low : 1 ≤ a
  pub first_high : a ≤ n
  pub second_low : 1 ≤ b
  pub second_high : b ≤ m
  pub partner : get_or S (b - 1) None ≡ Some (a - 1)

-- ---- all pairs
module _ (X Y : Bounds) where
  pub passed_pair : (R : List (Option ℕ)) (a b : ℕ) (ps : List ℕ) (S : List (Option ℕ)) → pair_up X Y (a ∷ b ∷ ps) R ≡ matched (Ok tt) S
      → (is_free (length X.lower) (length Y.lower) R a b ≡ true) × (pair_up X Y ps (set R (b - 1) (Some (a - 1))) ≡ matched (Ok tt) S)
  unfolding pair_up pair_check
  passed_pair R a b ps S e =
      let free : Bool = is_free (length X.lower) (length Y.lower) R a b in
      let left : Bool = leaves X Y (a - 1) (b - 1) in
      let t = on_pair_lem (pair_check X Y R a b) R (pair_up X Y ps (set R (b - 1) (Some (a - 1)))) S e in
      ((passed_next free Pair (or_next left PairBounds (Ok tt)) t.0).0, t.1)

  stays : (ps : List ℕ) (R S : List (Option ℕ)) (j : ℕ) → pair_up X Y ps R ≡ matched (Ok tt) S → (get_or R j None ≡ None → ⊥)
      → get_or S j None ≡ get_or R j None
  unfolding pair_up
  stays [] R S j e h = λ i. get_or (sym e i).partners j None
  stays (a ∷ []) R S j e h = λ i. get_or (sym e i).partners j None
  stays (a ∷ b ∷ ps) R S j e h =
      let t = passed_pair R a b ps S e in
      let z : get_or R (b - 1) None ≡ None = free_unset (length X.lower) (length Y.lower) R a b t.0 in
      let o : get_or (set R (b - 1) (Some (a - 1))) j None ≡ get_or R j None =
      get_or-set_other R (b - 1) j (Some (a - 1)) None (λ q. h (ap (λ (i : ℕ). get_or R i None) q ∙ z)) in
      stays ps (set R (b - 1) (Some (a - 1))) S j t.1 (λ q. h (sym o ∙ q)) ∙ o

  pair_stands : (ps : List ℕ) (R S : List (Option ℕ)) (k : ℕ) → length R ≡ length Y.lower → pair_up X Y ps R ≡ matched (Ok tt) S
      → k * 2 + 1 < length ps → Stands (length X.lower) (length Y.lower) S (first_of ps k) (second_of ps k)
  pair_stands [] R S k l e h = absurd (omega arith)
  pair_stands (a ∷ []) R S k l e h = absurd (omega arith)
  pair_stands (a ∷ b ∷ ps) R S zero l e h =
      let t = passed_pair R a b ps S e in
      let c = free_columns (length X.lower) (length Y.lower) R a b t.0 in
      let o : get_or (set R (b - 1) (Some (a - 1))) (b - 1) None ≡ Some (a - 1) =
      get_or-set_same R (b - 1) (Some (a - 1)) None (omega (arith, l, c.2, c.3)) in
      record {
        first_low = c.0;
        first_high = c.1;
        second_low = c.2;
        second_high = c.3;
        partner = stays ps (set R (b - 1) (Some (a - 1))) S (b - 1) t.1 (λ q. never (cc)) ∙ o;
      }
  pair_stands (a ∷ b ∷ ps) R S (suc k) l e h =
      let p : suc k * 2 ≡ suc (suc (k * 2)) = omega arith in
      let q : suc k * 2 + 1 ≡ suc (suc (k * 2 + 1)) = omega arith in
      rw (q, p) (pair_stands ps (set R (b - 1) (Some (a - 1))) S k (length-set R (b - 1) (Some (a - 1)) ∙ l)
      (passed_pair R a b ps S e).1 (omega arith))

  alone_stays : (ps : List ℕ) (R S : List (Option ℕ)) (j : ℕ) → pair_up X Y ps R ≡ matched (Ok tt) S → Alone ps j → get_or S j None ≡ get_or R j None
  unfolding pair_up
  alone_stays [] R S j e h = λ i. get_or (sym e i).partners j None
  alone_stays (a ∷ []) R S j e h = λ i. get_or (sym e i).partners j None
  alone_stays (a ∷ b ∷ ps) R S j e h =
      let t = passed_pair R a b ps S e in
      let c = free_columns (length X.lower) (length Y.lower) R a b t.0 in
      alone_stays ps (set R (b - 1) (Some (a - 1))) S j t.1 (λ k l q. h (suc k) (omega arith) (next k ∙ q))
      ∙ get_or-set_other R (b - 1) j (Some (a - 1)) None (λ q. h 0 (omega arith) (omega (arith, q, c.2)))
    where
      next : (k : ℕ) → second_of (a ∷ b ∷ ps) (suc k) ≡ second_of ps k
      next k = let q : suc k * 2 + 1 ≡ suc (suc (k * 2 + 1)) = omega arith in rw q

-- ---- the places
place_paired : (k : ℕ) (R : List (Option ℕ)) (j i : ℕ) → get_or R j None ≡ Some i → get_or (places_from k R) j 0 ≡ i
unfolding places_from
place_paired k [] j i e = never (cc)
place_paired k (None ∷ R) zero i e = never (cc)
place_paired k (None ∷ R) (suc j) i e = place_paired (suc k) R j i e
place_paired k (Some p ∷ R) zero i e = cc
place_paired k (Some p ∷ R) (suc j) i e = place_paired k R j i e

place_alone : (k : ℕ) (R : List (Option ℕ)) (j : ℕ) → j < length R → get_or R j None ≡ None
    → get_or (places_from k R) j 0 ≡ k + unshared (take j R)
unfolding places_from
place_alone k [] j h e = absurd (omega arith)
place_alone k (None ∷ R) zero h e = omega arith
place_alone k (None ∷ R) (suc j) h e = omega (arith, place_alone (suc k) R j (omega arith) e, unshared_alone (take j R))
place_alone k (Some p ∷ R) zero h e = never (cc)
place_alone k (Some p ∷ R) (suc j) h e = omega (arith, place_alone k R j (omega arith) e, unshared_shared p (take j R))

entry_second : (S : List ℕ) (x : List ℤ) (j : ℕ) → j < length S → entry j (second_share S x) ≡ entry (get_or S j 0) x
entry_second [] x j h = absurd (omega arith)
entry_second (i ∷ S) x zero h = refl
entry_second (i ∷ S) x (suc j) h = entry_second S x j (omega arith)

-- ---- the join
module _ (P Q : Part) (ps : List ℕ) (B : Lists) (s : Sizes) (e : (join P Q ps B).answer ≡ Ok s) where
  makes : Makes P Q ps B
  makes = (join_makes P Q ps B s e).makes

  abbrev R : List (Option ℕ)
  R = partners P Q ps

  pub passes : pair_up (bounds_of P) (bounds_of Q) ps (unpaired Q.columns) ≡ matched (Ok tt) (partners P Q ps)
  unfolding pairing
  passes = λ i. matched (makes.found i) (partners P Q ps)

  pub stands : (k : ℕ) → k * 2 + 1 < length ps → Stands P.columns Q.columns R (first_of ps k) (second_of ps k)
  stands k h =
      rw ((part_fits P makes.first).lower_long, (part_fits Q makes.second).lower_long) at
      (pair_stands (bounds_of P) (bounds_of Q) ps (unpaired Q.columns) R k
      (length-replicate Q.columns None ∙ sym (part_fits Q makes.second).lower_long) passes h)

  alone : (j : ℕ) → j < Q.columns → Alone ps j → get_or R j None ≡ None
  alone j h a = alone_stays (bounds_of P) (bounds_of Q) ps (unpaired Q.columns) R j passes a ∙ get_or-replicate Q.columns j None None h

  second : (j i : ℕ) (x : List ℤ) → j < Q.columns → get_or (places P R) j 0 ≡ i → entry j (second_share (places P R) x) ≡ entry i x
  second j i x h p =
      entry_second (places P R) x j (omega (arith, h, length_places P.columns R, makes.ready.long)) ∙ ap (λ (z : ℕ). entry z x) p

pub join_within : JoinWithin
join_within P Q ps B s e k h =
    let t = stands P Q ps B s e k h in
    (t.first_low, t.first_high, t.second_low, t.second_high)

pub join_meets : JoinMeets
join_meets P Q ps B s e k h x =
    let t = stands P Q ps B s e k h in
    let a : ℕ = first_of ps k in
    let b : ℕ = second_of ps k in
    second P Q ps B s e (b - 1) (a - 1) x (omega (arith, t.second_low, t.second_high))
    (place_paired P.columns (partners P Q ps) (b - 1) (a - 1) t.partner)
    ∙ sym (get_or-take P.columns x (a - 1) (pos 0) (omega (arith, t.first_low, t.first_high)))

pub join_alone : JoinAlone
join_alone P Q ps B s e j h = (
  (λ z k l q.
      let t = stands P Q ps B s e k l in
      let p : second_of ps k - 1 ≡ j = omega (arith, q) in
      let o : get_or (partners P Q ps) j None ≡ Some (first_of ps k - 1) = ap (λ (i : ℕ). get_or (partners P Q ps) i None) (sym p) ∙ t.partner in
      never (cc)),
  alone P Q ps B s e j h,
)

pub join_behind : JoinBehind
join_behind P Q ps B s e j h a x =
    second P Q ps B s e j (P.columns + unshared (take j (partners P Q ps))) x h
    (place_alone P.columns (partners P Q ps) j (omega (arith, h, (join_makes P Q ps B s e).makes.ready.long)) (alone P Q ps B s e j h a))
