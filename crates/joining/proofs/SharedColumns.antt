-- What a join that is made says of each column.
--   Unnamed R i           the column i of the first, counted from 0, is no partner
--   unused_unnamed        so it is of one that is not used
--   named_below           a partner lies in L
--   absorb_kept           a column that is no partner is kept
--   absorb_pair           a partner is put together with its column of the second
--   absorb_behind         a column of the second without a partner comes behind those of L and the ones without a partner before it
--   unnamed_set           it is still none where another column comes in as a partner
--   none_named            before the first pair no column is a partner
--   first_alone           a column of the first that stands in no pair is no partner
--   join_columns          what the joined lists say of each column
-- Assumes nothing.
use mathlib.Core.Path.{◌≡◌, refl, sym, ◌∙◌, ap, ap₂}
use mathlib.Core.Bool.{false}
use mathlib.Core.List.{List, [], ◌∷◌, ◌++◌}
use Prim.Native.Nat.{ℕ, zero, suc, ◌+◌, ◌*◌, ◌-◌, ◌<◌}
use native.Mathlib.Omega.{arith}
use lib.ListN.{length, get_or, set, take, length-append, length-set, get_or-append}
use lib.Seq.{get_or-set_same, get_or-set_other, get_or-append_seam}
use Rattle.std.specs.Prelude.{Option, Some, None}
use Rattle.whole.proofs.Never.{never}
use Rattle.std.specs.Prelude.{Ok}
use Rattle.pairing.specs.declared.Sizes.{Sizes}
use Rattle.pairing.specs.Parts.{Lists, Part, PartColumn, no_column, column_in, columns, at}
use Rattle.pairing.specs.Pairs.{Bounds, bounds_of, unpaired, uses, matched, pair_up}
use Rattle.pairing.proofs.Partners.{length_columns, at_columns, Ready, not_first, ready_set, ready_append}
use Rattle.joined.specs.Columns.{shared, absorb, unshared, joined_columns}
use Rattle.joined.proofs.Shares.{column_joined}
use Rattle.pairing.proofs.Walking.{free_columns}
use Rattle.joined.proofs.Filling.{unshared_alone, unshared_shared}
use Rattle.joining.specs.Join.{partners, join, outcome}
use Rattle.joining.specs.Shares.{first_of, second_of, Alone, FirstAlone, JoinColumns}
use Rattle.joining.proofs.Made.{MadeOf, join_makes}
use Rattle.joining.proofs.Meeting.{passed_pair, passes, stands, join_alone}

-- ---- partners
abbrev Unnamed : List (Option ℕ) → ℕ → Type 0
Unnamed R i = (j : ℕ) → get_or R j None ≡ Some i → ⊥

unused_unnamed : (R : List (Option ℕ)) (i : ℕ) → uses R i ≡ false → Unnamed R i
unused_unnamed [] i u j e = cc
unused_unnamed (None ∷ R) i u zero e = cc
unused_unnamed (None ∷ R) i u (suc j) e = unused_unnamed R i u j e
unused_unnamed (Some k ∷ R) i u zero e = (not_first k R i u).0 (cc)
unused_unnamed (Some k ∷ R) i u (suc j) e = unused_unnamed R i (not_first k R i u).1 j e

named_below : (L : List PartColumn) (R : List (Option ℕ)) (C : List PartColumn) (i j : ℕ) → length R ≡ length C → Ready L R C
    → get_or R j None ≡ Some i → i < length L
named_below L [] C i j l r e = never (cc)
named_below L (p ∷ R) [] i j l r e = absurd (omega arith)
named_below L (None ∷ R) (c ∷ C) i zero l r e = never (cc)
named_below L (None ∷ R) (c ∷ C) i (suc j) l r e = named_below L R C i j (omega arith) r e
named_below L (Some p ∷ R) (c ∷ C) i zero l r e = let q : p ≡ i = cc in omega (arith, r.0, q)
named_below L (Some p ∷ R) (c ∷ C) i (suc j) l r e = named_below L R C i j (omega arith) r.3 e

-- ---- one column of the joined ones
absorb_kept : (L : List PartColumn) (R : List (Option ℕ)) (C : List PartColumn) (i : ℕ) → i < length L → Unnamed R i → at (absorb L R C) i ≡ at L i
unfolding absorb
absorb_kept L [] C i h u = refl
absorb_kept L (p ∷ R) [] i h u = refl
absorb_kept L (None ∷ R) (c ∷ C) i h u =
    absorb_kept (L ++ (c ∷ [])) R C i (omega (arith, h, length-append L (c ∷ []))) (λ j. u (suc j)) ∙ get_or-append L (c ∷ []) no_column i h
absorb_kept L (Some p ∷ R) (c ∷ C) i h u =
    let d : PartColumn = shared (at L p) c in
    absorb_kept (set L p d) R C i (omega (arith, h, length-set L p d)) (λ j. u (suc j))
    ∙ get_or-set_other L p i d no_column (λ e. u 0 (ap Some (sym e)))

absorb_pair : (L : List PartColumn) (R : List (Option ℕ)) (C : List PartColumn) (i j : ℕ) → length R ≡ length C → Ready L R C
    → get_or R j None ≡ Some i → at (absorb L R C) i ≡ shared (at L i) (at C j)
unfolding absorb
absorb_pair L [] C i j l r e = never (cc)
absorb_pair L (p ∷ R) [] i j l r e = absurd (omega arith)
absorb_pair L (None ∷ R) (c ∷ C) i zero l r e = never (cc)
absorb_pair L (None ∷ R) (c ∷ C) i (suc j) l r e =
    absorb_pair (L ++ (c ∷ [])) R C i j (omega arith) (ready_append L R C (c ∷ []) r) e
    ∙ ap (λ (d : PartColumn). shared d (at C j)) (get_or-append L (c ∷ []) no_column i (named_below L R C i j (omega arith) r e))
absorb_pair L (Some p ∷ R) (c ∷ C) i zero l r e =
    let d : PartColumn = shared (at L p) c in
    let q : p ≡ i = cc in
    ap (at (absorb (set L p d) R C)) (sym q)
    ∙ absorb_kept (set L p d) R C p (omega (arith, r.0, length-set L p d)) (unused_unnamed R p r.2)
    ∙ get_or-set_same L p d no_column r.0
    ∙ ap (λ (n : ℕ). shared (at L n) c) q
absorb_pair L (Some p ∷ R) (c ∷ C) i (suc j) l r e =
    let d : PartColumn = shared (at L p) c in
    absorb_pair (set L p d) R C i j (omega arith) (ready_set L R C p d r.2 r.3) e
    ∙ ap (λ (x : PartColumn). shared x (at C j))
    (get_or-set_other L p i d no_column (λ q. unused_unnamed R p r.2 j (e ∙ ap Some q)))

absorb_behind : (L : List PartColumn) (R : List (Option ℕ)) (C : List PartColumn) (j : ℕ) → length R ≡ length C → Ready L R C → j < length R
    → get_or R j None ≡ None → at (absorb L R C) (length L + unshared (take j R)) ≡ at C j
unfolding absorb
absorb_behind L [] C j l r h e = absurd (omega arith)
absorb_behind L (p ∷ R) [] j l r h e = absurd (omega arith)
absorb_behind L (None ∷ R) (c ∷ C) zero l r h e =
    let n : length L + 0 ≡ length L = omega arith in
    ap (at (absorb (L ++ (c ∷ [])) R C)) n
    ∙ absorb_kept (L ++ (c ∷ [])) R C (length L) (omega (arith, length-append L (c ∷ [])))
    (λ j q. omega (arith, named_below L R C (length L) j (omega arith) r q))
    ∙ get_or-append_seam L c [] no_column
absorb_behind L (None ∷ R) (c ∷ C) (suc j) l r h e =
    let n : length L + unshared (None ∷ take j R) ≡ length (L ++ (c ∷ [])) + unshared (take j R) =
    omega (arith, length-append L (c ∷ []), unshared_alone (take j R)) in
    ap (at (absorb (L ++ (c ∷ [])) R C)) n
    ∙ absorb_behind (L ++ (c ∷ [])) R C j (omega arith) (ready_append L R C (c ∷ []) r) (omega arith) e
absorb_behind L (Some p ∷ R) (c ∷ C) zero l r h e = never (cc)
absorb_behind L (Some p ∷ R) (c ∷ C) (suc j) l r h e =
    let d : PartColumn = shared (at L p) c in
    let n : length L + unshared (Some p ∷ take j R) ≡ length (set L p d) + unshared (take j R) =
    omega (arith, length-set L p d, unshared_shared p (take j R)) in
    ap (at (absorb (set L p d) R C)) n
    ∙ absorb_behind (set L p d) R C j (omega arith) (ready_set L R C p d r.2 r.3) (omega arith) e

-- ---- the pairs
unnamed_set : (R : List (Option ℕ)) (k a i : ℕ) → (a ≡ i → ⊥) → Unnamed R i → Unnamed (set R k (Some a)) i
unnamed_set [] k a i n u j = u j
unnamed_set (p ∷ R) zero a i n u zero = λ e. n (cc)
unnamed_set (p ∷ R) zero a i n u (suc j) = u (suc j)
unnamed_set (p ∷ R) (suc k) a i n u zero = u 0
unnamed_set (p ∷ R) (suc k) a i n u (suc j) = unnamed_set R k a i n (λ x. u (suc x)) j

first_alone : (X Y : Bounds) (ps : List ℕ) (R S : List (Option ℕ)) (i : ℕ) → pair_up X Y ps R ≡ matched (Ok tt) S → FirstAlone ps i
    → Unnamed R i → Unnamed S i
unfolding pair_up
first_alone X Y [] R S i e h u = λ j q. u j ((λ x. get_or (e x).partners j None) ∙ q)
first_alone X Y (a ∷ []) R S i e h u = λ j q. u j ((λ x. get_or (e x).partners j None) ∙ q)
first_alone X Y (a ∷ b ∷ ps) R S i e h u =
    first_alone X Y ps (set R (b - 1) (Some (a - 1))) S i (passed_pair X Y R a b ps S e).1 (λ k l q. h (suc k) (omega arith) (next k ∙ q))
    (unnamed_set R (b - 1) (a - 1) i (λ q. h 0 (omega arith) (omega (
      arith,
      q,
      (free_columns (length X.lower) (length Y.lower) R a b
          (passed_pair X Y R a b ps S e).0).0,
    ))) u)
  where
    next : (k : ℕ) → first_of (a ∷ b ∷ ps) (suc k) ≡ first_of ps k
    next k = let q : suc k * 2 ≡ suc (suc (k * 2)) = omega arith in rw q

none_named : (n i : ℕ) → Unnamed (unpaired n) i
none_named zero i j e = cc
none_named (suc n) i zero e = cc
none_named (suc n) i (suc j) e = none_named n i j e

-- ---- the join
module _ (P Q : Part) (ps : List ℕ) (B : Lists) (s : Sizes) (e : (join P Q ps B).answer ≡ Ok s) where
  abbrev R : List (Option ℕ)
  R = partners P Q ps

  made : MadeOf P Q ps B s
  made = join_makes P Q ps B s e

  column : (i : ℕ) → column_in (outcome P Q ps B s).lists i ≡ at (joined_columns P Q R) i
  column i =
      ap (λ (J : Part). column_in J.lists i) made.left
      ∙ column_joined P Q R made.makes.first made.makes.second made.makes.ready i

  long : length R ≡ length (columns Q)
  long = made.makes.ready.long ∙ sym (length_columns Q)

  pair : (k : ℕ) → k * 2 + 1 < length ps
      → column_in (outcome P Q ps B s).lists (first_of ps k - 1)
      ≡ shared (column_in P.lists (first_of ps k - 1)) (column_in Q.lists (second_of ps k - 1))
  pair k h =
      let t = stands P Q ps B s e k h in
      let a : ℕ = first_of ps k in
      let b : ℕ = second_of ps k in
      column (a - 1)
      ∙ absorb_pair (columns P) R (columns Q) (a - 1) (b - 1) long made.makes.ready.ready t.partner
      ∙ ap₂ shared (at_columns P (a - 1) (omega (arith, t.first_low, t.first_high)))
      (at_columns Q (b - 1) (omega (arith, t.second_low, t.second_high)))

  first : (i : ℕ) → i < P.columns → FirstAlone ps i → column_in (outcome P Q ps B s).lists i ≡ column_in P.lists i
  first i h a =
      column i
      ∙ absorb_kept (columns P) R (columns Q) i (omega (arith, h, length_columns P))
      (first_alone (bounds_of P) (bounds_of Q) ps (unpaired Q.columns) R i (passes P Q ps B s e) a (none_named Q.columns i))
      ∙ at_columns P i h

  second : (j : ℕ) → j < Q.columns → Alone ps j
      → column_in (outcome P Q ps B s).lists (P.columns + unshared (take j R)) ≡ column_in Q.lists j
  second j h a =
      column (P.columns + unshared (take j R))
      ∙ ap (λ (n : ℕ). at (joined_columns P Q R) (n + unshared (take j R))) (sym (length_columns P))
      ∙ absorb_behind (columns P) R (columns Q) j long made.makes.ready.ready (omega (arith, h, made.makes.ready.long))
      ((join_alone P Q ps B s e j h).1 a)
      ∙ at_columns Q j h

pub join_columns : JoinColumns
join_columns P Q ps B s e = record { pair = pair P Q ps B s e; first = first P Q ps B s e; second = second P Q ps B s e }
