-- What the pairs leave, where none is refused.
--   length_columns, at_columns   the columns of a part, how many and each
--   Leaves c d        the bounds of two columns leave something
--   Ready L R C       of the columns L and the second's columns C with the partners R: a partner lies in L, no column of L is a partner twice, and
--                     the bounds of each pair leave something
--   not_first, not_either   a column that the partners do not name, at the first of them and behind it; and the other way round
--   ready_set, ready_append   it holds still with a column of L changed that is no partner, and with one more behind
--   ready_pair        one more pair
--   Partners P Q R    R has a number for each column of Q, and is ready
--   passed_next       a test that a check has passed, and the rest of the check; on-pair, a pair that has passed, and the pairs behind it
--   pairs_ready       so it is of the partners that the pairs leave
-- Assumes nothing.
use mathlib.Core.Path.{◌≡◌, refl, sym, ◌∙◌, ap, subst}
use mathlib.Core.Bool.{Bool, true, false, not, ◌&&◌}
use mathlib.Core.List.{List, [], ◌∷◌, ◌++◌}
use Prim.Native.Nat.{ℕ, zero, suc, ◌+◌, ◌-◌, ◌<◌, ◌≤◌}
use native.Mathlib.Omega.{arith}
use borrow.Author.Tests.{eqb-false, ne_eqb, not-true}
use lib.Dec.{eqb}
use lib.ListN.{length, get_or, set, length-append, length-set, length-replicate, get_or-append}
use lib.Seq.{get_or-set_other}
use Rattle.whole.proofs.Never.{never}
use Rattle.whole.proofs.Tests.{both_true, neither}
use Rattle.problem.specs.Checks.{or_next}
use Rattle.problem.specs.declared.Refusal.{Refusal}
use Rattle.problem.specs.declared.Refusal.TheVariants.{Pair, PairBounds}
use Rattle.problem.specs.Checks.{Check}
use Rattle.std.specs.Prelude.{Ok, Err, Option, Some, None, is_none}
use Rattle.pairing.specs.Parts.{Lists, Part, PartColumn, no_column, column_in, columns_from, columns, at}
use Rattle.pairing.specs.Pairs.{bounds_of, leave, leaves, unpaired, uses, is_column, is_free, pair_check, Matched, matched, on_pair, pair_up}
use Rattle.pairing.proofs.Walking.{column_in_lem}

-- ---- a part's columns
length_from : (l : Lists) (j k : ℕ) → length (columns_from l j k) ≡ k
unfolding columns_from
length_from l j zero = refl
length_from l j (suc k) = ap suc (length_from l (suc j) k)

at_from : (l : Lists) (j k i : ℕ) → i < k → at (columns_from l j k) i ≡ column_in l (j + i)
unfolding columns_from
at_from l j zero i h = absurd (omega arith)
at_from l j (suc k) zero h = let e : j ≡ j + 0 = omega arith in ap (column_in l) e
at_from l j (suc k) (suc i) h = let e : suc j + i ≡ j + suc i = omega arith in at_from l (suc j) k i (omega arith) ∙ ap (column_in l) e

pub length_columns : (P : Part) → length (columns P) ≡ P.columns
length_columns P = length_from P.lists 0 P.columns

pub at_columns : (P : Part) (j : ℕ) → j < P.columns → at (columns P) j ≡ column_in P.lists j
at_columns P j h = let e : 0 + j ≡ j = omega arith in at_from P.lists 0 P.columns j h ∙ ap (column_in P.lists) e

-- ---- ready partners
abbrev pub Leaves : PartColumn → PartColumn → Type 0
Leaves c d = leave c.lower c.upper d.lower d.upper ≡ true

abbrev pub Ready : List PartColumn → List (Option ℕ) → List PartColumn → Type 0
Ready L [] C = Unit {0}
Ready L (p ∷ R) [] = Unit {0}
Ready L (None ∷ R) (c ∷ C) = Ready L R C
Ready L (Some i ∷ R) (c ∷ C) = (i < length L) × Leaves (at L i) c × (uses R i ≡ false) × Ready L R C

-- a column that the partners do not name, at the first of them and behind it
pub not_first : (k : ℕ) (R : List (Option ℕ)) (i : ℕ) → uses (Some k ∷ R) i ≡ false → (k ≡ i → ⊥) × (uses R i ≡ false)
not_first k R i u = let s : (eqb k i ≡ false) × (uses R i ≡ false) = neither (eqb k i) (uses R i) u in (eqb-false k i s.0, s.1)

pub not_either : (k : ℕ) (R : List (Option ℕ)) (i : ℕ) → (k ≡ i → ⊥) → uses R i ≡ false → uses (Some k ∷ R) i ≡ false
not_either k R i n u = rw (ne_eqb k i n, u)

pub ready_set : (L : List PartColumn) (R : List (Option ℕ)) (C : List PartColumn) (i : ℕ) (d : PartColumn)
    → uses R i ≡ false → Ready L R C → Ready (set L i d) R C
ready_set L [] C i d u r = tt
ready_set L (p ∷ R) [] i d u r = tt
ready_set L (None ∷ R) (c ∷ C) i d u r = ready_set L R C i d u r
ready_set L (Some k ∷ R) (c ∷ C) i d u r =
    let n : (k ≡ i → ⊥) × (uses R i ≡ false) = not_first k R i u in (
      omega (arith, r.0, length-set L i d),
      rw (get_or-set_other L i k d no_column n.0) r.1,
      r.2,
      ready_set L R C i d n.1 r.3,
    )

pub ready_append : (L : List PartColumn) (R : List (Option ℕ)) (C M : List PartColumn) → Ready L R C → Ready (L ++ M) R C
ready_append L [] C M r = tt
ready_append L (p ∷ R) [] M r = tt
ready_append L (None ∷ R) (c ∷ C) M r = ready_append L R C M r
ready_append L (Some k ∷ R) (c ∷ C) M r = (
  omega (arith, r.0, length-append L M),
  rw (get_or-append L M no_column k r.0) r.1,
  r.2,
  ready_append L R C M r.3,
)

ready_none : (L : List PartColumn) (n : ℕ) (C : List PartColumn) → Ready L (unpaired n) C
ready_none L zero C = tt
ready_none L (suc n) [] = tt
ready_none L (suc n) (c ∷ C) = ready_none L n C

-- a column not named before is not named where another one comes in
uses_set : (R : List (Option ℕ)) (j a p : ℕ) → uses R p ≡ false → (a ≡ p → ⊥) → uses (set R j (Some a)) p ≡ false
uses_set [] j a p u n = u
uses_set (None ∷ R) zero a p u n = not_either a R p n u
uses_set (Some q ∷ R) zero a p u n = not_either a R p n (not_first q R p u).1
uses_set (None ∷ R) (suc j) a p u n = uses_set R j a p u n
uses_set (Some q ∷ R) (suc j) a p u n =
    let s : (q ≡ p → ⊥) × (uses R p ≡ false) = not_first q R p u in not_either q (set R j (Some a)) p s.0 (uses_set R j a p s.1 n)

pub ready_pair : (L : List PartColumn) (R : List (Option ℕ)) (C : List PartColumn) (i j : ℕ) → i < length L → length R ≡ length C → j < length R
    → uses R i ≡ false → is_none (get_or R j None) ≡ true → Leaves (at L i) (at C j) → Ready L R C → Ready L (set R j (Some i)) C
ready_pair L [] C i j h l k u z e r = tt
ready_pair L (p ∷ R) [] i j h l k u z e r = absurd (omega arith)
ready_pair L (None ∷ R) (c ∷ C) i zero h l k u z e r = (h, e, u, r)
ready_pair L (Some q ∷ R) (c ∷ C) i zero h l k u z e r = never (cc)
ready_pair L (None ∷ R) (c ∷ C) i (suc j) h l k u z e r = ready_pair L R C i j h (omega arith) (omega arith) u z e r
ready_pair L (Some q ∷ R) (c ∷ C) i (suc j) h l k u z e r =
    let n : (q ≡ i → ⊥) × (uses R i ≡ false) = not_first q R i u in (
      r.0,
      r.1,
      uses_set R j i q r.2 (λ s. n.0 (sym s)),
      ready_pair L R C i j h (omega arith) (omega arith) n.1 z e r.3,
    )

-- ---- the pairs
pub record Partners (P Q : Part) (R : List (Option ℕ)) : Type 0 where
  pub long : length R ≡ Q.columns
  pub ready : Ready (columns P) R (columns Q)

pub passed_next : (t : Bool) (why : Refusal) (next : Check) → or_next t why next ≡ Ok tt → (t ≡ true) × (next ≡ Ok tt)
passed_next true why next e = (refl, e)
passed_next false why next e = never (cc)

pub on_pair_lem : (c : Check) (R : List (Option ℕ)) (z : Matched) (S : List (Option ℕ)) → on_pair c R z ≡ matched (Ok tt) S
    → (c ≡ Ok tt) × (z ≡ matched (Ok tt) S)
on_pair_lem (Ok u) R z S e = (refl, e)
on_pair_lem (Err why) R z S e = let f : Err why ≡ Ok tt = λ i. (e i).found in never (cc)

-- the columns P and Q have as many lower bounds as columns
module _ (P Q : Part) (long_first : length P.lists.lower ≡ P.columns) (long_second : length Q.lists.lower ≡ Q.columns) where
  next_pair : (R : List (Option ℕ)) (a b : ℕ) → is_free (length P.lists.lower) (length Q.lists.lower) R a b ≡ true
      → leaves (bounds_of P) (bounds_of Q) (a - 1) (b - 1) ≡ true
      → Partners P Q R → Partners P Q (set R (b - 1) (Some (a - 1)))
  next_pair R a b f e s =
      let n : ℕ = length P.lists.lower in
      let m : ℕ = length Q.lists.lower in
      let x = both_true (is_column n a) (not (uses R (a - 1)) && (is_column m b && is_none (get_or R (b - 1) None))) f in
      let w = both_true (not (uses R (a - 1))) (is_column m b && is_none (get_or R (b - 1) None)) x.1 in
      let y = both_true (is_column m b) (is_none (get_or R (b - 1) None)) w.1 in
      let i : (1 ≤ a) × (a ≤ length P.lists.lower) = column_in_lem n a x.0 in
      let j : (1 ≤ b) × (b ≤ length Q.lists.lower) = column_in_lem m b y.0 in
      record {
        long = length-set R (b - 1) (Some (a - 1)) ∙ s.long;
        ready = ready_pair (columns P) R (columns Q) (a - 1) (b - 1) (omega (arith, length_columns P, i.0, i.1))
            (s.long ∙ sym (length_columns Q))
            (omega (arith, s.long, j.0, j.1)) (not-true (uses R (a - 1)) w.0) y.1
            (rw (at_columns P (a - 1) (omega (arith, i.0, i.1)), at_columns Q (b - 1) (omega (arith, j.0, j.1))) e) s.ready;
      }

  pub pair_up_ready : (ps : List ℕ) (R S : List (Option ℕ)) → Partners P Q R
      → pair_up (bounds_of P) (bounds_of Q) ps R ≡ matched (Ok tt) S → Partners P Q S
  unfolding pair_up pair_check
  pair_up_ready [] R S s e = subst (Partners P Q) (λ i. (e i).partners) s
  pair_up_ready (a ∷ []) R S s e = subst (Partners P Q) (λ i. (e i).partners) s
  pair_up_ready (a ∷ b ∷ ps) R S s e =
      let X = bounds_of P in
      let Y = bounds_of Q in
      let free : Bool = is_free (length P.lists.lower) (length Q.lists.lower) R a b in
      let left : Bool = leaves X Y (a - 1) (b - 1) in
      let t = on_pair_lem (pair_check X Y R a b) R (pair_up X Y ps (set R (b - 1) (Some (a - 1)))) S e in
      let u = passed_next free Pair (or_next left PairBounds (Ok tt)) t.0 in
      let v = passed_next left PairBounds (Ok tt) u.1 in
      pair_up_ready ps (set R (b - 1) (Some (a - 1))) S (next_pair R a b u.0 v.0 s) t.1

  pub pairs_ready : (ps : List ℕ) (S : List (Option ℕ)) → pair_up (bounds_of P) (bounds_of Q) ps (unpaired Q.columns) ≡ matched (Ok tt) S
      → Partners P Q S
  pairs_ready ps S e =
      pair_up_ready ps (unpaired Q.columns) S
      (record { long = length-replicate Q.columns None; ready = ready_none (columns P) Q.columns (columns Q) }) e
