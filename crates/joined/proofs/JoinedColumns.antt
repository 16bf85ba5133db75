-- The joined columns hold what each column of the two parts holds.
--   In c v              v lies in the column's bounds
--   Inside C x          each number of x lies in the bounds of its column
--   absorb_inside       a list lies in the joined bounds exactly when it lies in those of L and its share at the second's places in those of C
--   length_absorb       how many joined columns there are
--   inside_part         a list lies in a part's bounds
--   inside_take         the bounds of n columns look at n numbers
-- Assumes nothing.
use mathlib.Core.Path.{◌≡◌, refl, sym, ◌∙◌, subst}
use mathlib.Core.Logic.{◌↔◌, ⊎_elim}
use mathlib.Core.Bool.{Bool, true, false}
use mathlib.Core.List.{List, [], ◌∷◌, ◌++◌}
use Prim.Native.Nat.{ℕ, zero, suc, ◌+◌, ◌<◌, ◌≤◌}
use native.Mathlib.Nat.{eq-or-lt_of_le}
use native.Mathlib.Omega.{arith}
use borrow.Author.Tests.{eqb-true, eqb-false}
use lib.Dec.{eqb}
use lib.IntN.{ℤ, pos}
use lib.ListN.{length, set, take, length-append, length-set, get_or-append}
use lib.Seq.{get_or-set_same, get_or-set_other, get_or-append_seam, get_or-take}
use Rattle.std.specs.Prelude.{Option, Some, None}
use Rattle.whole.specs.Lists.{entry}
use Rattle.whole.specs.Tests.{in_range}
use Rattle.whole.proofs.Counted.{every_at, every_all}
use Rattle.pairing.specs.Parts.{Part, PartColumn, no_column, columns, at, in_bounds}
use Rattle.pairing.proofs.Orders.{in_both}
use Rattle.pairing.proofs.Partners.{length_columns, at_columns, Ready, ready_set, ready_append}
use Rattle.joined.specs.Columns.{shared, absorb, places_from, unshared}
use Rattle.joined.proofs.Filling.{unshared_alone, unshared_shared}
use Rattle.joined.specs.Joined.{second_share}

abbrev In : PartColumn → ℤ → Type 0
In c v = in_range c.lower c.upper v ≡ true

pub record Inside (C : List PartColumn) (x : List ℤ) : Type 0 where
  pub all : (j : ℕ) → j < length C → In (at C j) (entry j x)

-- ---- one column more behind, one put together with another, one before
inside_append : (L : List PartColumn) (c : PartColumn) (x : List ℤ) → Inside (L ++ (c ∷ [])) x ↔ (Inside L x × In c (entry (length L) x))
inside_append L c x = (
  (λ h. (
    record { all = λ j k. rw (get_or-append L (c ∷ []) no_column j k) at (h.all j (omega (arith, length-append L (c ∷ [])))) },
    rw (get_or-append_seam L c [] no_column) at (h.all (length L) (omega (arith, length-append L (c ∷ [])))),
  )),
  (λ h. record { all = λ j k. go h j (eqb j (length L)) refl (omega (arith, length-append L (c ∷ []))) }),
)
  where
    go : Inside L x × In c (entry (length L) x) → (j : ℕ) (t : Bool) → eqb j (length L) ≡ t → j ≤ length L → In (at (L ++ (c ∷ [])) j) (entry j x)
    go h j true e k = rw (eqb-true j (length L) e, get_or-append_seam L c [] no_column) h.1
    go h j false e k =
        let l : j < length L = ⊎_elim (λ p. absurd (eqb-false j (length L) e p)) (λ p. p) (eq-or-lt_of_le k) in
        rw (get_or-append L (c ∷ []) no_column j l) (h.0.all j l)

inside_set : (L : List PartColumn) (i : ℕ) (c : PartColumn) (x : List ℤ) → i < length L
    → Inside (set L i (shared (at L i) c)) x ↔ (Inside L x × In c (entry i x))
inside_set L i c x l = (
  (λ h. (record { all = λ j k. back h j (eqb j i) refl k }, (meets h).1)),
  (λ h. record { all = λ j k. go h j (eqb j i) refl (omega (arith, length-set L i d)) }),
)
  where
    d : PartColumn
    d = shared (at L i) c

    meets : Inside (set L i d) x → In (at L i) (entry i x) × In c (entry i x)
    meets h =
        (in_both (at L i).lower c.lower (at L i).upper c.upper (entry i x)).0
        (rw (get_or-set_same L i d no_column l) at (h.all i (omega (arith, length-set L i d))))

    back : Inside (set L i d) x → (j : ℕ) (t : Bool) → eqb j i ≡ t → j < length L → In (at L j) (entry j x)
    back h j true e k = rw (eqb-true j i e) (meets h).0
    back h j false e k = rw (get_or-set_other L i j d no_column (eqb-false j i e)) at (h.all j (omega (arith, length-set L i d)))

    go : Inside L x × In c (entry i x) → (j : ℕ) (t : Bool) → eqb j i ≡ t → j < length L → In (at (set L i d) j) (entry j x)
    go h j true e k =
        rw (eqb-true j i e, get_or-set_same L i d no_column l)
        ((in_both (at L i).lower c.lower (at L i).upper c.upper (entry i x)).1 (h.0.all i l, h.1))
    go h j false e k = rw (get_or-set_other L i j d no_column (eqb-false j i e)) (h.0.all j k)

inside_cons : (c : PartColumn) (C : List PartColumn) (v : ℤ) (x : List ℤ) → Inside (c ∷ C) (v ∷ x) ↔ (In c v × Inside C x)
inside_cons c C v x = (
  (λ h. (h.all 0 (omega arith), record { all = λ j k. h.all (suc j) (omega arith) })),
  (λ h. record { all = λ j k. go h j k }),
)
  where
    go : In c v × Inside C x → (j : ℕ) → j < length (c ∷ C) → In (at (c ∷ C) j) (entry j (v ∷ x))
    go h zero k = h.0
    go h (suc j) k = h.1.all j (omega arith)

-- ---- all columns
regroup : {A B C D E F : Type 0} → A ↔ (B × C) → B ↔ (D × E) → F ↔ (E × C) → A ↔ (D × F)
regroup f g k = (
  (λ a. ((g.0 (f.0 a).0).0, k.1 ((g.0 (f.0 a).0).1, (f.0 a).1))),
  (λ h. f.1 (g.1 (h.0, (k.0 h.1).0), (k.0 h.1).1)),
)

pub absorb_inside : (x : List ℤ) (k : ℕ) (L : List PartColumn) (R : List (Option ℕ)) (C : List PartColumn)
    → k ≡ length L → length R ≡ length C → Ready L R C
    → Inside (absorb L R C) x ↔ (Inside L x × Inside C (second_share (places_from k R) x))
unfolding absorb places_from
absorb_inside x k L [] [] e l r = ((λ h. (h, record { all = λ j n. absurd (omega arith) })), (λ h. h.0))
absorb_inside x k L [] (c ∷ C) e l r = absurd (omega arith)
absorb_inside x k L (p ∷ R) [] e l r = absurd (omega arith)
absorb_inside x k L (None ∷ R) (c ∷ C) e l r =
    regroup (absorb_inside x (suc k) (L ++ (c ∷ [])) R C (omega (arith, length-append L (c ∷ []))) (omega arith) (ready_append L R C (c ∷ []) r))
    (subst (λ (n : ℕ). Inside (L ++ (c ∷ [])) x ↔ (Inside L x × In c (entry n x))) (sym e) (inside_append L c x))
    (inside_cons c C (entry k x) (second_share (places_from (suc k) R) x))
absorb_inside x k L (Some i ∷ R) (c ∷ C) e l r =
    regroup (absorb_inside x k (set L i (shared (at L i) c)) R C (e ∙ sym (length-set L i (shared (at L i) c))) (omega arith)
    (ready_set L R C i (shared (at L i) c) r.2 r.3))
    (inside_set L i c x r.0)
    (inside_cons c C (entry i x) (second_share (places_from k R) x))

pub length_absorb : (L : List PartColumn) (R : List (Option ℕ)) (C : List PartColumn) → length R ≡ length C
    → length (absorb L R C) ≡ length L + unshared R
unfolding absorb
length_absorb L [] C l = omega arith
length_absorb L (p ∷ R) [] l = absurd (omega arith)
length_absorb L (None ∷ R) (c ∷ C) l = omega (arith, length_absorb (L ++ (c ∷ [])) R C (omega arith), length-append L (c ∷ []), unshared_alone R)
length_absorb L (Some i ∷ R) (c ∷ C) l =
    omega (arith, length_absorb (set L i (shared (at L i) c)) R C (omega arith), length-set L i (shared (at L i) c), unshared_shared i R)

-- ---- a part's bounds
pub inside_part : (P : Part) (x : List ℤ) → (in_bounds P x ≡ true) ↔ Inside (columns P) x
inside_part P x = (
  (λ e. record {
    all = λ j h.
        let k : j < P.columns = omega (arith, length_columns P) in
        rw (at_columns P j k) (every_at P.columns test j e k);
  }),
  (λ h. every_all P.columns test (λ j k. rw (at_columns P j k) at (h.all j (omega (arith, length_columns P))))),
)
  where
    test : ℕ → Bool
    test j = in_range (entry j P.lists.lower) (entry j P.lists.upper) (entry j x)

pub inside_take : (C : List PartColumn) (n : ℕ) (x : List ℤ) → length C ≤ n → Inside C (take n x) ↔ Inside C x
inside_take C n x l = (
  (λ h. record { all = λ j k. rw (get_or-take n x j (pos 0) (omega arith)) at (h.all j k) }),
  (λ h. record { all = λ j k. rw (get_or-take n x j (pos 0) (omega arith)) (h.all j k) }),
)
