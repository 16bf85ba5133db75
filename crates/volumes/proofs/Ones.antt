-- Laws of the marks of a path, and of the row that two paths make.
--   entry_termed                what stands at a place once the terms of a path are placed
--   mark_on                     the mark of an interval tells whether it is on the path; marked_more, one more index
--   length_marks, length_less   how many marks a path has, and how many numbers marks less marks are
--   on_without, named_without   the indices of a path that are not on another
--   path_row                    path 1 less path k, as a row of n numbers; swept_row, from the marks of both
-- Assumes nothing.
use mathlib.Core.Path.{◌≡◌, refl, sym, ◌∙◌, ap, ap₂, subst}
use mathlib.Core.Bool.{Bool, true, false, cond, not, ◌&&◌, ◌||◌}
use mathlib.Core.List.{List, [], ◌∷◌, ◌++◌}
use Prim.Native.Nat.{ℕ, zero, suc, ◌-◌, ◌<◌}
use native.Mathlib.Omega.{arith}
use borrow.Author.Tests.{eqb-true, eqb-false}
use lib.Dec.{eqb}
use lib.IntN.{ℤ, pos, negsuc, ◌+ℤ◌, ◌*ℤ◌, ◌-ℤ◌}
use lib.ListN.{length, set, length-set, length-replicate, replicate, get_or}
use lib.Seq.{get_or-set_same, get_or-set_other, ext_get_or}
use Rattle.whole.specs.Lists.{entry, zeros}
use Rattle.whole.proofs.Lists.{entry_zeros}
use Rattle.lattice.specs.Rows.{minus}
use Rattle.lattice.proofs.RowLaws.{length_plus, entry_plus}
use Rattle.sections.specs.Sections.{deck_columns}
use Rattle.std.specs.Int.{from_bool}
use Rattle.sections.specs.StatedColumns.{placed}
use Rattle.sections.proofs.Storage.{length_placed, placed_two}
use Rattle.volumes.specs.Volumes.{SweepPath, is_on}
use Rattle.volumes.specs.PathLines.{without, terms_of, path_terms}
use Rattle.volumes.specs.VolumesRead.{Named, marked, no_marks, marks_of, less, later_row}

-- ---- the terms of a path, placed
same_both : (t : Bool) (c : ℤ) → cond t c c ≡ c
same_both true c = refl
same_both false c = refl

pub entry_termed : (c : ℤ) (p : SweepPath) (u : List ℤ) (n i : ℕ) → Named n p → i < length u
    → entry i (placed (terms_of c p) u) ≡ cond (is_on (suc i) p) c (entry i u)
unfolding placed terms_of is_on
entry_termed c [] u n i w h = refl
entry_termed c (j ∷ p) u n i w h =
    entry_termed c p (set u (j - 1) c) n i w.1 (omega (arith, length-set u (j - 1) c)) ∙ go (eqb j (suc i)) refl
  where
    go : (t : Bool) → eqb j (suc i) ≡ t
        → cond (is_on (suc i) p) c (entry i (set u (j - 1) c)) ≡ cond (t || is_on (suc i) p) c (entry i u)
    go true e =
        let k : j - 1 ≡ i = omega (arith, eqb-true j (suc i) e) in
        let f : entry i (set u (j - 1) c) ≡ c =
        ap (λ (k : ℕ). entry i (set u k c)) k ∙ get_or-set_same u i c (pos 0) h in
        ap (cond (is_on (suc i) p) c) f ∙ same_both (is_on (suc i) p) c
    go false e = ap (cond (is_on (suc i) p) c) (get_or-set_other u (j - 1) i c (pos 0) (λ f. eqb-false j (suc i) e (omega (arith, w.0.0))))

-- ---- the marks of a path
get_marked : (p : SweepPath) (u : List Bool) (n i : ℕ) → Named n p → i < length u
    → get_or (marked p u) i false ≡ (is_on (suc i) p || get_or u i false)
unfolding marked is_on
get_marked [] u n i w h = refl
get_marked (j ∷ p) u n i w h =
    get_marked p (set u (j - 1) true) n i w.1 (omega (arith, length-set u (j - 1) true)) ∙ go (is_on (suc i) p) (eqb j (suc i)) refl
  where
    go : (b t : Bool) → eqb j (suc i) ≡ t → (b || get_or (set u (j - 1) true) i false) ≡ ((t || b) || get_or u i false)
    go true true e = refl
    go true false e = refl
    go false true e =
        let k : j - 1 ≡ i = omega (arith, eqb-true j (suc i) e) in
        ap (λ (k : ℕ). get_or (set u k true) i false) k ∙ get_or-set_same u i true false h
    go false false e = get_or-set_other u (j - 1) i true false (λ f. eqb-false j (suc i) e (omega (arith, w.0.0)))

length_marked : (p : SweepPath) (u : List Bool) → length (marked p u) ≡ length u
unfolding marked
length_marked [] u = refl
length_marked (j ∷ p) u = length_marked p (set u (j - 1) true) ∙ length-set u (j - 1) true

length_none : length no_marks ≡ deck_columns
unfolding no_marks
length_none = refl

pub length_marks : (p : SweepPath) → length (marks_of p) ≡ deck_columns
length_marks p = length_marked p no_marks ∙ length_none

none_set : (n i : ℕ) → get_or (replicate n false) i false ≡ false
none_set zero i = refl
none_set (suc n) zero = refl
none_set (suc n) (suc i) = none_set n i

pub mark_on : (p : SweepPath) (n i : ℕ) → Named n p → i < deck_columns → get_or (marks_of p) i false ≡ is_on (suc i) p
unfolding no_marks
mark_on p n i w h =
    get_marked p no_marks n i w (omega (arith, length_none)) ∙ ap (λ (b : Bool). is_on (suc i) p || b) (none_set deck_columns i)
    ∙ none (is_on (suc i) p)
  where
    none : (b : Bool) → (b || false) ≡ b
    none true = refl
    none false = refl

pub marked_more : (p : SweepPath) (j : ℕ) (u : List Bool) → set (marked p u) (j - 1) true ≡ marked (p ++ (j ∷ [])) u
unfolding marked
marked_more [] j u = refl
marked_more (i ∷ p) j u = marked_more p j (set u (i - 1) true)

-- ---- marks less marks
pub length_less : (u v : List Bool) → length u ≡ length v → length (less u v) ≡ length u
unfolding less
length_less [] v h = refl
length_less (x ∷ u) [] h = absurd (omega arith)
length_less (x ∷ u) (y ∷ v) h = let e = length_less u v (omega arith) in omega arith

pub entry_less : (u v : List Bool) (i : ℕ) → i < length u → i < length v
    → entry i (less u v) ≡ pos (from_bool (get_or u i false)) -ℤ pos (from_bool (get_or v i false))
unfolding less
entry_less [] v i h k = absurd (omega arith)
entry_less (x ∷ u) [] i h k = absurd (omega arith)
entry_less (x ∷ u) (y ∷ v) zero h k = refl
entry_less (x ∷ u) (y ∷ v) (suc i) h k = entry_less u v i (omega arith) (omega arith)

-- ---- the terms of a path, placed in zeros
entry_path : (n : ℕ) (p : SweepPath) (k i : ℕ) → Named k p → i < n
    → entry i (placed (terms_of (pos 1) p) (zeros n)) ≡ cond (is_on (suc i) p) (pos 1) (pos 0)
entry_path n p k i w h =
    entry_termed (pos 1) p (zeros n) k i w (omega (arith, length-replicate n (pos 0))) ∙ ap (cond (is_on (suc i) p) (pos 1)) (entry_zeros i n)

-- ---- what is on one path alone
pub on_without : (j : ℕ) (q p : SweepPath) → is_on j (without q p) ≡ (is_on j p && not (is_on j q))
unfolding is_on without
on_without j q [] = refl
on_without j q (i ∷ p) = go (is_on i q) refl (eqb i j) refl (on_without j q p)
  where
    go : (t : Bool) → is_on i q ≡ t → (e : Bool) → eqb i j ≡ e → is_on j (without q p) ≡ (is_on j p && not (is_on j q))
        → is_on j (cond t (without q p) (i ∷ without q p)) ≡ ((e || is_on j p) && not (is_on j q))
    go true f true g h =
        let s : is_on j q ≡ true = subst (λ (k : ℕ). is_on k q ≡ true) (eqb-true i j g) f in
        h ∙ ap (λ (b : Bool). is_on j p && not b) s ∙ none (is_on j p) ∙ ap not (sym s)
      where
        none : (b : Bool) → (b && false) ≡ false
        none true = refl
        none false = refl
    go true f false g h = h
    go false f true g h =
        let s : is_on j q ≡ false = subst (λ (k : ℕ). is_on k q ≡ false) (eqb-true i j g) f in
        ap (λ (b : Bool). b || is_on j (without q p)) g ∙ ap not (sym s)
    go false f false g h = ap (λ (b : Bool). b || is_on j (without q p)) g ∙ h

pub named_without : (n : ℕ) (q p : SweepPath) → Named n p → Named n (without q p)
unfolding without
named_without n q [] w = tt
named_without n q (j ∷ p) w = go (is_on j q) (named_without n q p w.1)
  where
    go : (t : Bool) → Named n (without q p) → Named n (cond t (without q p) (j ∷ without q p))
    go true v = v
    go false v = (w.0, v)

-- ---- the row of two paths
module _ (n k : ℕ) (first p : SweepPath) (v : Named k first) (w : Named k p) where
  alone : (i : ℕ) → i < n
      → entry i (placed (path_terms first p) (zeros n))
      ≡ cond (is_on (suc i) p && not (is_on (suc i) first)) (negsuc 0) (cond (is_on (suc i) first && not (is_on (suc i) p)) (pos 1) (pos 0))
  alone i h =
      let a = without p first in
      let b = without first p in
      let u : List ℤ = placed (terms_of (pos 1) a) (zeros n) in
      let z = length-replicate n (pos 0) in
      let l = length_placed (terms_of (pos 1) a) (zeros n) in
      ap (entry i) (placed_two (terms_of (pos 1) a) (terms_of (negsuc 0) b) (zeros n))
      ∙ entry_termed (negsuc 0) b u k i (named_without k first p w) (omega (arith, l, z))
      ∙ ap₂ (λ (t : Bool) (x : ℤ). cond t (negsuc 0) x) (on_without (suc i) first p)
      (entry_termed (pos 1) a (zeros n) k i (named_without k p first v) (omega (arith, z))
      ∙ ap₂ (λ (t : Bool) (x : ℤ). cond t (pos 1) x) (on_without (suc i) p first) (entry_zeros i n))

  less_told : (f g : Bool)
      → cond (g && not f) (negsuc 0) (cond (f && not g) (pos 1) (pos 0)) ≡ cond f (pos 1) (pos 0) +ℤ negsuc 0 *ℤ cond g (pos 1) (pos 0)
  less_told true true = refl
  less_told true false = refl
  less_told false true = refl
  less_told false false = refl

  pub path_row : placed (path_terms first p) (zeros n) ≡ minus (placed (terms_of (pos 1) first) (zeros n)) (placed (terms_of (pos 1) p) (zeros n))
  path_row =
      let ours : List ℤ = placed (terms_of (pos 1) first) (zeros n) in
      let theirs : List ℤ = placed (terms_of (pos 1) p) (zeros n) in
      let z = length-replicate n (pos 0) in
      let l = length_placed (path_terms first p) (zeros n) in
      let o = length_placed (terms_of (pos 1) first) (zeros n) in
      ext_get_or (pos 0) (placed (path_terms first p) (zeros n)) (minus ours theirs) (l ∙ sym o ∙ sym (length_plus (negsuc 0) theirs ours))
      (λ i h. alone i (omega (arith, l, z)) ∙ less_told (is_on (suc i) first) (is_on (suc i) p)
      ∙ sym (entry_plus i (negsuc 0) theirs ours (omega (arith, l, o))
      ∙ ap₂ (λ (x y : ℤ). x +ℤ negsuc 0 *ℤ y) (entry_path n first k i v (omega (arith, l, z))) (entry_path n p k i w (omega (arith, l, z)))))

pub swept_row : (k : ℕ) (first p : SweepPath) → Named k first → Named k p
    → later_row (marks_of first) p ≡ placed (path_terms first p) (zeros deck_columns)
swept_row k first p v w =
    let n = deck_columns in
    let a = length_marks first in
    let b = length_marks p in
    let l = length_less (marks_of first) (marks_of p) (a ∙ sym b) in
    let z = length-replicate n (pos 0) in
    let q = length_placed (path_terms first p) (zeros n) in
    ext_get_or (pos 0) (later_row (marks_of first) p) (placed (path_terms first p) (zeros n)) (omega arith)
    (λ i h. entry_less (marks_of first) (marks_of p) i (omega arith) (omega arith)
    ∙ ap₂ (λ (x y : Bool). pos (from_bool x) -ℤ pos (from_bool y)) (mark_on first k i v (omega arith)) (mark_on p k i w (omega arith))
    ∙ told (is_on (suc i) first) (is_on (suc i) p) ∙ sym (alone n k first p v w i (omega arith)))
  where
    told : (f g : Bool)
        → pos (from_bool f) -ℤ pos (from_bool g) ≡ cond (g && not f) (negsuc 0) (cond (f && not g) (pos 1) (pos 0))
    told true true = refl
    told true false = refl
    told false true = refl
    told false false = refl
