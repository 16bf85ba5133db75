-- Lists in a strict weak order: which is lower, what sorting keeps, and when a sorted list is lower.
--   lower_at             a lower list has a place where it is lower, and differs nowhere before
--   lower_self, -after   no list is lower than itself; one that is lower than a lower one is lower
--   count lt t L         how many elements of L are not below t
--   sorted_length, -each, -down, -count   a sorted list has the elements of the list, none of them below a later one
--   Fewer q L K          K has no more elements than L from any proper t on that is not below q, and fewer from q on
--   fewer_lower          then, where L is sorted and K as long, K is lower
--   Falls lt q b L K     from L to K each element stays as it is, or is then below q; with b one that was q is so
--   falls_lower          where a list falls, it is lower once sorted
-- An element that sinks below q may still rise, so that no induction place by place works: elements are counted instead.
-- Assumes nothing.
use mathlib.Core.Path.{◌≡◌, refl, sym, ◌∙◌, ap}
use mathlib.Core.Bool.{Bool, true, false, cond, false≢true}
use mathlib.Core.List.{List, [], ◌∷◌}
use Prim.Native.Nat.{ℕ, zero, suc, ◌+◌, ◌<◌, ◌≤◌}
use native.Mathlib.Omega.{arith}
use lib.ListN.{length, get_or}
use Rattle.settling.specs.Rankings.{Each, Down}
use Rattle.settling.specs.Steps.{insert}
use Rattle.settling.proofs.Orders.{Weak, self, under_past, alike, back, past_under, strict}
use Rattle.settling.proofs.Insertion.{each_insert, insert_down}
use Rattle.runs.specs.Sorted.{above, sorted, lower, LowerAt}

lower_at : {A : Type 0} (lt : A → A → Bool) (d : A) (K L : List A) → lower lt K L ≡ true → LowerAt lt d K L
unfolding lower
lower_at lt d [] L e = absurd (false≢true e)
lower_at lt d (x ∷ K) [] e = absurd (false≢true e)
lower_at lt d (x ∷ K) (y ∷ L) e = go (lt x y) (lt y x) refl refl e (lower_at lt d K L)
  where
    go : (s t : Bool) → lt x y ≡ s → lt y x ≡ t → cond s true (cond t false (lower lt K L)) ≡ true → (lower lt K L ≡ true → LowerAt lt d K L)
        → LowerAt lt d (x ∷ K) (y ∷ L)
    go true t f g e ih = record { place = 0; inside = (omega arith, omega arith); before = λ i h. absurd (omega arith); there = f }
    go false true f g e ih = absurd (false≢true e)
    go false false f g e ih =
        let r = ih e in
        record { place = suc r.place; inside = (omega (arith, r.inside.0), omega (arith, r.inside.1)); before = past r; there = r.there }
      where
        past : (r : LowerAt lt d K L) (i : ℕ) → i < suc r.place
            → (lt (get_or (x ∷ K) i d) (get_or (y ∷ L) i d) ≡ false) × (lt (get_or (y ∷ L) i d) (get_or (x ∷ K) i d) ≡ false)
        past r zero h = (f, g)
        past r (suc i) h = r.before i (omega arith)

-- ---- sorting keeps the elements
module _ {A : Type 0} (lt : A → A → Bool) where
  abbrev weight : A → A → ℕ
  weight t x = cond (lt x t) 0 1

  unfoldable pub count : A → List A → ℕ
  count t [] = 0
  count t (x ∷ L) = weight t x + count t L

  insert_count : (t x : A) (L : List A) → count t (insert (above lt) x L) ≡ weight t x + count t L
  unfolding insert count
  insert_count t x [] = refl
  insert_count t x (y ∷ L) = go (above lt y x) (insert_count t x L)
    where
      go : (s : Bool) → count t (insert (above lt) x L) ≡ weight t x + count t L
          → count t (cond s (y ∷ insert (above lt) x L) (x ∷ y ∷ L)) ≡ weight t x + (weight t y + count t L)
      go true e = omega (arith, e)
      go false e = refl

  pub sorted_count : (t : A) (L : List A) → count t (sorted lt L) ≡ count t L
  unfolding sorted count
  sorted_count t [] = refl
  sorted_count t (x ∷ L) = omega (arith, insert_count t x (sorted lt L), sorted_count t L)

  insert_length : (x : A) (L : List A) → length (insert (above lt) x L) ≡ suc (length L)
  unfolding insert
  insert_length x [] = refl
  insert_length x (y ∷ L) = go (above lt y x) (insert_length x L)
    where
      go : (s : Bool) → length (insert (above lt) x L) ≡ suc (length L)
          → length (cond s (y ∷ insert (above lt) x L) (x ∷ y ∷ L)) ≡ suc (suc (length L))
      go true e = ap suc e
      go false e = refl

  pub sorted_length : (L : List A) → length (sorted lt L) ≡ length L
  unfolding sorted
  sorted_length [] = refl
  sorted_length (x ∷ L) = insert_length x (sorted lt L) ∙ ap suc (sorted_length L)

  pub sorted_each : (Q : A → Type 0) (L : List A) → Each Q L → Each Q (sorted lt L)
  unfolding sorted
  sorted_each Q [] a = tt
  sorted_each Q (x ∷ L) a = each_insert Q (above lt) x (sorted lt L) a.0 (sorted_each Q L a.1)

pub data Falls {A : Type 0} (lt : A → A → Bool) (q : A) : Bool → List A → List A → Type 0 where
  none : Falls lt q false [] []
  stays : {b : Bool} {L K : List A} (x y : A) → x ≡ y → Falls lt q b L K → Falls lt q b (x ∷ L) (y ∷ K)
  sinks : {b : Bool} {L K : List A} (x y : A) → lt y q ≡ true → Falls lt q b L K → Falls lt q b (x ∷ L) (y ∷ K)
  first : {b : Bool} {L K : List A} (x y : A) → x ≡ q → lt y q ≡ true → Falls lt q b L K → Falls lt q true (x ∷ L) (y ∷ K)

module _ {A : Type 0} {Proper : A → Type 0} {lt : A → A → Bool} (w : Weak Proper lt) where
  -- ---- lower
  pub lower_self : (L : List A) → lower lt L L ≡ false
  unfolding lower
  lower_self [] = refl
  lower_self (x ∷ L) = rw (self w x) (lower_self L)

  pub lower_after : (J K L : List A) → Each Proper J → Each Proper K → Each Proper L → lower lt J K ≡ true → lower lt K L ≡ true → lower lt J L ≡ true
  unfolding lower
  lower_after [] K L a b c e f = absurd (false≢true e)
  lower_after (x ∷ J) [] L a b c e f = absurd (false≢true e)
  lower_after (x ∷ J) (y ∷ K) [] a b c e f = absurd (false≢true f)
  lower_after (x ∷ J) (y ∷ K) (z ∷ L) a b c e f =
      go (lt x y) (lt y x) (lt y z) (lt z y) refl refl refl refl e f (lower_after J K L a.1 b.1 c.1)
    where
      go : (s s' t t' : Bool) → lt x y ≡ s → lt y x ≡ s' → lt y z ≡ t → lt z y ≡ t' → cond s true (cond s' false (lower lt J K)) ≡ true
          → cond t true (cond t' false (lower lt K L)) ≡ true → (lower lt J K ≡ true → lower lt K L ≡ true → lower lt J L ≡ true)
          → cond (lt x z) true (cond (lt z x) false (lower lt J L)) ≡ true
      go true s' true t' h h' g g' e f ih = rw (under_past w x y z c.0 h (w.asym y z g))
      go true s' false true h h' g g' e f ih = absurd (false≢true f)
      go true s' false false h h' g g' e f ih = rw (under_past w x y z c.0 h g')
      go false true t t' h h' g g' e f ih = absurd (false≢true e)
      go false false true t' h h' g g' e f ih = rw (past_under w x y z a.0 h' g)
      go false false false true h h' g g' e f ih = absurd (false≢true f)
      go false false false false h h' g g' e f ih = rw (w.past x y z b.0 h g, w.past z y x b.0 g' h') (ih e f)

  -- ---- none below a later one
  pub sorted_down : (L : List A) → Each Proper L → Down (above lt) (sorted lt L)
  unfolding sorted
  sorted_down [] a = tt
  sorted_down (x ∷ L) a = insert_down (strict (back w)) x (sorted lt L) a.0 (sorted_each lt Proper L a.1) (sorted_down L a.1)

  -- ---- of two lists so ordered, the one that has fewer elements from q on
  count_none : (u s : A) (L : List A) → lt s u ≡ true → Each Proper L → Each (λ z. lt s z ≡ false) L → count lt u L ≡ 0
  unfolding count
  count_none u s [] e a d = refl
  count_none u s (z ∷ L) e a d = rw (past_under w z s u a.0 d.0 e) (omega (arith, count_none u s L e a.1 d.1))

  pub record Fewer (q : A) (L K : List A) : Type 0 where
    pub some : count lt q K < count lt q L
    pub all : (t : A) → Proper t → lt t q ≡ false → count lt t K ≤ count lt t L

  fewer_rest : (q s t : A) (L K : List A) → Proper s → Proper t → lt s t ≡ false → lt t s ≡ false → Fewer q (s ∷ L) (t ∷ K) → Fewer q L K
  unfolding count
  fewer_rest q s t L K p r e f h = record {
    some = omega (arith, h.some, same q);
    all = λ u v g. omega (arith, h.all u v g, same u);
  }
    where
      same : (u : A) → weight lt u s ≡ weight lt u t
      same u = ap (λ (b : Bool). cond b 0 1) (alike w s t u p r e f)

  -- the count of K's first element shows that it is not above L's
  not_above : (q s t : A) (L K : List A) → Proper q → Proper t → Each Proper L → Each (λ z. lt s z ≡ false) L → Fewer q (s ∷ L) (t ∷ K)
      → lt s t ≡ true → ⊥
  unfolding count
  not_above q s t L K p r a d h e = go (lt t q) refl
    where
      no_more : (u : A) → lt s u ≡ true → weight lt u s + count lt u L ≡ 0
      no_more u f = rw f (omega (arith, count_none u s L f a d))

      one : weight lt t t ≡ 1
      one = ap (λ (b : Bool). cond b 0 1) (self w t)

      go : (b : Bool) → lt t q ≡ b → ⊥
      go true f = omega (arith, h.some, no_more q (under_past w s t q p e (w.asym t q f)))
      go false f = omega (arith, h.all t r f, no_more t e, one)

  fewer_lower : (q : A) (L K : List A) → Proper q → Each Proper L → Each Proper K → Down (above lt) L → length K ≡ length L → Fewer q L K
      → lower lt K L ≡ true
  unfolding lower count
  fewer_lower q [] K p a b d e h = absurd (omega (arith, h.some))
  fewer_lower q (s ∷ L) [] p a b d e h = absurd (omega (arith, e))
  fewer_lower q (s ∷ L) (t ∷ K) p a b d e h = go (lt t s) (lt s t) refl refl (λ f g.
      fewer_lower q L K p a.1 b.1 d.1 (omega (arith, e)) (fewer_rest q s t L K a.0 b.0 f g h))
    where
      go : (x y : Bool) → lt t s ≡ x → lt s t ≡ y → (lt s t ≡ false → lt t s ≡ false → lower lt K L ≡ true)
          → cond x true (cond y false (lower lt K L)) ≡ true
      go true y f g ih = refl
      go false true f g ih = absurd (not_above q s t L K p b.0 a.1 d.0 h g)
      go false false f g ih = ih g f

  -- ---- a list that falls
  falls_length : (q : A) (b : Bool) (L K : List A) → Falls lt q b L K → length K ≡ length L
  falls_length q b L K none = refl
  falls_length q b L K (stays {L = L'} {K = K'} x y e f) = ap suc (falls_length q b L' K' f)
  falls_length q b L K (sinks {L = L'} {K = K'} x y l f) = ap suc (falls_length q b L' K' f)
  falls_length q b L K (first {b = b'} {L = L'} {K = K'} x y e l f) = ap suc (falls_length q b' L' K' f)

  falls_all : (q t : A) (b : Bool) (L K : List A) → Proper t → lt t q ≡ false → Falls lt q b L K → count lt t K ≤ count lt t L
  unfolding count
  falls_all q t b L K p h none = omega arith
  falls_all q t b L K p h (stays {L = L'} {K = K'} x y e f) = rw e (omega (arith, falls_all q t b L' K' p h f))
  falls_all q t b L K p h (sinks {L = L'} {K = K'} x y l f) = rw (under_past w y q t p l h) (omega (arith, falls_all q t b L' K' p h f))
  falls_all q t b L K p h (first {b = b'} {L = L'} {K = K'} x y e l f) = rw (under_past w y q t p l h) (omega (arith, falls_all q t b' L' K' p h f))

  falls_some : (q : A) (b : Bool) (L K : List A) → Proper q → Falls lt q b L K → b ≡ true → count lt q K < count lt q L
  unfolding count
  falls_some q b L K p none g = absurd (false≢true g)
  falls_some q b L K p (stays {L = L'} {K = K'} x y e f) g = rw e (omega (arith, falls_some q b L' K' p f g))
  falls_some q b L K p (sinks {L = L'} {K = K'} x y l f) g = rw l (omega (arith, falls_some q b L' K' p f g))
  falls_some q b L K p (first {b = b'} {L = L'} {K = K'} x y e l f) g = rw (l, e, self w q) (omega (arith, falls_all q q b' L' K' p (self w q) f))

  pub falls_lower : (q : A) (L K : List A) → Proper q → Each Proper L → Each Proper K → Falls lt q true L K
      → lower lt (sorted lt K) (sorted lt L) ≡ true
  falls_lower q L K p a b f =
      fewer_lower q (sorted lt L) (sorted lt K) p (sorted_each lt Proper L a) (sorted_each lt Proper K b) (sorted_down L a)
      (sorted_length lt K ∙ falls_length q true L K f ∙ sym (sorted_length lt L))
      (record {
        some = omega (arith, sorted_count lt q L, sorted_count lt q K, falls_some q true L K p f refl);
        all = λ t r e. omega (arith, sorted_count lt t L, sorted_count lt t K, falls_all q t true L K r e f);
      })
