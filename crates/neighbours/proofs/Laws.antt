-- Laws of the reader's ideals.
--   any_row              a row passes a test, where not every one fails it
--   Summed t x k h s c   s is the sum of the numbers x of the columns from h to k that the test t admits, and c is how many they are; what is
--                        admitted lies within the limit of bounds, so the sum is small
--   summed_none          past the last column both are 0
--   summed_skip, -more   one column further up: it is not admitted, or it is
--   summed_all           from the first column on it is the whole mean
--   ideal_within         an ideal lies within the limit of bounds where the column's bounds do
--   numbers_length, -at how many numbers there are, and which stands at a place; numbers_all, a list that has them at each is that list
--   numbers_past        where the numbers are 0 from some column on, they are those before it and zeros
--   wish_past, -goal     nothing is handed in for a column past the intervals, nor for one with a goal
--   wish_plain           for a plain interval it is the mean
-- Assumes nothing.
use Rattle.std.specs.List.{list_any, list_all, range_with_len}
use Rattle.std.proofs.lemmas.List.FromFn.{length-range_with_len, get_or-range_with_len}
use Rattle.std.specs.Prelude.{None}
use mathlib.Core.Path.{◌≡◌, refl, sym, ◌∙◌, ap, subst}
use mathlib.Core.Bool.{Bool, true, false, not, cond, ◌||◌, ◌&&◌, and-false, true≢false}
use mathlib.Core.List.{List, [], ◌∷◌, ◌++◌}
use Prim.Native.Nat.{ℕ, zero, suc, ◌+◌, ◌*◌, ◌-◌, ◌<◌, ◌≤◌}
use native.Mathlib.Nat.{zero-add}
use native.Mathlib.Omega.{arith}
use borrow.Author.Tests.{lt-ltb, le-ltb, ltb-false}
use lib.Dec.{ltb}
use lib.IntN.{ℤ, pos, negsuc, nat_abs, ◌+ℤ◌}
use lib.Signed.{lt_z}
use lib.ListN.{length, get_or}
use lib.Seq.{ext_get_or}
use Rattle.whole.specs.Lists.{entry, zeros}
use Rattle.whole.specs.Tests.{is_zero, every}
use Rattle.whole.proofs.Counted.{every_list, every_same}
use Rattle.whole.proofs.Integers.{rep, diff_rel}
use Rattle.whole.proofs.Signed.{abs_add}
use Rattle.problem.specs.Limits.{max_bound}
use Rattle.goals.specs.Wishes.{into}
use Rattle.neighbours.specs.Neighbours.{Stated, ideal_of, chosen, total, mean, mean_by}
use Rattle.neighbours.specs.Neighbours.{neighbour_ideals, is_plain_interval, neighbour_wish, numbers_from}

-- ---- the rows, one after the other
any_all : (t : ℕ → Bool) (l : List ℕ) → list_any t l ≡ not (list_all (λ i. not (t i)) l)
any_all t [] = refl
any_all t (i ∷ l) = go (t i) (any_all t l)
  where
    go : (b : Bool) → list_any t l ≡ not (list_all (λ i. not (t i)) l) → b || list_any t l ≡ not (not b && list_all (λ i. not (t i)) l)
    go true e = refl
    go false e = e

pub any_row : (n : ℕ) (t : ℕ → Bool) → list_any t (range_with_len 0 n) ≡ not (every n (λ i. not (t i)))
any_row n t =
    any_all t (range_with_len 0 n)
    ∙ ap not (sym (every_list (λ i. not (t i)) 0 (range_with_len 0 n))
    ∙ ap (λ k. every k (λ i. not (t (get_or (range_with_len 0 n) i 0)))) (length-range_with_len 0 n)
    ∙ every_same n _ _ (λ i h. ap (λ k. not (t k)) (get_or-range_with_len 0 n i 0 h ∙ zero-add i)))

-- ---- the sum over the neighbours, from the last column up
pub record Summed (t : ℕ → Bool) (x : ℕ → ℤ) (k h : ℕ) (s : ℤ) (c : ℕ) : Type 0 where
  pub within : h ≤ k
  pub sum : s ≡ total (chosen t x (k - h) h)
  pub count : c ≡ length (chosen t x (k - h) h)
  pub few : c ≤ k - h
  pub small : nat_abs s ≤ c * max_bound

module _ (t : ℕ → Bool) (x : ℕ → ℤ) where
  none : (k : ℕ) → chosen t x (k - k) k ≡ []
  unfolding chosen
  none k = ap (λ (r : ℕ). chosen t x r k) {x = k - k} {y = 0} (omega arith)

  admitted : (k h : ℕ) → t h ≡ true → chosen t x (suc k) h ≡ x h ∷ chosen t x k (suc h)
  unfolding chosen
  admitted k h e = ap (λ (b : Bool). cond b (x h ∷ chosen t x k (suc h)) (chosen t x k (suc h))) e

  skipped : (k h : ℕ) → t h ≡ false → chosen t x (suc k) h ≡ chosen t x k (suc h)
  unfolding chosen
  skipped k h e = ap (λ (b : Bool). cond b (x h ∷ chosen t x k (suc h)) (chosen t x k (suc h))) e

  pub summed_none : (k : ℕ) → Summed t x k k (pos 0) 0
  unfolding total
  summed_none k = record {
    within = omega arith;
    sum = sym (ap total (none k));
    count = sym (ap length (none k));
    few = omega arith;
    small = omega arith;
  }

  -- one column more in front
  further : (k h : ℕ) → suc h ≤ k → k - h ≡ suc (k - suc h)
  further k h l = omega (arith, l)

  pub summed_skip : (k h : ℕ) (s : ℤ) (c : ℕ) → 0 < h → t (h - 1) ≡ false → Summed t x k h s c → Summed t x k (h - 1) s c
  summed_skip k zero s c p e z = absurd (omega arith)
  summed_skip k (suc h) s c p e z =
      let a : suc h - 1 ≡ h = omega arith in
      let l : chosen t x (k - h) h ≡ chosen t x (k - suc h) (suc h) =
      ap (λ (r : ℕ). chosen t x r h) (further k h z.within) ∙ skipped (k - suc h) h (subst (λ (i : ℕ). t i ≡ false) a e) in
      rw a (record {
        within = omega (arith, z.within);
        sum = z.sum ∙ sym (ap total l);
        count = z.count ∙ sym (ap length l);
        few = omega (arith, z.few);
        small = z.small;
      })

  add_first : (l : List ℤ) (y s : ℤ) → s ≡ total l → s +ℤ y ≡ total (y ∷ l)
  unfolding total
  add_first l y s e = ap (λ (u : ℤ). u +ℤ y) e ∙ rw (rep y, rep (total l)) (simp diff_rel (omega arith))

  pub summed_more : (k h : ℕ) (s : ℤ) (c : ℕ) → 0 < h → t (h - 1) ≡ true → nat_abs (x (h - 1)) ≤ max_bound
      → Summed t x k h s c → Summed t x k (h - 1) (s +ℤ x (h - 1)) (c + 1)
  summed_more k zero s c p e b z = absurd (omega arith)
  summed_more k (suc h) s c p e b z =
      let a : suc h - 1 ≡ h = omega arith in
      let l : chosen t x (k - h) h ≡ x h ∷ chosen t x (k - suc h) (suc h) =
      ap (λ (r : ℕ). chosen t x r h) (further k h z.within) ∙ admitted (k - suc h) h (subst (λ (i : ℕ). t i ≡ true) a e) in
      let b' : nat_abs (x h) ≤ max_bound = subst (λ (i : ℕ). nat_abs (x i) ≤ max_bound) a b in
      rw a (record {
        within = omega (arith, z.within);
        sum = add_first (chosen t x (k - suc h) (suc h)) (x h) s z.sum ∙ sym (ap total l);
        count = omega (arith, z.count, ap length l);
        few = omega (arith, z.few, z.within);
        small = omega (arith, z.small, b', abs_add s (x h));
      })

  pub summed_all : (k h : ℕ) (s : ℤ) (c : ℕ) → h ≡ 0 → Summed t x k h s c → mean_by s c ≡ mean (chosen t x k 0)
  summed_all k h s c e z =
      let l : chosen t x (k - h) h ≡ chosen t x k 0 = (λ i. chosen t x (k - e i) (e i)) ∙ ap (λ (r : ℕ). chosen t x r 0) (omega arith) in
      (λ i. mean_by ((z.sum ∙ ap total l) i) ((z.count ∙ ap length l) i))

-- ---- an ideal
upper_small : (k y : ℕ) (hi : ℤ) → nat_abs hi ≤ k → lt_z hi (pos y) ≡ false → y ≤ k
upper_small k y (pos h) b e = omega (arith, ltb-false h y e)
upper_small k y (negsuc h) b e = absurd (true≢false e)

into_small : (k y : ℕ) (lo hi : ℤ) → nat_abs lo ≤ k → nat_abs hi ≤ k → nat_abs (into lo hi (pos y)) ≤ k
into_small k y lo hi a b = pick (lt_z (pos y) lo) (lt_z hi (pos y)) refl
  where
    pick : (s t : Bool) → lt_z hi (pos y) ≡ t → nat_abs (cond s lo (cond t hi (pos y))) ≤ k
    pick true t e = a
    pick false true e = b
    pick false false e = upper_small k y hi b e

pub ideal_within : (S : Stated) (h : ℕ) → nat_abs (S.lower h) ≤ max_bound → nat_abs (S.upper h) ≤ max_bound → nat_abs (ideal_of S h) ≤ max_bound
ideal_within S h a b = into_small max_bound _ (S.lower h) (S.upper h) a b

pub ruleset mean_loop = (summed_none, summed_skip, summed_more, summed_all, ideal_within)

-- ---- what is handed in
module _ (S : Stated) (j : ℕ) where
  nothing : is_plain_interval S j ≡ false → neighbour_wish S j ≡ None
  unfolding neighbour_wish
  nothing e = ap (λ (b : Bool). cond b (mean (neighbour_ideals S j)) None) e

  pub wish_past : S.intervals ≤ j → neighbour_wish S j ≡ None
  wish_past h = nothing (ap (λ (b : Bool). b && is_zero (S.low j)) (le-ltb j S.intervals h))

  pub wish_goal : is_zero (S.low j) ≡ false → neighbour_wish S j ≡ None
  wish_goal e = nothing (ap (λ (b : Bool). ltb j S.intervals && b) e ∙ and-false (ltb j S.intervals))

  pub wish_plain : j < S.intervals → is_zero (S.low j) ≡ true → neighbour_wish S j ≡ mean (neighbour_ideals S j)
  unfolding neighbour_wish
  wish_plain h e = (λ i. cond (lt-ltb j S.intervals h i && e i) (mean (neighbour_ideals S j)) None)

-- ---- numbers by column
pub numbers_length : (f : ℕ → ℤ) (k j : ℕ) → length (numbers_from f k j) ≡ k
unfolding numbers_from
numbers_length f zero j = refl
numbers_length f (suc k) j = ap suc (numbers_length f k (suc j))

pub numbers_at : (f : ℕ → ℤ) (k j i s : ℕ) → i < k → s ≡ j + i → entry i (numbers_from f k j) ≡ f s
unfolding numbers_from
numbers_at f zero j i s h e = absurd (omega (arith, h))
numbers_at f (suc k) j zero s h e = ap f (omega (arith, e))
numbers_at f (suc k) j (suc i) s h e = numbers_at f k (suc j) i s (omega (arith, h)) (omega (arith, e))

-- a list that has them at each place is that list
pub numbers_all : (f : ℕ → ℤ) (k : ℕ) (l : List ℤ) → length l ≡ k → ((i : ℕ) → i < k → entry i l ≡ f i) → l ≡ numbers_from f k 0
numbers_all f k l h e =
    ext_get_or (pos 0) l (numbers_from f k 0) (h ∙ sym (numbers_length f k 0))
    (λ i m. e i (omega arith) ∙ sym (numbers_at f k 0 i i (omega arith) (omega arith)))

numbers_zeros : (f : ℕ → ℤ) (r j : ℕ) → ((i : ℕ) → j ≤ i → f i ≡ pos 0) → numbers_from f r j ≡ zeros r
unfolding numbers_from
numbers_zeros f zero j h = refl
numbers_zeros f (suc r) j h = (λ i. h j (omega arith) i ∷ numbers_zeros f r (suc j) (λ n l. h n (omega (arith, l))) i)

pub numbers_past : (f : ℕ → ℤ) (k r n j : ℕ) → n ≡ k + r → ((i : ℕ) → j + k ≤ i → f i ≡ pos 0) → numbers_from f n j ≡ numbers_from f k j ++ zeros r
unfolding numbers_from
numbers_past f zero r n j e h =
    ap (λ (m : ℕ). numbers_from f m j) {x = n} {y = r} (omega (arith, e)) ∙ numbers_zeros f r j (λ i l. h i (omega (arith, l)))
numbers_past f (suc k) r zero j e h = absurd (omega (arith, e))
numbers_past f (suc k) r (suc n) j e h =
    ap (λ (l : List ℤ). f j ∷ l) (numbers_past f k r n (suc j) (omega (arith, e)) (λ i l. h i (omega (arith, l))))
