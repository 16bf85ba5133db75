-- Laws of dot and sums: they are linear, in the list and in the row.
--   sums_plus          of v + c u: the sums of v, and c times those of u
--   sums_unit          of a unit list: one number of each row
--   sums_Zero          of zeros: zeros
--   length_sums        as many as rows
--   dot_row_plus       of the row a + c r: that of a, and c times that of r
--   dot_row_zeros      of a row of zeros: 0
--   dot_row_set        of a row in which c takes the place of a 0: c times the list's number there is added
--   satisfies_append   a list satisfies rows end to end exactly when it satisfies these and those
--   satisfies_zeros    right sides that are 0: every sum is 0
-- Assumes nothing.
use mathlib.Core.Path.{◌≡◌, refl, sym, ◌∙◌, ap, ap₂, subst}
use mathlib.Core.Logic.{◌↔◌}
use mathlib.Core.List.{List, [], ◌∷◌, ◌++◌, map}
use Prim.Native.Nat.{ℕ, zero, suc, ◌≤◌, ◌<◌}
use native.Mathlib.Omega.{arith}
use lib.ListN.{length, take, drop, set, length-map}
use lib.Seq.{take_at, drop_at}
use lib.IntN.{ℤ, pos, ◌+ℤ◌, ◌*ℤ◌, zero-*ℤ, *ℤ_comm}
use Rattle.whole.specs.Lists.{entry, zeros}
use Rattle.whole.proofs.Integers.{rep, diff_rel, add_none}
use Rattle.lattice.specs.Rows.{plus, unit, Zero}
use Rattle.lattice.specs.Sums.{dot, sums, Satisfies}
use Rattle.lattice.proofs.RowLaws.{Zero_zeros, zeros_Zero}
use Rattle.lattice.specs.Span.{All, Len}

dot_plus : (a : List ℤ) (c : ℤ) (u v : List ℤ) → length u ≡ length v → dot a (plus c u v) ≡ dot a v +ℤ c *ℤ dot a u
unfolding dot plus
dot_plus [] c u v l = sym (add_none c (pos 0) (pos 0) refl)
dot_plus (a ∷ r) c [] [] l = sym (add_none c (pos 0) (pos 0) refl)
dot_plus (a ∷ r) c [] (x ∷ v) l = absurd (omega arith)
dot_plus (a ∷ r) c (y ∷ u) [] l = absurd (omega arith)
dot_plus (a ∷ r) c (y ∷ u) (x ∷ v) l = ap (λ (t : ℤ). t +ℤ (x +ℤ c *ℤ y) *ℤ a) (dot_plus r c u v (omega arith)) ∙ regroup (dot r v) (dot r u)
  where
    regroup : (s t : ℤ) → s +ℤ c *ℤ t +ℤ (x +ℤ c *ℤ y) *ℤ a ≡ s +ℤ x *ℤ a +ℤ c *ℤ (t +ℤ y *ℤ a)
    regroup s t = rw (rep s, rep t, rep c, rep x, rep y, rep a) (simp diff_rel (omega arith))

dot_Zero : (a v : List ℤ) → Zero v → dot a v ≡ pos 0
unfolding dot
dot_Zero [] v z = refl
dot_Zero (a ∷ r) [] z = refl
dot_Zero (a ∷ r) (x ∷ v) z = ap₂ (λ (s y : ℤ). s +ℤ y *ℤ a) (dot_Zero r v z.1) z.0 ∙ ap (λ (s : ℤ). pos 0 +ℤ s) (zero-*ℤ a)

dot_unit : (a : List ℤ) (n j : ℕ) → length a ≤ n → dot a (unit n j) ≡ entry j a
unfolding dot
dot_unit [] n j l = refl
dot_unit (a ∷ r) zero j l = absurd (omega arith)
dot_unit (a ∷ r) (suc n) zero l = ap (λ (s : ℤ). s +ℤ pos 1 *ℤ a) (dot_Zero r (zeros n) (Zero_zeros n)) ∙ rw (rep a) (simp diff_rel (omega arith))
dot_unit (a ∷ r) (suc n) (suc j) l =
    ap₂ (λ (s t : ℤ). s +ℤ t) (dot_unit r n j (omega arith)) (zero-*ℤ a) ∙ rw (rep (entry j r)) (simp diff_rel (omega arith))

pub length_sums : (A : List (List ℤ)) (v : List ℤ) → length (sums A v) ≡ length A
unfolding sums
length_sums A v = length-map A (λ a. dot a v)

pub sums_plus : (A : List (List ℤ)) (c : ℤ) (u v : List ℤ) → length u ≡ length v → sums A (plus c u v) ≡ plus c (sums A u) (sums A v)
unfolding sums plus
sums_plus [] c u v l = refl
sums_plus (a ∷ A) c u v l = ap₂ ◌∷◌ (dot_plus a c u v l) (sums_plus A c u v l)

pub sums_unit : (A : List (List ℤ)) (n j : ℕ) → All (Len n) A → sums A (unit n j) ≡ map (entry j) A
unfolding sums
sums_unit [] n j w = refl
sums_unit (a ∷ A) n j w = ap₂ ◌∷◌ (dot_unit a n j (omega (arith, w.0))) (sums_unit A n j w.1)

pub sums_Zero : (A : List (List ℤ)) (v : List ℤ) → Zero v → Zero (sums A v)
unfolding sums
sums_Zero [] v z = tt
sums_Zero (a ∷ A) v z = (dot_Zero a v z, sums_Zero A v z)

-- ---- in the row as in the list: the two may change places
dot_comm : (a x : List ℤ) → dot a x ≡ dot x a
unfolding dot
dot_comm [] [] = refl
dot_comm [] (x ∷ v) = refl
dot_comm (a ∷ r) [] = refl
dot_comm (a ∷ r) (x ∷ v) = ap₂ ◌+ℤ◌ (dot_comm r v) (*ℤ_comm x a)

pub dot_row_plus : (c : ℤ) (r a x : List ℤ) → length r ≡ length a → dot (plus c r a) x ≡ dot a x +ℤ c *ℤ dot r x
dot_row_plus c r a x l = dot_comm (plus c r a) x ∙ dot_plus x c r a l ∙ ap₂ (λ (s t : ℤ). s +ℤ c *ℤ t) (dot_comm x a) (dot_comm x r)

pub dot_row_zeros : (n : ℕ) (x : List ℤ) → dot (zeros n) x ≡ pos 0
dot_row_zeros n x = dot_comm (zeros n) x ∙ dot_Zero x (zeros n) (Zero_zeros n)

pub dot_row_set : (a : List ℤ) (j : ℕ) (c : ℤ) (x : List ℤ) → j < length a → entry j a ≡ pos 0 → dot (set a j c) x ≡ dot a x +ℤ c *ℤ entry j x
unfolding dot
dot_row_set [] j c x h z = absurd (omega arith)
dot_row_set (a ∷ r) zero c [] h z = sym (add_none c (pos 0) (pos 0) refl)
dot_row_set (a ∷ r) (suc j) c [] h z = sym (add_none c (pos 0) (pos 0) refl)
dot_row_set (a ∷ r) zero c (x ∷ v) h z = rw z (turn (dot r v))
  where
    turn : (s : ℤ) → s +ℤ x *ℤ c ≡ s +ℤ x *ℤ pos 0 +ℤ c *ℤ x
    turn s = rw (rep s, rep x, rep c) (simp diff_rel (omega arith))
dot_row_set (a ∷ r) (suc j) c (x ∷ v) h z =
    ap (λ (s : ℤ). s +ℤ x *ℤ a) (dot_row_set r j c v (omega arith) z) ∙ turn (dot r v) (x *ℤ a) (c *ℤ entry j v)
  where
    turn : (s t u : ℤ) → s +ℤ u +ℤ t ≡ s +ℤ t +ℤ u
    turn s t u = rw (rep s, rep t, rep u) (simp diff_rel (omega arith))

-- ---- rows end to end
sums_append : (A B : List (List ℤ)) (x : List ℤ) → sums (A ++ B) x ≡ sums A x ++ sums B x
unfolding sums
sums_append [] B x = refl
sums_append (a ∷ A) B x = ap (λ (l : List ℤ). dot a x ∷ l) (sums_append A B x)

pub satisfies_append : (n : ℕ) (A B : List (List ℤ)) (b d x : List ℤ) → length b ≡ length A
    → Satisfies n (A ++ B) (b ++ d) x ↔ (Satisfies n A b x × Satisfies n B d x)
satisfies_append n A B b d x l = (
  (λ s.
      let e : sums A x ++ sums B x ≡ b ++ d = sym (sums_append A B x) ∙ s.keeps in (
        record { wide = s.wide; keeps = sym (take_at (sums A x) (sums B x) (length A) k) ∙ ap (take (length A)) e ∙ take_at b d (length A) l },
        record { wide = s.wide; keeps = sym (drop_at (sums A x) (sums B x) (length A) k) ∙ ap (drop (length A)) e ∙ drop_at b d (length A) l },
      )),
  (λ s. record { wide = s.0.wide; keeps = sums_append A B x ∙ ap₂ ◌++◌ s.0.keeps s.1.keeps }),
)
  where
    k : length (sums A x) ≡ length A
    k = length_sums A x

pub satisfies_zeros : (n : ℕ) (A : List (List ℤ)) (x : List ℤ) → length x ≡ n → Satisfies n A (zeros (length A)) x ↔ Zero (sums A x)
satisfies_zeros n A x l = (
  (λ s. subst Zero (sym s.keeps) (Zero_zeros (length A))),
  (λ z. record { wide = l; keeps = zeros_Zero (length A) (sums A x) (length_sums A x) z }),
)
