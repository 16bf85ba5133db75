-- Where the vectors of a basis lie in its slice, and what a move makes of the values.
--   rows_length         there are as many as the view says
--   vectors_is, -drop   vector s, and those from s on
--   vectors_at          the number at column j of vector s
--   vector_long, -small   it has a number for each column, none beyond ±M
--   moved_length, -at   the values after a move
--   moved_none, -alone  none where there are no columns; those of a move of one vector
--   plus_near           how large a value is after one vector
--   moving              these
-- Assumes nothing.
use mathlib.Core.Path.{◌≡◌, refl, sym, ◌∙◌, ap}
use mathlib.Core.Logic.{⊎_elim}
use mathlib.Core.List.{List, [], ◌∷◌}
use Prim.Native.Nat.{ℕ, zero, suc, ◌+◌, ◌*◌, ◌<◌, ◌≤◌}
use native.Mathlib.Omega.{arith}
use lib.IntN.{ℤ, pos, nat_abs, ◌+ℤ◌, ◌*ℤ◌, +ℤ_assoc}
use lib.ListN.{length, take, drop, length-take, length-drop, get_or-eq_default}
use lib.Seq.{get_or-drop, get_or-take, drop-cons, drop-drop}
use Rattle.whole.specs.Lists.{entry}
use Rattle.whole.proofs.Signed.{abs_add}
use Rattle.lattice.specs.Rows.{plus}
use Rattle.lattice.proofs.RowLaws.{length_plus, entry_plus, plus_none}
use Rattle.problem.specs.Limits.{M}
use Rattle.settling.specs.declared.Basis.{Basis}
use Rattle.settling.specs.declared.Move.{Move}
use Rattle.settling.specs.Moves.{vector, change, moved}
use Rattle.settling.proofs.Fronts.{lt_or_ge}
use Rattle.settling.proofs.Fitting.{unit_small}
use Rattle.settling.specs.Views.{rows_of, vectors}

-- ---- the vectors
pub rows_length : (r n w : ℕ) (l : List ℤ) → length (rows_of r n w l) ≡ r
unfolding rows_of
rows_length zero n w l = refl
rows_length (suc r) n w l = ap suc (rows_length r n w (drop w l))

rows_at : (r n w : ℕ) (l : List ℤ) (s j : ℕ) → s < r → j < n → entry j (vector (rows_of r n w l) s) ≡ entry (s * w + j) l
unfolding rows_of
rows_at zero n w l s j h k = absurd (omega arith)
rows_at (suc r) n w l zero j h k = get_or-take n l j (pos 0) k ∙ ap (λ (i : ℕ). entry i l) (omega arith)
rows_at (suc r) n w l (suc s) j h k =
    rows_at r n w (drop w l) s j (omega arith) k ∙ get_or-drop w l (s * w + j) (pos 0) ∙ ap (λ (i : ℕ). entry i l) (omega arith)

rows_vector : (r n w : ℕ) (l : List ℤ) (s : ℕ) → s < r → vector (rows_of r n w l) s ≡ take n (drop (s * w) l)
unfolding rows_of
rows_vector zero n w l s h = absurd (omega arith)
rows_vector (suc r) n w l zero h = ap (λ (k : ℕ). take n (drop k l)) none
  where
    none : 0 ≡ 0 * w
    none = omega arith
rows_vector (suc r) n w l (suc s) h =
    rows_vector r n w (drop w l) s (omega arith) ∙ ap (take n) (drop-drop (s * w) w l ∙ ap (λ (k : ℕ). drop k l) more)
  where
    more : w + s * w ≡ suc s * w
    more = omega arith

pub vectors_is : (B : Basis) (s : ℕ) → s < B.vectors → vector (vectors B) s ≡ take B.columns (drop (s * B.stride) B.numbers.now)
vectors_is B s h = rows_vector B.vectors B.columns B.stride B.numbers.now s h

-- the vectors from s on
pub vectors_drop : (B : Basis) (s : ℕ) → s < B.vectors → drop s (vectors B) ≡ vector (vectors B) s ∷ drop (suc s) (vectors B)
vectors_drop B s h = drop-cons (vectors B) s [] (omega (arith, rows_length B.vectors B.columns B.stride B.numbers.now))

pub vectors_at : (B : Basis) (s j : ℕ) → s < B.vectors → j < B.columns → entry j (vector (vectors B) s) ≡ entry (s * B.stride + j) B.numbers.now
vectors_at B s j h k = rows_at B.vectors B.columns B.stride B.numbers.now s j h k

-- ---- one vector
module _ (B : Basis) (s : ℕ) (h : s < B.vectors) where
  long : (n : ℕ) → ((j : ℕ) → j < n → s * B.stride + j < length B.numbers.now) → length (take n (drop (s * B.stride) B.numbers.now)) ≡ n
  long zero f = refl
  long (suc n) f =
      length-take (suc n) (drop (s * B.stride) B.numbers.now) ∙ omega (arith, length-drop (s * B.stride) B.numbers.now, f n (omega arith))

  pub vector_long : length (vector (vectors B) s) ≡ B.columns
  vector_long = ap length (vectors_is B s h) ∙ long B.columns (λ j k. B.laid.lies s j h k)

  -- past its end a row's numbers are 0
  pub vector_small : (j : ℕ) → nat_abs (entry j (vector (vectors B) s)) ≤ M
  vector_small j =
      ⊎_elim
      (λ g. rw (vectors_at B s j h g) (B.laid.small (s * B.stride + j)))
      (λ g. rw (get_or-eq_default (vector (vectors B) s) (pos 0) {n = j} (omega (arith, vector_long))) (omega arith))
      (lt_or_ge j B.columns)

-- ---- what a move does
pub moved_length : (N : List (List ℤ)) (o : Move) (v : List ℤ) → length (moved N o v) ≡ length v
unfolding moved
moved_length N o v =
    length_plus o.b (vector N o.t) (plus o.a (vector N o.s) v) ∙ length_plus o.a (vector N o.s) v

pub moved_at : (N : List (List ℤ)) (o : Move) (v : List ℤ) (j : ℕ) → j < length v → entry j (moved N o v) ≡ entry j v +ℤ change N o j
unfolding moved
moved_at N o v j h =
    entry_plus j o.b (vector N o.t) (plus o.a (vector N o.s) v) (omega (arith, length_plus o.a (vector N o.s) v))
    ∙ ap (λ (z : ℤ). z +ℤ o.b *ℤ entry j (vector N o.t)) (entry_plus j o.a (vector N o.s) v h)
    ∙ +ℤ_assoc (entry j v) (o.a *ℤ entry j (vector N o.s)) (o.b *ℤ entry j (vector N o.t))

-- without columns nothing is moved, and 0 times a vector changes nothing
pub moved_none : (N : List (List ℤ)) (o : Move) (v : List ℤ) → length v ≡ 0 → v ≡ moved N o v
moved_none N o v h = length_none v h ∙ sym (length_none (moved N o v) (moved_length N o v ∙ h))
  where
    length_none : (l : List ℤ) → length l ≡ 0 → l ≡ []
    length_none [] e = refl
    length_none (x ∷ l) e = absurd (omega arith)

pub moved_alone : (N : List (List ℤ)) (o : Move) (v : List ℤ) → o.b ≡ pos 0 → plus o.a (vector N o.s) v ≡ moved N o v
unfolding moved
moved_alone N o v e = sym (ap (λ (z : ℤ). plus z (vector N o.t) (plus o.a (vector N o.s) v)) e ∙ plus_none (vector N o.t) (plus o.a (vector N o.s) v))

pub plus_near : (a : ℤ) (r v : List ℤ) → nat_abs a ≤ 1 → ((j : ℕ) → nat_abs (entry j v) ≤ M) → ((j : ℕ) → nat_abs (entry j r) ≤ M)
    → (j : ℕ) → nat_abs (entry j (plus a r v)) ≤ 2 * M
plus_near a r v h f g j = ⊎_elim inside past (lt_or_ge j (length v))
  where
    inside : j < length v → nat_abs (entry j (plus a r v)) ≤ 2 * M
    inside l = rw (entry_plus j a r v l) (omega (arith, abs_add (entry j v) (a *ℤ entry j r), f j, unit_small a (entry j r) h (g j)))

    past : length v ≤ j → nat_abs (entry j (plus a r v)) ≤ 2 * M
    past l = rw (get_or-eq_default (plus a r v) (pos 0) {n = j} (omega (arith, length_plus a r v))) (omega arith)

pub ruleset moving = (moved_none, moved_alone, plus_near, length_plus)
