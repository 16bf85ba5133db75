-- How large the numbers of seating are, and how seating goes from vector to vector.
--   ideal_small             an ideal lies in bounds
--   gap_small               how large a gap is
--   gap_fits, gap_makes     what the machine makes of it
--   seat_end, -far, -on     seating from vector s on: no vector is left; an addition leaves a value beyond ±M; it does not
--   placeable, row-..       the lists, and each row of the basis, can be used for an addition; `still_seatable` and again after it
--   none_beyond             where none is found beyond ±M, each number lies within
-- Assumes nothing.
use Rattle.std.specs.Prelude.{Ok, Err}
use Rattle.problem.specs.declared.Refusal.TheVariants.{Seating}
use mathlib.Core.Path.{◌≡◌, refl, sym, ◌∙◌, ap}
use mathlib.Core.Bool.{Bool, true, false, cond, ◌||◌, true≢false}
use mathlib.Core.List.{List, [], ◌∷◌}
use Prim.Native.Nat.{ℕ, zero, suc, ◌+◌, ◌<◌, ◌≤◌}
use native.Mathlib.Omega.{arith}
use native.Mathlib.Numerals.{add-one}
use borrow.Author.Tests.{ltb-false}
use lib.IntN.{ℤ, nat_abs, ◌-ℤ◌}
use mir.Syntax.{w64}
use mir.Val.{SFits, to_z, of_z}
use lib.ListN.{length, drop, drop_of_length-le}
use lib.Signed.{lt_z}
use Rattle.whole.specs.Lists.{entry}
use Rattle.whole.proofs.Signed.{sfits_abs}
use Rattle.problem.specs.Limits.{M, max_bound, beyond, any_beyond}
use Rattle.settling.specs.declared.Basis.{Basis}
use Rattle.settling.specs.declared.Column.{Column}
use Rattle.settling.specs.Columns.{Columns}
use Rattle.goals.specs.Wishes.{Wish, into, wished, ideal}
use Rattle.settling.specs.Moves.{vector}
use Rattle.settling.specs.Seating.{ideal_at, gap_at, seat_one, seat}
use Rattle.settling.proofs.Machine.{read}
use Rattle.settling.proofs.Sizes.{between, abs_less}
use Rattle.settling.specs.Views.{vectors}
use Rattle.settling.proofs.Views.{rows_length, vectors_drop, vector_long, vector_small}
use Rattle.settling.specs.Ready.{FitColumn}
use Rattle.settling.specs.Seats.{Addable, Placeable, Seatable}

-- ---- sizes
pub ideal_small : (lo hi : ℤ) (w : Wish) (x : ℤ) → nat_abs lo ≤ max_bound → nat_abs hi ≤ max_bound → nat_abs (ideal lo hi w x) ≤ max_bound
unfolding ideal
ideal_small lo hi w x a b = go (wished w x)
  where
    go : (y : ℤ) → nat_abs (into lo hi y) ≤ max_bound
    go y = pick (lt_z y lo) (lt_z hi y) refl refl
      where
        pick : (s t : Bool) → lt_z y lo ≡ s → lt_z hi y ≡ t → nat_abs (cond s lo (cond t hi y)) ≤ max_bound
        pick true t e f = a
        pick false true e f = b
        pick false false e f = between max_bound lo hi y a b e f

pub gap_small : (C : Columns) (v : List ℤ) (c : ℕ) → FitColumn (C.column c) → nat_abs (entry c v) ≤ M → nat_abs (gap_at C v c) ≤ M + max_bound
gap_small C v c f h =
    omega (
      arith,
      abs_less (ideal_at C v c) (entry c v),
      ideal_small (C.column c).lower (C.column c).upper (C.column c).wish (entry c v)
          f.lower f.upper,
    )

-- as the machine makes it of the ideal y
module _ (lo hi : ℤ) (w : Wish) (x y : ℤ) (a : nat_abs lo ≤ max_bound) (b : nat_abs hi ≤ max_bound) (h : nat_abs x ≤ M)
    (e : y ≡ ideal (to_z w64 (of_z w64 lo)) (to_z w64 (of_z w64 hi)) w (to_z w64 (of_z w64 x))) where
  small : nat_abs (ideal lo hi w x) ≤ max_bound
  small = ideal_small lo hi w x a b

  is : to_z w64 (of_z w64 y) ≡ ideal lo hi w x
  is =
      let s = small in
      let f : y ≡ ideal lo hi w x =
      e ∙ (λ i. ideal (read lo (omega arith) i) (read hi (omega arith) i) w (read x (omega arith) i)) in
      ap (λ (z : ℤ). to_z w64 (of_z w64 z)) f ∙ read (ideal lo hi w x) (omega arith)

  gap : nat_abs (ideal lo hi w x -ℤ x) ≤ M + max_bound
  gap = omega (arith, abs_less (ideal lo hi w x) x, small)

  pub gap_fits : SFits w64 (to_z w64 (of_z w64 y) -ℤ to_z w64 (of_z w64 x))
  gap_fits = let g = gap in rw (is, read x (omega arith)) (sfits_abs _ (omega arith))

  pub gap_makes : to_z w64 (of_z w64 (to_z w64 (of_z w64 y) -ℤ to_z w64 (of_z w64 x))) ≡ ideal lo hi w x -ℤ x
  gap_makes = let g = gap in rw (is, read x (omega arith)) (read _ (omega arith))

-- ---- seating from vector s on
module _ (C : Columns) (B : Basis) (v : List ℤ) (s : ℕ) where
  pub seat_end : B.vectors ≤ s → seat C (drop s (vectors B)) v ≡ Ok v
  unfolding seat
  seat_end h =
      ap (λ (N : List (List ℤ)). seat C N v) (drop_of_length-le (vectors B) {i = s}
      (omega (arith, rows_length B.vectors B.columns B.stride B.numbers.now)))

  step : s < B.vectors → seat C (drop s (vectors B)) v ≡ seat C (vector (vectors B) s ∷ drop (suc s) (vectors B)) v
  step h = ap (λ (N : List (List ℤ)). seat C N v) (vectors_drop B s h)

  pub seat_far : s < B.vectors → any_beyond (seat_one C (vector (vectors B) s) v) ≡ true → seat C (drop s (vectors B)) v ≡ Err Seating
  unfolding seat
  seat_far h e = step h ∙ ap (λ (t : Bool). cond t (Err Seating) (seat C (drop (suc s) (vectors B)) (seat_one C (vector (vectors B) s) v))) e

  pub seat_on :
      s < B.vectors → any_beyond (seat_one C (vector (vectors B) s) v) ≡ false
      → seat C (drop s (vectors B)) v ≡ seat C (drop (s + 1) (vectors B)) (seat_one C (vector (vectors B) s) v)
  unfolding seat
  seat_on h e =
      step h ∙ ap (λ (t : Bool). cond t (Err Seating) (seat C (drop (suc s) (vectors B)) (seat_one C (vector (vectors B) s) v))) e
      ∙ ap (λ (k : ℕ). seat C (drop k (vectors B)) (seat_one C (vector (vectors B) s) v)) (sym (add-one s))

-- ---- where none is found beyond ±M, each number lies within
pub none_beyond : (r : List ℤ) → any_beyond r ≡ false → (j : ℕ) → nat_abs (entry j r) ≤ M
unfolding any_beyond
none_beyond [] e j = omega arith
none_beyond (x ∷ r) e j = go (beyond x) refl e j (none_beyond r)
  where
    go :
        (t : Bool) → beyond x ≡ t → (t || any_beyond r) ≡ false → (j : ℕ) → (any_beyond r ≡ false → (j : ℕ) → nat_abs (entry j r) ≤ M)
        → nat_abs (entry j (x ∷ r)) ≤ M
    go true f g j ih = absurd (true≢false g)
    go false f g zero ih = ltb-false M (nat_abs x) f
    go false f g (suc j) ih = ih g j

-- ---- the rows of a basis that can be seated
module _ (B : Basis) (v : List ℤ) (t : List Column) (q : Seatable B v t) where
  pub placeable : Placeable v t
  placeable =
      let r = q.ready in
      record { table_long = r.table_long ∙ sym r.values_long; values_small = r.values_small; columns = r.columns }

  -- after an addition that left no value beyond ±M
  pub still_seatable : (u : List ℤ) → length u ≡ length v → any_beyond u ≡ false → Seatable B u t
  still_seatable u h e =
      let r = q.ready in
      record {
        ready = record {
          few = r.few;
          few_vectors = r.few_vectors;
          values_long = h ∙ r.values_long;
          values_small = none_beyond u e;
          table_long = r.table_long;
          columns = r.columns;
        };
        led = q.led;
        rises = q.rises;
      }

  module _ (s : ℕ) (h : s < B.vectors) where
    abbrev row : List ℤ
    row = vector (vectors B) s

    pub row_columns : 0 < B.columns
    row_columns = omega (arith, (q.led s h).inside, vector_long B s h)

    pub row_addable : Addable v row
    row_addable = record {
      long = vector_long B s h ∙ sym q.ready.values_long;
      values_small = q.ready.values_small;
      row_small = vector_small B s h;
    }
