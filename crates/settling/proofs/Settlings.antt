-- Settling, a step at a time.
--   listed-..              a listed move is of the basis
--   step_good              a step's move is of the basis, and leaves allowed values
--   Values n v             v has n numbers, each within ±M
--   taken_values           after a step its values are so; `taken_ready` and the lists are ready for the next one
--   settle_rest, -spent, -on   settling with g steps left, by what the next step is
--   counted_sum            the counts and the steps left stay within the limit
-- Assumes nothing.
use mathlib.Core.Path.{◌≡◌, refl, sym, ◌∙◌, ap, subst}
use mathlib.Core.Logic.{◌⊎◌, inl, inr, ⊎_elim}
use mathlib.Core.Bool.{true}
use mathlib.Core.List.{List, [], ◌∷◌, ◌++◌}
use Prim.Native.Nat.{ℕ, zero, suc, ◌+◌, ◌-◌, ◌<◌, ◌≤◌}
use native.Mathlib.Omega.{arith}
use borrow.Author.Tests.{eqb-true, ltb-false, not-true}
use lib.IntN.{ℤ, pos, negsuc, nat_abs}
use lib.ListN.{length, get_or-eq_default}
use Rattle.whole.specs.Lists.{entry}
use Rattle.problem.specs.Limits.{M, max_bound}
use Rattle.problem.specs.declared.Counts.{Counts}
use Rattle.problem.specs.declared.Verdict.TheVariants.{Spent}
use Rattle.settling.specs.declared.Basis.{Basis}
use Rattle.settling.specs.declared.Cell.{Cell}
use Rattle.settling.specs.declared.Move.{Move}
use Rattle.settling.specs.declared.Part.{Part}
use Rattle.settling.specs.declared.Part.TheVariants.{Bounds, Goals}
use Rattle.settling.specs.declared.Step.{Step}
use Rattle.std.specs.Prelude.{Option, Some, None}
use Rattle.settling.specs.declared.Column.{Column}
use Rattle.settling.specs.Columns.{Columns, cell, columns_in}
use Rattle.settling.proofs.Fronts.{lt_or_ge}
use Rattle.settling.specs.Measures.{distance}
use Rattle.settling.specs.Moves.{single, pair, sign_pairs, singles, pairs_with, pairs, moves, moved}
use Rattle.settling.specs.Steps.{step, part_of, is_allowed, next_step}
use Rattle.settling.specs.Settle.{ended, at_rest, counted, on_step, settle_from}
use Rattle.settling.specs.Verdicts.{Listed}
use Rattle.settling.proofs.Sizes.{inside_small}
use Rattle.settling.specs.Views.{vectors, OfBasis}
use Rattle.settling.proofs.Views.{rows_length, moved_length}
use Rattle.settling.specs.Ready.{Ready, FitColumn}
use Rattle.settling.proofs.Stepping.{next_taken, taken_allowed}

-- ---- the moves
abbrev AllOf : ℕ → List Move → Type 0
AllOf r R = (o : Move) → Listed o R → OfBasis r o

listed_append : (o : Move) (R S : List Move) → Listed o (R ++ S) → Listed o R ⊎ Listed o S
listed_append o [] S m = inr m
listed_append o (u ∷ R) S (inl e) = inl (inl e)
listed_append o (u ∷ R) S (inr m) = go (listed_append o R S m)
  where
    go : Listed o R ⊎ Listed o S → Listed o (u ∷ R) ⊎ Listed o S
    go (inl x) = inl (inr x)
    go (inr y) = inr y

all_append : (r : ℕ) (R S : List Move) → AllOf r R → AllOf r S → AllOf r (R ++ S)
all_append r R S a b o m = ⊎_elim (a o) (b o) (listed_append o R S m)

all_none : (r : ℕ) → AllOf r []
all_none r o m = absurd m

of_pair : (r s t : ℕ) (a b : ℤ) → s < r → t < r → nat_abs a ≤ 1 → nat_abs b ≤ 1 → (o : Move) → o ≡ pair s a t b → OfBasis r o
of_pair r s t a b h k x y o e = subst (OfBasis r) (sym e) (record { s = h; t = k; a = x; b = y })

-- +Ns and −Ns
abbrev signs : ℕ → List Move
signs s = single s (pos 1) ∷ single s (negsuc 0) ∷ []

listed_signs : (r s : ℕ) → s < r → AllOf r (signs s)
listed_signs r s h o (inl e) = of_pair r s s (pos 1) (pos 0) h h (omega arith) (omega arith) o e
listed_signs r s h o (inr (inl e)) = of_pair r s s (negsuc 0) (pos 0) h h (omega arith) (omega arith) o e
listed_signs r s h o (inr (inr m)) = absurd m

listed_pairs : (r s t : ℕ) → s < r → t < r → AllOf r (sign_pairs s t)
listed_pairs r s t h k o (inl e) = of_pair r s t (pos 1) (pos 1) h k (omega arith) (omega arith) o e
listed_pairs r s t h k o (inr (inl e)) = of_pair r s t (pos 1) (negsuc 0) h k (omega arith) (omega arith) o e
listed_pairs r s t h k o (inr (inr (inl e))) = of_pair r s t (negsuc 0) (pos 1) h k (omega arith) (omega arith) o e
listed_pairs r s t h k o (inr (inr (inr (inl e)))) = of_pair r s t (negsuc 0) (negsuc 0) h k (omega arith) (omega arith) o e
listed_pairs r s t h k o (inr (inr (inr (inr m)))) = absurd m

listed_singles : (r k s : ℕ) → s + k ≤ r → AllOf r (singles k s)
unfolding singles
listed_singles r zero s h = all_none r
listed_singles r (suc k) s h = all_append r (signs s) (singles k (suc s)) (listed_signs r s (omega arith)) (listed_singles r k (suc s) (omega arith))

listed_with : (r k s t : ℕ) → s < r → t + k ≤ r → AllOf r (pairs_with k s t)
unfolding pairs_with
listed_with r zero s t l h = all_none r
listed_with r (suc k) s t l h = all_append r (sign_pairs s t) (pairs_with k s (suc t)) (listed_pairs r s t l (omega arith))
    (listed_with r k s (suc t) l (omega arith))

listed_all : (r k s : ℕ) → s + k ≤ r → AllOf r (pairs k s)
unfolding pairs
listed_all r zero s h = all_none r
listed_all r (suc k) s h = all_append r (pairs_with k s (suc s)) (pairs k (suc s)) (listed_with r k s (suc s) (omega arith) (omega arith))
    (listed_all r k (suc s) (omega arith))

listed_moves : (r : ℕ) → AllOf r (moves r)
unfolding moves
listed_moves r = all_append r (singles r 0) (pairs r 0) (listed_singles r r 0 (omega arith)) (listed_all r r 0 (omega arith))

-- ---- a step's move
pub step_good : (C : Columns) (N : List (List ℤ)) (v : List ℤ) (i : ℕ) (o : Move) → next_step C N v ≡ Some (step i o)
    → OfBasis (length N) o × ((j : ℕ) → j < C.count → is_allowed (part_of C v) (cell C (moved N o v) j) ≡ true)
step_good C N v i o e =
    let t = next_taken C N v i o e in
    (listed_moves (length N) o t.listed, taken_allowed (part_of C v) C N v i o t)

-- ---- the values stay within ±M
allowed_near : (p : Part) (c : Cell) → nat_abs c.lower ≤ max_bound → nat_abs c.upper ≤ max_bound → is_allowed p c ≡ true → nat_abs c.value ≤ M
allowed_near Bounds c a b e = ltb-false M (nat_abs c.value) (not-true _ e)
allowed_near Goals c a b e = omega (arith, inside_small max_bound c a b (eqb-true (distance c) 0 e))

pub record Values (n : ℕ) (v : List ℤ) : Type 0 where
  pub long : length v ≡ n
  pub small : (j : ℕ) → nat_abs (entry j v) ≤ M

pub taken_values :
    (C : Columns) (N : List (List ℤ)) (v : List ℤ) (i : ℕ) (o : Move) → ((j : ℕ) → FitColumn (C.column j)) → length v ≡ C.count
    → next_step C N v ≡ Some (step i o) → Values C.count (moved N o v)
taken_values C N v i o f l e = record {
  long = moved_length N o v ∙ l;
  small = λ j. ⊎_elim (near j) (past j) (lt_or_ge j C.count);
}
  where
    near : (j : ℕ) → j < C.count → nat_abs (entry j (moved N o v)) ≤ M
    near j h = allowed_near (part_of C v) (cell C (moved N o v) j) (f j).lower (f j).upper ((step_good C N v i o e).1 j h)

    past : (j : ℕ) → C.count ≤ j → nat_abs (entry j (moved N o v)) ≤ M
    past j h = rw (get_or-eq_default (moved N o v) (pos 0) {n = j} (omega (arith, moved_length N o v, l))) (omega arith)

pub taken_ready :
    (B : Basis) (v : List ℤ) (t : List Column) (i : ℕ) (o : Move) → Ready B v t → next_step (columns_in B.columns t) (vectors B) v ≡ Some (step i o)
    → OfBasis B.vectors o × Ready B (moved (vectors B) o v) t
taken_ready B v t i o r e =
    let C = columns_in B.columns t in
    let u = taken_values C (vectors B) v i o r.columns r.values_long e in (
      subst (λ (k : ℕ). OfBasis k o) (rows_length B.vectors B.columns B.stride B.numbers.now) (step_good C (vectors B) v i o e).0,
      record {
        few = r.few;
        few_vectors = r.few_vectors;
        values_long = u.long;
        values_small = u.small;
        table_long = r.table_long;
        columns = r.columns;
      },
    )

-- ---- by what the next step is
module _ (C : Columns) (N : List (List ℤ)) (k : Counts) (v : List ℤ) where
  pub settle_rest : (g : ℕ) → next_step C N v ≡ None → settle_from g C N k v ≡ ended (at_rest (part_of C v) k) v
  unfolding settle_from
  settle_rest zero e = ap (λ (z : Option Step). on_step z (ended (at_rest (part_of C v) k) v) (λ o. ended (Spent k) v)) e
  settle_rest (suc g) e =
      ap (λ (z : Option Step). on_step z (ended (at_rest (part_of C v) k) v) (λ o. settle_from g C N (counted (part_of C v) k) (moved N o v))) e

  pub settle_spent : (g i : ℕ) (o : Move) → g ≡ 0 → next_step C N v ≡ Some (step i o) → settle_from g C N k v ≡ ended (Spent k) v
  unfolding settle_from
  settle_spent g i o h e =
      ap (λ (n : ℕ). settle_from n C N k v) h
      ∙ ap (λ (z : Option Step). on_step z (ended (at_rest (part_of C v) k) v) (λ u. ended (Spent k) v)) e

  pub settle_on_lem :
      (g i : ℕ) (o : Move) → (g ≡ 0 → ⊥) → next_step C N v ≡ Some (step i o)
      → settle_from g C N k v ≡ settle_from (g - 1) C N (counted (part_of C v) k) (moved N o v)
  unfolding settle_from
  settle_on_lem zero i o h e = absurd (h refl)
  settle_on_lem (suc g) i o h e =
      ap (λ (z : Option Step). on_step z (ended (at_rest (part_of C v) k) v) (λ u. settle_from g C N (counted (part_of C v) k) (moved N u v))) e
      ∙ ap (λ (n : ℕ). settle_from n C N (counted (part_of C v) k) (moved N o v)) down
    where
      down : g ≡ suc g - 1
      down = omega arith

-- the counts and what is left of the limit
pub counted_sum :
    (p : Part) (k : Counts) (g limit : ℕ) → k.bounds + k.goals + g ≤ limit → (g ≡ 0 → ⊥)
    → (counted p k).bounds + (counted p k).goals + (g - 1) ≤ limit
counted_sum Bounds k g limit h f = omega arith
counted_sum Goals k g limit h f = omega arith
