-- Laws of wishes: settling reads none, and seating reads of each what its ideal comes to.
--   unwished C          the columns C with no wish
--   settle_unwished     settling, the next step and the part that is reached are theirs
--   seat_same           columns with the same ideals, at whatever values, are seated alike
-- Assumes nothing.
use Rattle.std.specs.Prelude.{None, Err}
use Rattle.problem.specs.declared.Refusal.TheVariants.{Seating}
use mathlib.Core.Path.{◌≡◌, refl, ◌∙◌, ap}
use mathlib.Core.Bool.{cond}
use mathlib.Core.List.{List, [], ◌∷◌}
use Prim.Native.Nat.{ℕ, zero, suc}
use lib.IntN.{ℤ, ◌-ℤ◌}
use Rattle.whole.specs.Lists.{entry}
use Rattle.whole.specs.Quotient.{nearest_quotient}
use Rattle.lattice.specs.Rows.{plus, lead}
use Rattle.problem.specs.Answers.{no_steps}
use Rattle.problem.specs.Limits.{any_beyond}
use Rattle.problem.specs.declared.Counts.{Counts}
use Rattle.problem.specs.declared.Verdict.TheVariants.{Spent}
use Rattle.settling.specs.Columns.{Columns}
use Rattle.settling.specs.Moves.{moved}
use Rattle.settling.specs.Seating.{ideal_at, seat_one, seat}
use Rattle.settling.specs.Settle.{ended, at_rest, counted, on_step, settle_from, settle}
use Rattle.settling.specs.Steps.{improves, step_at, step_of, part_of, next_step}

abbrev pub unwished : Columns → Columns
unwished C = record {
  count = C.count;
  column = λ j. record {
    lower = (C.column j).lower;
    upper = (C.column j).upper;
    low = (C.column j).low;
    high = (C.column j).high;
    wish = None;
  };
}

module _ (C : Columns) (N : List (List ℤ)) where
  pub next_unwished : (v : List ℤ) → next_step C N v ≡ next_step (unwished C) N v
  unfolding next_step step_of step_at improves
  next_unwished v = refl

  from_unwished : (g : ℕ) (k : Counts) (v : List ℤ) → settle_from g C N k v ≡ settle_from g (unwished C) N k v
  unfolding settle_from
  from_unwished zero k v = λ i. on_step (next_unwished v i) (ended (at_rest (part_of C v) k) v) (λ o. ended (Spent k) v)
  from_unwished (suc g) k v = λ i.
      on_step (next_unwished v i) (ended (at_rest (part_of C v) k) v)
      (λ o. from_unwished g (counted (part_of C v) k) (moved N o v) i)

  pub settle_unwished : (limit : ℕ) (v : List ℤ) → settle limit C N v ≡ settle limit (unwished C) N v
  unfolding settle
  settle_unwished limit v = from_unwished limit no_steps v

module _ (C D : Columns) (e : (v : List ℤ) (c : ℕ) → ideal_at C v c ≡ ideal_at D v c) where
  one_same : (r v : List ℤ) → seat_one C r v ≡ seat_one D r v
  unfolding seat_one
  one_same r v = ap (λ (x : ℤ). plus (nearest_quotient (x -ℤ entry (lead r) v) (entry (lead r) r)) r v) (e v (lead r))

  pub seat_same : (N : List (List ℤ)) (v : List ℤ) → seat C N v ≡ seat D N v
  unfolding seat
  seat_same [] v = refl
  seat_same (r ∷ N) v =
      (λ i. cond (any_beyond (one_same r v i)) (Err Seating) (seat C N (one_same r v i)))
      ∙ ap (cond (any_beyond (seat_one D r v)) (Err Seating)) (seat_same N (seat_one D r v))
