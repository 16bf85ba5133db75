-- How large the numbers are that seating and settling leave.
--   seat_values     a list within ±M is seated within ±M
--   settle_values   settling leaves its values within ±M
--   total k         the steps of both parts; settle-steps, they are within the limit
--   strides_small   no stride is above M, where no number of the basis lies beyond ±M
-- Assumes nothing.
use Rattle.std.specs.Prelude.{Ok, Err}
use Rattle.problem.specs.declared.Refusal.TheVariants.{Seating}
use mathlib.Core.Path.{◌≡◌, refl, ◌∙◌, subst}
use mathlib.Core.Bool.{Bool, true, false, cond}
use mathlib.Core.List.{List, [], ◌∷◌}
use Prim.Native.Nat.{ℕ, zero, suc, ◌+◌, ◌≤◌}
use native.Mathlib.Omega.{arith}
use lib.IntN.{ℤ, nat_abs}
use lib.ListN.{length, get_or}
use Rattle.whole.specs.Lists.{entry}
use Rattle.whole.proofs.Euclid.{divisor_most}
use Rattle.lattice.proofs.RowLaws.{length_plus}
use Rattle.lattice.specs.Span.{All}
use Rattle.problem.specs.Limits.{M, any_beyond}
use Rattle.problem.specs.Answers.{verdict_counts}
use Rattle.problem.specs.declared.Counts.{Counts}
use Rattle.problem.specs.declared.Verdict.TheVariants.{Spent}
use Rattle.settling.specs.declared.Move.{Move}
use Rattle.settling.specs.declared.Part.{Part}
use Rattle.settling.specs.declared.Part.TheVariants.{Bounds, Goals}
use Rattle.settling.specs.declared.Step.{Step}
use Rattle.std.specs.Prelude.{Option, Some, None}
use Rattle.settling.specs.Columns.{Columns}
use Rattle.settling.specs.Seating.{seat_one, seat}
use Rattle.settling.proofs.Seats.{none_beyond}
use Rattle.settling.specs.Moves.{moved}
use Rattle.settling.specs.Steps.{step, part_of, next_step}
use Rattle.settling.specs.Settle.{ended, at_rest, counted, on_step, settle_from}
use Rattle.settling.specs.Strides.{stride, strides_from, strides}
use Rattle.settling.specs.Ready.{FitColumn}
use Rattle.settling.proofs.Settlings.{Values, taken_values, counted_sum}
use Rattle.whole.proofs.Never.{never}

-- ---- seating
seated_one : (C : Columns) (n : ℕ) (r v : List ℤ) → length v ≡ n → any_beyond (seat_one C r v) ≡ false → Values n (seat_one C r v)
unfolding seat_one
seated_one C n r v l e = record { long = length_plus _ r v ∙ l; small = none_beyond (seat_one C r v) e }

pub seat_values : (C : Columns) (n : ℕ) (N : List (List ℤ)) (v u : List ℤ) → Values n v → seat C N v ≡ Ok u → Values n u
unfolding seat
seat_values C n [] v u a e = subst (Values n) (cc) a
seat_values C n (r ∷ N) v u a e = go (any_beyond (seat_one C r v)) refl e (seat_values C n N (seat_one C r v) u)
  where
    go : (t : Bool) → any_beyond (seat_one C r v) ≡ t → cond t (Err Seating) (seat C N (seat_one C r v)) ≡ Ok u
        → (Values n (seat_one C r v) → seat C N (seat_one C r v) ≡ Ok u → Values n u) → Values n u
    go true h e f = never (cc)
    go false h e f = f (seated_one C n r v a.long h) e

-- ---- settling
-- the steps of both parts
abbrev pub total : Counts → ℕ
total k = k.bounds + k.goals

rest_steps : (p : Part) (k : Counts) (limit : ℕ) → total k ≤ limit → total (verdict_counts (at_rest p k)) ≤ limit
rest_steps Bounds k limit h = h
rest_steps Goals k limit h = h

module _ (C : Columns) (N : List (List ℤ)) where
  pub settle_values : ((j : ℕ) → FitColumn (C.column j)) → (g : ℕ) (k : Counts) (v : List ℤ) → Values C.count v
      → Values C.count (settle_from g C N k v).values
  unfolding settle_from
  settle_values f zero k v a = go (next_step C N v)
    where
      go : (z : Option Step) → Values C.count (on_step z (ended (at_rest (part_of C v) k) v) (λ o. ended (Spent k) v)).values
      go None = a
      go (Some s) = a
  settle_values f (suc g) k v a =
      go (next_step C N v) refl (λ i o e. settle_values f g (counted (part_of C v) k) (moved N o v) (taken_values C N v i o f a.long e))
    where
      go : (z : Option Step) → next_step C N v ≡ z
          → ((i : ℕ) (o : Move) → next_step C N v ≡ Some (step i o)
          → Values C.count (settle_from g C N (counted (part_of C v) k) (moved N o v)).values)
          → Values C.count (on_step z (ended (at_rest (part_of C v) k) v) (λ o. settle_from g C N (counted (part_of C v) k) (moved N o v))).values
      go None e ih = a
      go (Some s) e ih = ih s.column s.o e

  pub settle_steps : (g limit : ℕ) (k : Counts) (v : List ℤ) → total k + g ≤ limit → total (verdict_counts (settle_from g C N k v).verdict) ≤ limit
  unfolding settle_from
  settle_steps zero limit k v h = go (next_step C N v)
    where
      go : (z : Option Step) → total (verdict_counts (on_step z (ended (at_rest (part_of C v) k) v) (λ o. ended (Spent k) v)).verdict) ≤ limit
      go None = rest_steps (part_of C v) k limit (omega arith)
      go (Some s) = omega arith
  settle_steps (suc g) limit k v h =
      let d = counted_sum (part_of C v) k (suc g) limit h (λ e. omega arith) in
      go (next_step C N v) (λ o. settle_steps g limit (counted (part_of C v) k) (moved N o v) (omega arith))
    where
      go : (z : Option Step) → ((o : Move) → total (verdict_counts (settle_from g C N (counted (part_of C v) k) (moved N o v)).verdict) ≤ limit)
          → total (verdict_counts
          (on_step z (ended (at_rest (part_of C v) k) v) (λ o. settle_from g C N (counted (part_of C v) k) (moved N o v))).verdict)
          ≤ limit
      go None ih = rest_steps (part_of C v) k limit (omega arith)
      go (Some s) ih = ih s.o

-- ---- strides
stride_small : (N : List (List ℤ)) (j : ℕ) → All (λ (r : List ℤ). any_beyond r ≡ false) N → stride N j ≤ M
unfolding stride
stride_small [] j a = omega arith
stride_small (r ∷ N) j a = divisor_most M (nat_abs (entry j r)) (stride N j) (none_beyond r a.0 j) (stride_small N j a.1)

strides_from_lem : (N : List (List ℤ)) (k j : ℕ) → All (λ (r : List ℤ). any_beyond r ≡ false) N → (x : ℕ) → get_or (strides_from N k j) x 0 ≤ M
unfolding strides_from
strides_from_lem N zero j a x = omega arith
strides_from_lem N (suc k) j a zero = stride_small N j a
strides_from_lem N (suc k) j a (suc x) = strides_from_lem N k (suc j) a x

pub strides_small : (n : ℕ) (N : List (List ℤ)) → All (λ (r : List ℤ). any_beyond r ≡ false) N → (x : ℕ) → get_or (strides n N) x 0 ≤ M
strides_small n N a x = strides_from_lem N n 0 a x
