-- What seating and settling keep.
--   Keeps Q N       adding a multiple of a vector of N to a list with the property Q leaves one with Q
--   seat_keeps      seating keeps such a property
--   settle_keeps    and so do the steps of settling
-- Assumes nothing.
use Rattle.std.specs.Prelude.{Ok, Err}
use Rattle.problem.specs.declared.Refusal.TheVariants.{Seating}
use mathlib.Core.Path.{◌≡◌, subst}
use mathlib.Core.Bool.{Bool, true, false, cond}
use mathlib.Core.List.{List, [], ◌∷◌}
use Prim.Native.Nat.{ℕ, zero, suc}
use lib.IntN.{ℤ}
use lib.ListN.{get_or}
use Rattle.whole.proofs.Never.{never}
use Rattle.lattice.specs.Rows.{plus}
use Rattle.lattice.specs.Span.{All}
use Rattle.problem.specs.Limits.{any_beyond}
use Rattle.problem.specs.declared.Counts.{Counts}
use Rattle.problem.specs.declared.Verdict.TheVariants.{Spent}
use Rattle.settling.specs.declared.Move.{Move}
use Rattle.settling.specs.declared.Step.{Step}
use Rattle.std.specs.Prelude.{Option, Some, None}
use Rattle.settling.specs.Columns.{Columns}
use Rattle.settling.specs.Seating.{seat_one, seat}
use Rattle.settling.specs.Moves.{vector, moved}
use Rattle.settling.specs.Steps.{part_of, next_step}
use Rattle.settling.specs.Settle.{ended, at_rest, counted, on_step, settle_from}

-- ---- what sums of vectors keep
pub record Keeps (Q : List ℤ → Type 0) (N : List (List ℤ)) : Type 0 where
  pub adds : (c : ℤ) (v : List ℤ) → Q v → All (λ (r : List ℤ). Q (plus c r v)) N

module _ (Q : List ℤ → Type 0) where
  keeps_rest : (r : List ℤ) (N : List (List ℤ)) → Keeps Q (r ∷ N) → Keeps Q N
  keeps_rest r N k = record { adds = λ c v q. (k.adds c v q).1 }

  module _ (C : Columns) where
    pub seat_keeps : (N : List (List ℤ)) (v u : List ℤ) → Keeps Q N → Q v → seat C N v ≡ Ok u → Q u
    unfolding seat seat_one
    seat_keeps [] v u k q e = subst Q (cc) q
    seat_keeps (r ∷ N) v u k q e = go (any_beyond (seat_one C r v)) e (seat_keeps N (seat_one C r v) u (keeps_rest r N k) (k.adds _ v q).0)
      where
        go : (t : Bool) → cond t (Err Seating) (seat C N (seat_one C r v)) ≡ Ok u → (seat C N (seat_one C r v) ≡ Ok u → Q u) → Q u
        go true e f = never (cc)
        go false e f = f e

  -- a vector of N, or none
  vector_keeps : (N : List (List ℤ)) (c : ℤ) (v : List ℤ) (s : ℕ) → Q v → All (λ (r : List ℤ). Q (plus c r v)) N → Q (plus c (get_or N s []) v)
  unfolding plus
  vector_keeps [] c v s q a = q
  vector_keeps (r ∷ N) c v zero q a = a.0
  vector_keeps (r ∷ N) c v (suc s) q a = vector_keeps N c v s q a.1

  module _ (C : Columns) (N : List (List ℤ)) (k : Keeps Q N) where
    moved_keeps : (o : Move) (v : List ℤ) → Q v → Q (moved N o v)
    unfolding moved
    moved_keeps o v q =
        let p : Q (plus o.a (vector N o.s) v) = vector_keeps N o.a v o.s q (k.adds o.a v q) in
        vector_keeps N o.b _ o.t p (k.adds o.b _ p)

    pub settle_keeps : (g : ℕ) (x : Counts) (v : List ℤ) → Q v → Q (settle_from g C N x v).values
    unfolding settle_from
    settle_keeps zero x v q = go (next_step C N v)
      where
        go : (z : Option Step) → Q (on_step z (ended (at_rest (part_of C v) x) v) (λ o. ended (Spent x) v)).values
        go None = q
        go (Some s) = q
    settle_keeps (suc g) x v q = go (next_step C N v) (λ o. settle_keeps g (counted (part_of C v) x) (moved N o v) (moved_keeps o v q))
      where
        go : (z : Option Step) → ((o : Move) → Q (settle_from g C N (counted (part_of C v) x) (moved N o v)).values)
            → Q (on_step z (ended (at_rest (part_of C v) x) v) (λ o. settle_from g C N (counted (part_of C v) x) (moved N o v))).values
        go None f = q
        go (Some s) f = f s.o
