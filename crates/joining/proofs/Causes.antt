-- What turns a join back, test by test, and what is then left.
--   first_fails, second_fails, odd_fails, pair_fails   the cause at each test, after those before it passed
--   past_pairs        past them it is what is found of the joined problem
--   join_refused      what is left where there is a cause
--   join_made         what is left where there is none
-- Assumes nothing.
use mathlib.Core.Path.{◌≡◌, refl, sym, ◌∙◌, ap}
use mathlib.Core.Bool.{true, false}
use mathlib.Core.List.{List}
use Prim.Native.Nat.{ℕ, ◌+◌, ◌%◌}
use lib.Dec.{eqb}
use lib.ListN.{length}
use Rattle.problem.specs.declared.Refusal.{Refusal}
use Rattle.problem.specs.declared.Refusal.TheVariants.{Length}
use Rattle.problem.specs.Checks.{Check}
use Rattle.std.specs.Prelude.{Ok, Err}
use Rattle.pairing.specs.Parts.{Lists, Part, part_cause}
use Rattle.joined.specs.Columns.{joined_count}
use Rattle.joined.specs.Joined.{joined}
use Rattle.joining.specs.Join.{Joining, pairing, partners, joined_sizes, room_cause, join_cause, left, left_by, join}

module _ (P Q : Part) (ps : List ℕ) (B : Lists) where
  pub join_refused : {r : Joining} {why : Refusal} → r ≡ Err why → join_cause P Q ps B ≡ Err why → left r B ≡ join P Q ps B
  unfolding join
  join_refused a e = ap (λ (r : Joining). left r B) a ∙ sym (ap (λ (c : Check). left_by c (joined P Q (partners P Q ps)) B) e)

  pub join_made : join_cause P Q ps B ≡ Ok tt
      → left (Ok (record { columns = joined_count P (partners P Q ps); rows = P.rows + Q.rows })) (joined P Q (partners P Q ps)).lists
      ≡ join P Q ps B
  unfolding join joined
  join_made e = sym (ap (λ (c : Check). left_by c (joined P Q (partners P Q ps)) B) e)

  pub first_fails : {why : Refusal} → part_cause P ≡ Err why → join_cause P Q ps B ≡ Err why
  unfolding join_cause
  first_fails e = rw e

  -- the first part passes
  module _ (p : part_cause P ≡ Ok tt) where
    pub second_fails : {why : Refusal} → part_cause Q ≡ Err why → join_cause P Q ps B ≡ Err why
    unfolding join_cause
    second_fails e = rw (p, e)

    -- and the second
    module _ (q : part_cause Q ≡ Ok tt) where
      pub odd_fails : eqb (length ps % 2) 0 ≡ false → join_cause P Q ps B ≡ Err Length
      unfolding join_cause
      odd_fails e = rw (p, q, e)

      -- and the pairs are even in number
      module _ (l : eqb (length ps % 2) 0 ≡ true) where
        pub pair_fails : {why : Refusal} → (pairing P Q ps).found ≡ Err why → join_cause P Q ps B ≡ Err why
        unfolding join_cause
        pair_fails e = rw (p, q, l, e)

        -- and none is refused: what is found of the joined problem
        pub past_pairs : (pairing P Q ps).found ≡ Ok tt → join_cause P Q ps B ≡ room_cause (joined_sizes P Q (partners P Q ps)) B
        unfolding join_cause
        past_pairs f = rw (p, q, l, f) refl
