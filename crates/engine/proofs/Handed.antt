-- The ideals that are handed in: what they change, and what not.
--   causes_same     no cause looks at them but for their lengths
--   ideals_unread   Continue and the preview do the same with whatever ideals
--   ideals_used     whole assignments do the same where they are used alike
-- Assumes nothing.
use mathlib.Core.Path.{◌≡◌, refl, sym, ◌∙◌, ap}
use mathlib.Core.Bool.{Bool, true, false, cond}
use mathlib.Core.List.{List}
use Prim.Native.Nat.{ℕ}
use lib.IntN.{ℤ, pos, nat_abs}
use lib.ListN.{length}
use Rattle.whole.specs.Lists.{entry, zeros}
use Rattle.whole.specs.Tests.{is_zero}
use Rattle.lattice.specs.Rows.{flat}
use Rattle.problem.specs.Checks.{Posed, first_cause}
use Rattle.problem.specs.declared.Lent.{Lent}
use Rattle.problem.specs.declared.Refusal.TheVariants.{Elimination, Standing}
use Rattle.tableau.specs.RightSide.{Found, none, some, basis}
use Rattle.goals.specs.Ideals.{goal_ideal}
use Rattle.std.specs.Prelude.{Some, None, Ok, Err}
use Rattle.goals.specs.Wishes.{Wish}
use Rattle.goals.specs.Wishes.{into, wish_of, column_wish, ideal}
use Rattle.settling.specs.Seating.{ideal_at, Seated, seat}
use Rattle.settling.specs.Steps.{part_of, next_step}
use Rattle.settling.specs.Strides.{strides}
use Rattle.settling.proofs.Wishes.{next_unwished, settle_unwished, seat_same}
use Rattle.engine.specs.Assign.{Buffers, posed_by, n, m, columns, lent_of, rounds_of, refused, over_limit, settled, settle_on}
use Rattle.engine.specs.Assign.{on_check, on_seated, on_found, solved, assign, stands, formed, continue}
use Rattle.engine.specs.Demand.{handed_in}
use Rattle.engine.specs.Handed.{ButIdeals, brought_in, SameUse, IdealsUsed, IdealsUnread}
use Rattle.engine.specs.Preview.{shown, with_limit, lent_beside, unshown, on_cause, told, after, shown_on, preview}

-- ---- of a column
-- what an ideal comes to, of what is brought into the bounds
abbrev comes_to : ℤ → ℤ → ℤ → Wish → ℤ
comes_to lo hi x None = into lo hi x
comes_to lo hi x (Some y) = y

ideal_comes : (lo hi x : ℤ) (w : Wish) → ideal lo hi w x ≡ comes_to lo hi x (brought_in lo hi w)
unfolding ideal
ideal_comes lo hi x None = refl
ideal_comes lo hi x (Some y) = refl

-- without a goal what is handed in is used alike; with one it is not used
by_goal : (lo hi a b x : ℤ) (w z : Wish) → (is_zero a ≡ true → brought_in lo hi w ≡ brought_in lo hi z)
    → ideal lo hi (column_wish a b w) x ≡ ideal lo hi (column_wish a b z) x
by_goal lo hi a b x w z f = go (is_zero a) f
  where
    asked : Wish
    asked = Some (pos (goal_ideal (nat_abs a) (nat_abs b)))

    go : (t : Bool) → (t ≡ true → brought_in lo hi w ≡ brought_in lo hi z)
        → ideal lo hi (cond t w asked) x ≡ ideal lo hi (cond t z asked) x
    go true h = ideal_comes lo hi x w ∙ ap (comes_to lo hi x) (h refl) ∙ sym (ideal_comes lo hi x z)
    go false h = refl

-- ---- of a problem with other ideals of the same lengths
module _ (P : Posed) (ms xs : List ℤ) (l : length P.given ≡ length ms) (k : length P.ideals ≡ length xs) where
  abbrev other : Posed
  other = posed_by P.problem P.coefficients P.rights P.lower P.upper P.low P.high ms xs

  causes_same : (L : Lent) → first_cause P L ≡ first_cause other L
  unfolding first_cause
  causes_same L = rw (l, k) refl

  one_causes_same : (L : Lent) → first_cause (with_limit 1 P) L ≡ first_cause (with_limit 1 other) L
  unfolding first_cause
  one_causes_same L = rw (l, k) refl

  settled_same : (T N : List (List ℤ)) (v : List ℤ) → settle_on P T N v ≡ settle_on other T N v
  unfolding settle_on
  settled_same T N v =
      ap (settled (rounds_of P) T (strides (n P) N))
      (settle_unwished (columns P) N P.problem.limit v ∙ sym (settle_unwished (columns other) N P.problem.limit v))

  -- ---- Continue and the preview
  continue_same : (B : Buffers) → continue P B ≡ continue other B
  unfolding continue
  continue_same B = λ i.
      on_check (causes_same (lent_of B) i) B
      (cond (stands P B.values)
      (cond (formed P).over (over_limit B) (settled_same (formed P).table (basis (m P) (formed P).table) B.values i))
      (refused Standing B.tableau B))

  next_same : (N : List (List ℤ)) (v : List ℤ) → next_step (columns P) N v ≡ next_step (columns other) N v
  next_same N v = next_unwished (columns P) N v ∙ sym (next_unwished (columns other) N v)

  shown_same : (T N : List (List ℤ)) (v : List ℤ) → shown_on P T N v ≡ shown_on other T N v
  shown_same T N v = λ i.
      shown (Ok (told (part_of (columns P) v) (next_same N v i))) (rounds_of P) (flat T) (after N v (next_same N v i)) (strides (n P) N)

  preview_same : (v : List ℤ) (B : Buffers) → preview P v B ≡ preview other v B
  unfolding preview
  preview_same v B = λ i.
      on_cause (one_causes_same (lent_beside (n P) v B) i) B
      (cond (stands P v)
      (cond (formed P).over (unshown Elimination (zeros (length B.tableau)) B)
      (shown_same (formed P).table (basis (m P) (formed P).table) v i))
      (unshown Standing B.tableau B))

  -- ---- whole assignments
  module _ (u : SameUse P other) where
    same_ideal : (v : List ℤ) (c : ℕ) → ideal_at (columns P) v c ≡ ideal_at (columns other) v c
    same_ideal v c =
        by_goal (entry c P.lower) (entry c P.upper) (entry c P.low) (entry c P.high) (entry c v) (handed_in P c) (handed_in other c) (u c)

    seated_same : (T N : List (List ℤ)) (B : Buffers) (z : Seated) → on_seated P T N B z ≡ on_seated other T N B z
    seated_same T N B (Err why) = refl
    seated_same T N B (Ok v) = settled_same T N v

    found_same : (T : List (List ℤ)) (B : Buffers) (f : Found) → on_found P T B f ≡ on_found other T B f
    found_same T B none = refl
    found_same T B (some v N) =
        seated_same T N B (seat (columns P) N v) ∙ ap (on_seated other T N B) (seat_same (columns P) (columns other) same_ideal N v)

    assign_same : (B : Buffers) → assign P B ≡ assign other B
    unfolding assign
    assign_same B = λ i.
        on_check (causes_same (lent_of B) i) B (cond (solved P).over (over_limit B) (found_same (solved P).form B (solved P).found i))

-- ---- of two problems
-- a problem that differs in ideals alone is the one with the other's
is_other : (P Q : Posed) (s : ButIdeals P Q) → posed_by P.problem P.coefficients P.rights P.lower P.upper P.low P.high Q.given
    Q.ideals ≡ Q
is_other P Q s = λ i.
    posed_by (s.problem i) (s.coefficients i) (s.rights i) (s.lower i) (s.upper i) (s.low i) (s.high i) Q.given Q.ideals

pub ideals_unread : IdealsUnread
ideals_unread P Q s = record {
  continues = λ B. continue_same P Q.given Q.ideals s.given_long s.ideals_long B ∙ ap (λ (R : Posed). continue R B) (is_other P Q s);
  previews = λ v B. preview_same P Q.given Q.ideals s.given_long s.ideals_long v B ∙ ap (λ (R : Posed). preview R v B) (is_other P Q s);
}

pub ideals_used : IdealsUsed
ideals_used P Q s u B =
    assign_same P Q.given Q.ideals s.given_long s.ideals_long
    (λ j z. u j z
    ∙ sym (λ i. brought_in (entry j (s.lower i)) (entry j (s.upper i)) (wish_of (entry j Q.given) (entry j Q.ideals))))
    B
    ∙ ap (λ (R : Posed). assign R B) (is_other P Q s)
