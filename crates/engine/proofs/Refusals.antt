-- Refusals 7 and 8 of a whole assignment.
--   past_is_over        past the elimination limit is the mark of the rules' run; `not_over` where it is not past it
--   none_is_none        "none" is met exactly when the right side finds none
--   seat_refuses        seating refuses with 9 alone
--   none_exactly_when   "none" is given exactly when no list satisfies the rows, unless the problem is past the elimination limit
-- Assumes nothing.
use mathlib.Core.Path.{◌≡◌, refl, sym, ◌∙◌, ap}
use mathlib.Core.Logic.{◌↔◌}
use mathlib.Core.Bool.{Bool, true, false, cond, true≢false}
use mathlib.Core.List.{List, [], ◌∷◌}
use Prim.Native.Nat.{ℕ}
use native.Mathlib.Omega.{arith}
use lib.IntN.{ℤ}
use Rattle.problem.specs.Answers.{is_verdict}
use Rattle.problem.specs.Checks.{Posed}
use Rattle.problem.specs.declared.Refusal.TheVariants.{Elimination, NoWholeNumbers, Seating}
use Rattle.std.specs.Prelude.{Ok, Err}
use Rattle.tableau.specs.RightSide.{Found, none, some}
use Rattle.tableau.proofs.Theorems.{solve_none}
use Rattle.problem.specs.declared.Refusal.{Refusal}
use Rattle.problem.specs.Limits.{any_beyond}
use Rattle.whole.proofs.Never.{never}
use Rattle.settling.specs.Columns.{Columns}
use Rattle.settling.specs.Seating.{Seated, seat_one, seat}
use Rattle.engine.specs.Assign.{Buffers, Done, n, matrix, columns, over_limit, settle_on, on_seated, on_found, solved, assign}
use Rattle.engine.specs.Demand.{WithinLimits, PastLimit, IsNone}
use Rattle.engine.specs.Outcomes.{NoneExactlyWhen}
use Rattle.engine.proofs.Assigning.{within_sized, assign_passed}

seat_refuses : (C : Columns) (N : List (List ℤ)) (v : List ℤ) (why : Refusal) → seat C N v ≡ Err why → why ≡ Seating
unfolding seat
seat_refuses C [] v why e = never (cc)
seat_refuses C (r ∷ N) v why e = go (any_beyond (seat_one C r v)) e (seat_refuses C N (seat_one C r v) why)
  where
    go : (t : Bool) → cond t (Err Seating) (seat C N (seat_one C r v)) ≡ Err why → (seat C N (seat_one C r v) ≡ Err why → why ≡ Seating)
        → why ≡ Seating
    go true e f = cc
    go false e f = f e

module _ (P : Posed) (T : List (List ℤ)) (B : Buffers) where
  found_below : (f : Found) → (on_found P T B f).answer ≡ Err Elimination → ⊥
  unfolding settle_on
  found_below none e = let z : ◌≡◌ {A = ℕ} 8 7 = cc in omega arith
  found_below (some v N) e = go (seat (columns P) N v) refl e
    where
      go : (z : Seated) → seat (columns P) N v ≡ z → (on_seated P T N B z).answer ≡ Err Elimination → ⊥
      go (Err why) h e =
          let s : why ≡ Seating = seat_refuses (columns P) N v why h in
          let z : ◌≡◌ {A = ℕ} 9 7 = cc in
          omega arith
      go (Ok u) h e = true≢false (ap is_verdict e)

  found_none : (f : Found) → (on_found P T B f).answer ≡ Err NoWholeNumbers → f ≡ none
  unfolding settle_on
  found_none none e = refl
  found_none (some v N) e = absurd (go (seat (columns P) N v) refl e)
    where
      go : (z : Seated) → seat (columns P) N v ≡ z → (on_seated P T N B z).answer ≡ Err NoWholeNumbers → ⊥
      go (Err why) h e =
          let s : why ≡ Seating = seat_refuses (columns P) N v why h in
          let z : ◌≡◌ {A = ℕ} 9 8 = cc in
          omega arith
      go (Ok u) h e = true≢false (ap is_verdict e)

module _ (P : Posed) (B : Buffers) (w : WithinLimits P B) where
  pub past_is_over : PastLimit P B ↔ ((solved P).over ≡ true)
  past_is_over = (
    (λ e. go (solved P).over refl (sym (ap (λ (d : Done). d.answer) (assign_passed P B w.passed)) ∙ e)),
    (λ e. rw (assign_passed P B w.passed, e) refl),
  )
    where
      go : (t : Bool) → (solved P).over ≡ t → (cond t (over_limit B) (on_found P (solved P).form B (solved P).found)).answer ≡ Err Elimination
          → (solved P).over ≡ true
      go true e f = e
      go false e f = absurd (found_below P (solved P).form B (solved P).found f)

  pub not_over : (PastLimit P B → ⊥) → (solved P).over ≡ false
  not_over f = go (solved P).over refl
    where
      go : (t : Bool) → (solved P).over ≡ t → (solved P).over ≡ false
      go true e = absurd (f (past_is_over.1 e))
      go false e = e

  pub none_is_none : (PastLimit P B → ⊥) → IsNone P B ↔ ((solved P).found ≡ none)
  none_is_none f =
      let e : assign P B ≡ on_found P (solved P).form B (solved P).found = assign_passed P B w.passed ∙ rw (not_over f) refl in (
        (λ g. found_none P (solved P).form B (solved P).found (sym (ap (λ (d : Done). d.answer) e) ∙ g)),
        (λ g. ap (λ (d : Done). d.answer) e ∙ rw g refl),
      )

pub none_exactly_when : (P : Posed) (B : Buffers) → NoneExactlyWhen P B
none_exactly_when P B w = record {
  none = (
    (λ e. (below e, (solve_none (n P) (matrix P) P.rights (within_sized P B w)).0 ((none_is_none P B w (below e)).0 e))),
    (λ h. (none_is_none P B w h.0).1 ((solve_none (n P) (matrix P) P.rights (within_sized P B w)).1 h.1)),
  );
  past = past_is_over P B w;
}
  where
    -- the answer is one of the two
    below : IsNone P B → PastLimit P B → ⊥
    below e f = let z : ◌≡◌ {A = ℕ} 8 7 = cc in omega arith
