-- The rounds that a call returns.
--   is_shown x        a preview is not refused
--   Counted P L t k   of a call that has returned k rounds, t saying that it is not refused: 0 with a refusal, and else those of the tableau, the
--                     checks with the lengths L having passed and the form not being past the limit
--   assign_counted, continue_counted, preview_counted   so it is of each call
--   rounds_refused    a refusal returns 0 rounds
--   rounds_returned   without one the rounds of the tableau are returned
--   rounds_ceiling    at most 31 × n are, in any case
-- Assumes nothing.
use mathlib.Core.Path.{◌≡◌, refl, sym, ◌∙◌, ap, subst}
use mathlib.Core.Bool.{Bool, true, false, cond, true≢false}
use mathlib.Core.List.{List}
use Prim.Native.Nat.{ℕ, ◌≤◌}
use native.Mathlib.Omega.{arith}
use lib.IntN.{ℤ}
use lib.ListN.{length}
use Rattle.whole.specs.Lists.{zeros}
use Rattle.whole.proofs.Never.{untrue}
use Rattle.whole.proofs.Tests.{both_true}
use Rattle.lattice.specs.Span.{All}
use Rattle.problem.specs.Answers.{is_verdict}
use Rattle.problem.specs.Limits.{max_coefficient, max_right}
use Rattle.problem.specs.Checks.{Posed, all_span, first_cause}
use Rattle.problem.proofs.CheckLaws.{Passes, passes, fits}
use Rattle.problem.specs.declared.Lent.{Lent}
use Rattle.problem.specs.declared.Refusal.{Refusal}
use Rattle.problem.specs.declared.Refusal.TheVariants.{Elimination, Standing}
use Rattle.problem.specs.Checks.{Check}
use Rattle.std.specs.Prelude.{Ok, Err}
use Rattle.tableau.specs.RightSide.{Found, none, some}
use Rattle.tableau.specs.Within.{Within}
use Rattle.tableau.proofs.Forms.{coefficients_within}
use Rattle.tableau.proofs.RoundLaws.{form_rounds_lem}
use Rattle.settling.specs.Seating.{Seated, seat}
use Rattle.engine.specs.Assign.{Buffers, Done, n, m, matrix, columns, lent_of, rounds_of, refused, over_limit, settle_on, on_check}
use Rattle.engine.specs.Assign.{on_seated, on_found, solved, assign, stands, formed, continue}
use Rattle.engine.specs.Ceiling.{RoundsRefused, RoundsReturned, ceiling, RoundsCeiling}
use Rattle.engine.specs.Outcomes.{basis_left}
use Rattle.engine.specs.Preview.{Seen, Shown, with_limit, lent_beside, unshown, on_cause, shown_on, preview}
use Rattle.engine.proofs.Assigning.{solved_kept}

abbrev is_shown : Seen → Bool
is_shown (Ok next) = true
is_shown (Err why) = false

record Counted (P : Posed) (L : Lent) (t : Bool) (k : ℕ) : Type 0 where
  none : t ≡ false → k ≡ 0
  all : t ≡ true → k ≡ rounds_of P
  passed : t ≡ true → first_cause P L ≡ Ok tt
  kept : t ≡ true → (formed P).over ≡ false

module _ (P : Posed) (L : Lent) where
  uncounted : Counted P L false 0
  uncounted = record { none = λ e. refl; all = λ e. untrue e; passed = λ e. untrue e; kept = λ e. untrue e }

  counted : first_cause P L ≡ Ok tt → (formed P).over ≡ false → (t : Bool) → t ≡ true → Counted P L t (rounds_of P)
  counted h o t e = record { none = λ f. absurd (true≢false (sym e ∙ f)); all = λ f. refl; passed = λ f. h; kept = λ f. o }

  abbrev OfDone : Done → Type 0
  OfDone d = Counted P L (is_verdict d.answer) d.rounds

  abbrev OfShown : Shown → Type 0
  OfShown x = Counted P L (is_shown x.seen) x.rounds

  -- past the checks, where the form is not past the limit
  module _ (h : first_cause P L ≡ Ok tt) (o : (formed P).over ≡ false) where
    settled_counted : (T N : List (List ℤ)) (v : List ℤ) → OfDone (settle_on P T N v)
    unfolding settle_on
    settled_counted T N v = counted h o true refl

    seated_counted : (T N : List (List ℤ)) (B : Buffers) (z : Seated) → OfDone (on_seated P T N B z)
    seated_counted T N B (Err why) = uncounted
    seated_counted T N B (Ok v) = settled_counted T N v

    found_counted : (T : List (List ℤ)) (B : Buffers) (f : Found) → OfDone (on_found P T B f)
    found_counted T B none = uncounted
    found_counted T B (some s N) = seated_counted T N B (seat (columns P) N s)

    shown_counted : (T N : List (List ℤ)) (v : List ℤ) → OfShown (shown_on P T N v)
    shown_counted T N v = counted h o true refl

-- ---- the calls
assign_counted : (P : Posed) (B : Buffers) → OfDone P (lent_of B) (assign P B)
unfolding assign
assign_counted P B = go (first_cause P (lent_of B)) refl (solved P).over refl
  where
    go : (c : Check) → first_cause P (lent_of B) ≡ c → (t : Bool) → (solved P).over ≡ t
        → OfDone P (lent_of B) (on_check c B (cond t (over_limit B) (on_found P (solved P).form B (solved P).found)))
    go (Err why) h t e = uncounted P (lent_of B)
    go (Ok u) h true e = uncounted P (lent_of B)
    go (Ok u) h false e = found_counted P (lent_of B) h (solved_kept P e) (solved P).form B (solved P).found

continue_counted : (P : Posed) (B : Buffers) → OfDone P (lent_of B) (continue P B)
unfolding continue
continue_counted P B = go (first_cause P (lent_of B)) refl (stands P B.values) (formed P).over refl
  where
    d : Done
    d = settle_on P (formed P).table (basis_left P) B.values

    go : (c : Check) → first_cause P (lent_of B) ≡ c → (s o : Bool) → (formed P).over ≡ o
        → OfDone P (lent_of B) (on_check c B (cond s (cond o (over_limit B) d) (refused Standing B.tableau B)))
    go (Err why) h s o e = uncounted P (lent_of B)
    go (Ok u) h false o e = uncounted P (lent_of B)
    go (Ok u) h true true e = uncounted P (lent_of B)
    go (Ok u) h true false e = settled_counted P (lent_of B) h e (formed P).table (basis_left P) B.values

preview_counted : (P : Posed) (v : List ℤ) (B : Buffers) → OfShown (with_limit 1 P) (lent_beside (n P) v B) (preview P v B)
unfolding preview
preview_counted P v B = go (first_cause Q L) refl (stands P v) (formed P).over refl
  where
    Q : Posed
    Q = with_limit 1 P

    L : Lent
    L = lent_beside (n P) v B

    x : Shown
    x = shown_on P (formed P).table (basis_left P) v

    go : (c : Check) → first_cause Q L ≡ c → (s o : Bool) → (formed P).over ≡ o
        → OfShown Q L (on_cause c B (cond s (cond o (unshown Elimination (zeros (length B.tableau)) B) x) (unshown Standing B.tableau B)))
    go (Err why) h s o e = uncounted Q L
    go (Ok u) h false o e = uncounted Q L
    go (Ok u) h true true e = uncounted Q L
    go (Ok u) h true false e = shown_counted Q L h e (formed P).table (basis_left P) v

-- ---- with a refusal, and without one
pub rounds_refused : RoundsRefused
rounds_refused P B = record {
  assigns = (assign_counted P B).none;
  continues = (continue_counted P B).none;
  previews = λ v why e. (preview_counted P v B).none (ap is_shown e);
}

not_refused : (x : Seen) → ((why : Refusal) → x ≡ Err why → ⊥) → is_shown x ≡ true
not_refused (Ok next) f = refl
not_refused (Err why) f = absurd (f why refl)

pub rounds_returned : RoundsReturned
rounds_returned P B = record {
  assigns = (assign_counted P B).all;
  continues = (continue_counted P B).all;
  previews = λ v f. (preview_counted P v B).all (not_refused (preview P v B).seen f);
}

-- ---- the ceiling
matrix_within : (P : Posed) (L : Lent) → Passes P L → All Within (matrix P)
matrix_within P L q =
    coefficients_within (m P) (n P) P.coefficients (fits P L q).coefficients_long
    (both_true (all_span max_coefficient P.coefficients) (all_span max_right P.rights) q.rows).0

below : (P : Posed) (L : Lent) (t : Bool) (k : ℕ) → Counted P L t k → k ≤ ceiling P
below P L false k c = omega (arith, c.none refl)
below P L true k c =
    let w : All Within (matrix P) = matrix_within P L (passes P L (c.passed refl)) in
    subst (λ (i : ℕ). i ≤ ceiling P) (sym (c.all refl)) (form_rounds_lem (n P) (matrix P) w (c.kept refl))

pub rounds_ceiling : RoundsCeiling
rounds_ceiling P B = record {
  assigns = below P (lent_of B) (is_verdict (assign P B).answer) (assign P B).rounds (assign_counted P B);
  continues = below P (lent_of B) (is_verdict (continue P B).answer) (continue P B).rounds (continue_counted P B);
  previews = λ v.
      below (with_limit 1 P) (lent_beside (n P) v B) (is_shown (preview P v B).seen) (preview P v B).rounds (preview_counted P v B);
}
