-- Document 02, (xiii): "no list of intervals stands twice in one run", of a whole assignment and of Continue.
--   assign_no_list_twice, continue_no_list_twice   of every problem and all lent buffers
-- Assumes nothing.
use mathlib.Core.Path.{◌≡◌, refl, sym, ◌∙◌}
use mathlib.Core.Bool.{Bool, true, false, cond, true≢false, false≢true}
use mathlib.Core.List.{List, []}
use native.Mathlib.Omega.{arith}
use lib.IntN.{ℤ}
use Rattle.whole.proofs.Never.{untrue}
use Rattle.problem.specs.Answers.{answer_counts, is_verdict}
use Rattle.problem.specs.Checks.{Posed, first_cause}
use Rattle.problem.specs.declared.Refusal.TheVariants.{Standing}
use Rattle.problem.specs.Checks.{Check}
use Rattle.std.specs.Prelude.{Ok, Err}
use Rattle.tableau.specs.RightSide.{Found, none, some, basis}
use Rattle.std.specs.Prelude.{Ok, Err}
use Rattle.settling.specs.Seating.{Seated, seat}
use Rattle.engine.specs.Assign.{Buffers, Done, m, columns, lent_of, refused, over_limit, settle_on, on_check, on_seated, on_found}
use Rattle.engine.specs.Assign.{solved, assign_fit, assign, stands, formed, continue_fit, continue}
use Rattle.runs.specs.Runs.{Descent, Ends}
use Rattle.runs.specs.CallRuns.{settle_run, seated_run, found_run, of_verdict, assign_run, continue_run, NoListTwice}
use Rattle.runs.proofs.Runs.{run_ends, run_descends}

module _ (P : Posed) where
  -- what a call with a verdict has done: it has settled, and R is that run
  record Settles (R : List (List ℤ)) (d : Done) : Type 0 where
    descent : Descent (columns P) R
    ends : Ends (columns P) R (answer_counts d.answer) d.values

  settle_settles : (T N : List (List ℤ)) (v : List ℤ) → Settles (settle_run P N v) (settle_on P T N v)
  unfolding settle_on
  settle_settles T N v = record {
    descent = run_descends (columns P) N P.problem.limit v;
    ends = run_ends (columns P) N P.problem.limit v;
  }

  nothing : Descent (columns P) []
  nothing = record { bounds = λ j h. absurd (omega arith); goals = λ j h. absurd (omega arith); once = λ j k h l e. omega arith }

  by_verdict : (R : List (List ℤ)) (d : Done) → (is_verdict d.answer ≡ true → Settles R d) → NoListTwice P (of_verdict d R) d
  by_verdict R d s = go (is_verdict d.answer) refl
    where
      go : (t : Bool) → is_verdict d.answer ≡ t → NoListTwice P (cond t R []) d
      go true e = record { descent = (s e).descent; ends = λ f. (s e).ends; refused = λ f. absurd (true≢false (sym e ∙ f)) }
      go false e = record { descent = nothing; ends = λ f. absurd (false≢true (sym e ∙ f)); refused = λ f. refl }

  -- ---- whole assignments
  module _ (T : List (List ℤ)) (B : Buffers) where
    seated_settles : (N : List (List ℤ)) (z : Seated) → is_verdict (on_seated P T N B z).answer ≡ true
        → Settles (seated_run P N z) (on_seated P T N B z)
    seated_settles N (Err why) e = untrue e
    seated_settles N (Ok v) e = settle_settles T N v

    found_settles : (f : Found) → is_verdict (on_found P T B f).answer ≡ true → Settles (found_run P f) (on_found P T B f)
    found_settles none e = untrue e
    found_settles (some start N) e = seated_settles N (seat (columns P) N start) e

  module _ (B : Buffers) (R : List (List ℤ)) where
    checked_settles : (c : Check) (d : Done) → (is_verdict d.answer ≡ true → Settles R d) → is_verdict (on_check c B d).answer ≡ true
        → Settles R (on_check c B d)
    checked_settles (Ok u) d s e = s e
    checked_settles (Err why) d s e = untrue e

    limited_settles : (t : Bool) (d : Done) → (is_verdict d.answer ≡ true → Settles R d) → is_verdict (cond t (over_limit B) d).answer ≡ true
        → Settles R (cond t (over_limit B) d)
    limited_settles true d s e = untrue e
    limited_settles false d s e = s e

    standing_settles : (t : Bool) (d : Done) → (is_verdict d.answer ≡ true → Settles R d)
        → is_verdict (cond t d (refused Standing B.tableau B)).answer ≡ true → Settles R (cond t d (refused Standing B.tableau B))
    standing_settles true d s e = s e
    standing_settles false d s e = untrue e

  pub assign_no_list_twice : (B : Buffers) → NoListTwice P (assign_run P B) (assign P B)
  unfolding assign assign_run
  assign_no_list_twice B =
      by_verdict R (on_check (first_cause P (lent_of B)) B (assign_fit P B))
      (checked_settles B R (first_cause P (lent_of B)) (assign_fit P B)
      (limited_settles B R (solved P).over (on_found P (solved P).form B (solved P).found) (found_settles (solved P).form B (solved P).found)))
    where
      R : List (List ℤ)
      R = found_run P (solved P).found

  -- ---- Continue
  pub continue_no_list_twice : (B : Buffers) → NoListTwice P (continue_run P B) (continue P B)
  unfolding continue continue_run
  continue_no_list_twice B =
      by_verdict R (on_check (first_cause P (lent_of B)) B (continue_fit P B))
      (checked_settles B R (first_cause P (lent_of B)) (continue_fit P B)
      (standing_settles B R (stands P B.values) (cond (formed P).over (over_limit B) (settle_on P (formed P).table N B.values))
      (limited_settles B R (formed P).over (settle_on P (formed P).table N B.values) (λ e. settle_settles (formed P).table N B.values))))
    where
      N : List (List ℤ)
      N = basis (m P) (formed P).table

      R : List (List ℤ)
      R = settle_run P N B.values
