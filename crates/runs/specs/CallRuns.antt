-- Document 02, (xiii): the run of a call. A whole assignment and Continue settle once, and that is their run.
--   settle_run P N v    the run of settling from the list v over the basis N, under the problem's limit
--   seated_run, found_run the run from what seating leaves, and from what the right side finds; none where that is no list
--   of_verdict d R      R where the call that does d has a verdict, otherwise none
--   assign_run P B      the lists that stand while a whole assignment settles, the seated list first; none where it is refused
--   continue_run P B    the same of Continue, the lent list first
--   NoListTwice P R d   what holds of the run R of a call that does d
-- Assumes nothing.
use Rattle.std.specs.Prelude.{◌≡◌, true, false, cond, List, [], ℤ}
use Rattle.problem.specs.Answers.{answer_counts, is_verdict}
use Rattle.problem.specs.Checks.{Posed}
use Rattle.tableau.specs.RightSide.{Found, none, some, basis}
use Rattle.std.specs.Prelude.{Ok, Err}
use Rattle.settling.specs.Seating.{Seated, seat}
use Rattle.engine.specs.Assign.{Buffers, Done, m, columns, solved, assign, formed, continue}
use Rattle.runs.specs.Runs.{standing, Descent, Ends}

abbrev pub settle_run : Posed → List (List ℤ) → List ℤ → List (List ℤ)
settle_run P N v = standing P.problem.limit (columns P) N v

abbrev pub seated_run : Posed → List (List ℤ) → Seated → List (List ℤ)
seated_run P N (Err why) = []
seated_run P N (Ok v) = settle_run P N v

abbrev pub found_run : Posed → Found → List (List ℤ)
found_run P none = []
found_run P (some start N) = seated_run P N (seat (columns P) N start)

abbrev pub of_verdict : Done → List (List ℤ) → List (List ℤ)
of_verdict d R = cond (is_verdict d.answer) R []

unfoldable pub assign_run : Posed → Buffers → List (List ℤ)
assign_run P B = of_verdict (assign P B) (found_run P (solved P).found)

unfoldable pub continue_run : Posed → Buffers → List (List ℤ)
continue_run P B = of_verdict (continue P B) (settle_run P (basis (m P) (formed P).table) B.values)

pub record NoListTwice (P : Posed) (R : List (List ℤ)) (d : Done) : Type 0 where
  pub descent : Descent (columns P) R
  pub ends : is_verdict d.answer ≡ true → Ends (columns P) R (answer_counts d.answer) d.values
  pub refused : is_verdict d.answer ≡ false → R ≡ []
