-- What the right side of a form answers, what the solution of a problem is, and what they leave in the lent buffers. Document 01, "Turned
-- back": for 7 "tableau all 0, lists as before", for 8 "tableau the form, lists as before".
--   Solvable p t a b s   what the causes 1 to 3 leave of a problem p, the tableau's buffer t, the coefficients a, the right sides b and the buffer
--                        s of the starting list
--   solved_of p a b      the form and the right side
--   answer_of f a, solution_of x a   what is answered, where no number lies beyond ±M, and in any case: a with a starting list, or the refusal.
--                        Beside the right side alone a is nothing, and of the solution it is the rounds of the form: a refusal has none
--   tableau_after x t, start_after x s   what the two buffers hold then; by `start_of`, where no number lies beyond ±M
--   Righted              what the right side of a form answers, and what the list that it works on holds then
--   righted m T v        that of the form T, the right side v and m rows: all 0 where a number lies beyond ±M, else the list that is left
--   righted_of m k t v   that of the form's k rows in t
-- Assumes nothing.
use Rattle.std.specs.Prelude.{◌≡◌, true, false, cond, List, ℕ, ℤ, length, Result, Ok, Err}
use Rattle.whole.specs.Lists.{zeros}
use Rattle.lattice.specs.Rows.{flat, chop}
use Rattle.problem.specs.Limits.{max_right}
use Rattle.problem.specs.Checks.{all_span}
use Rattle.problem.specs.declared.Problem.{Problem}
use Rattle.problem.specs.declared.Refusal.{Refusal}
use Rattle.problem.specs.declared.Refusal.TheVariants.{Elimination, NoWholeNumbers}
use Rattle.tableau.specs.RightSide.{Found, none, some, Solved, right_side, list_left, solve}
use Rattle.tableau.specs.LentTable.{Formable, matrix_of}

pub record Solvable (p : Problem) (t a b s : List ℤ) : Type 0 where
  pub form : Formable p t a
  pub right : length b ≡ p.rows
  pub start : length s ≡ p.columns
  pub small : all_span max_right b ≡ true

abbrev pub solved_of : Problem → List ℤ → List ℤ → Solved
solved_of p a b = solve p.columns (matrix_of p a) b

abbrev pub answer_of : {A : Type 0} → Found → A → Result A Refusal
answer_of none a = Err NoWholeNumbers
answer_of (some v N) a = Ok a

abbrev pub solution_of : {A : Type 0} → Solved → A → Result A Refusal
solution_of x a = cond x.over (Err Elimination) (answer_of x.found a)

abbrev pub tableau_after : Solved → List ℤ → List ℤ
tableau_after x t = cond x.over (zeros (length t)) (flat x.form)

abbrev pub start_of : Found → List ℤ → List ℤ
start_of none s = s
start_of (some v N) s = v

abbrev pub start_after : Solved → List ℤ → List ℤ
start_after x s = cond x.over s (start_of x.found s)

pub record Righted : Type 0 where
  pub answer : Result (Unit {0}) Refusal
  pub list : List ℤ

abbrev pub righted : ℕ → List (List ℤ) → List ℤ → Righted
righted m T v =
    let x : Solved = right_side m T false v in
    record { answer = solution_of x tt; list = cond x.over (zeros (length v)) (list_left m T v) }

abbrev pub righted_of : ℕ → ℕ → List ℤ → List ℤ → Righted
righted_of m k t v = righted m (chop k (length v) t) v
