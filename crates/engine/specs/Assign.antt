-- A whole assignment and Continue, of document 01: what they return, and what they leave in each lent buffer.
--   Buffers          the lent buffers that a call fills: the tableau, the interval list and the strides
--   Done             what a call returns and what these buffers then hold; "problem buffers are only read". Of document 02, (vii), it returns the
--                    rounds of elimination too. `done` makes one of the five
--   posed_by, buffers   a call's arguments, as a problem and as the buffers
--   n, m, matrix, columns P   the problem's parts; lent_of B, the lengths of the buffers
--   refused ..       "number, counts 0", and "A refusal returns 0 rounds", with the lists as before; over_limit, refusal 7
--   settled, settle_on   a verdict
--   rounds_of P      the rounds of the tableau
--   solved, formed   the tableau with the right side, and without it; stands P v, the list v satisfies the rows, within ±M
--   assign_fit, continue_fit   past the checks; on_check, on_found, on_seated by what is found before
--   assign P B       "A whole assignment is the tableau, the right side, seating and settling."
--   continue P B     "Continue settles a lent list that satisfies the rows. It forms the tableau but takes neither the right-side step nor seating."
-- "Order: 1 to 6, then 10, then 7 and 8 as met, then 9."
-- Assumes nothing.
use Rattle.std.specs.Prelude.{Bool, not, cond, ◌&&◌, List, ℕ, ℤ, ◌-ℤ◌, length, Ok, Err}
use Rattle.whole.specs.Lists.{entry, zeros}
use Rattle.whole.specs.Tests.{is_zero, every}
use Rattle.lattice.specs.Rows.{flat, chop}
use Rattle.lattice.specs.Sums.{sums}
use Rattle.problem.specs.Limits.{any_beyond}
use Rattle.problem.specs.Checks.{Posed, Check, first_cause}
use Rattle.problem.specs.declared.Problem.{Problem}
use Rattle.problem.specs.declared.Lent.{Lent}
use Rattle.problem.specs.declared.Refusal.{Refusal}
use Rattle.problem.specs.declared.Refusal.TheVariants.{Elimination, NoWholeNumbers, Standing}
use Rattle.problem.specs.Answers.{Answer}
use Rattle.tableau.specs.Elimination.{Run}
use Rattle.tableau.specs.RoundCount.{form_rounds}
use Rattle.tableau.specs.RightSide.{Found, none, some, Solved, basis, form, solve}
use Rattle.settling.specs.Columns.{Columns, listed}
use Rattle.settling.specs.Seating.{Seated, seat}
use Rattle.settling.specs.Settle.{Settled, settle}
use Rattle.settling.specs.Strides.{strides}

pub record Buffers : Type 0 where
  pub tableau : List ℤ
  pub values : List ℤ
  pub strides : List ℕ

pub record Done : Type 0 where
  pub answer : Answer
  pub rounds : ℕ
  pub tableau : List ℤ
  pub values : List ℤ
  pub strides : List ℕ

abbrev pub posed_by : Problem → List ℤ → List ℤ → List ℤ → List ℤ → List ℤ → List ℤ → List ℤ → List ℤ → Posed
posed_by p coefficients rights lower upper low high given ideals = record {
  problem = p;
  coefficients = coefficients;
  rights = rights;
  lower = lower;
  upper = upper;
  low = low;
  high = high;
  given = given;
  ideals = ideals;
}

abbrev pub buffers : List ℤ → List ℤ → List ℕ → Buffers
buffers tableau values strides = record { tableau = tableau; values = values; strides = strides }

abbrev pub done : Answer → ℕ → List ℤ → List ℤ → List ℕ → Done
done answer rounds tableau values strides = record {
  answer = answer;
  rounds = rounds;
  tableau = tableau;
  values = values;
  strides = strides;
}

-- ---- the problem's parts
abbrev pub n : Posed → ℕ
n P = P.problem.columns

abbrev pub m : Posed → ℕ
m P = P.problem.rows

abbrev pub matrix : Posed → List (List ℤ)
matrix P = chop (m P) (n P) P.coefficients

abbrev pub columns : Posed → Columns
columns P = listed (n P) P.lower P.upper P.low P.high P.given P.ideals

abbrev pub lent_of : Buffers → Lent
lent_of B = record { tableau = length B.tableau; values = length B.values; strides = length B.strides }

-- document 02, (vii): "The rounds are counted and returned"
abbrev pub rounds_of : Posed → ℕ
rounds_of P = form_rounds (n P) (matrix P)

-- ---- what is left: the table "Turned back"
-- T is what the tableau then holds
abbrev pub refused : Refusal → List ℤ → Buffers → Done
refused why T B = done (Err why) 0 T B.values B.strides

-- 7: "tableau all 0, lists as before"
abbrev pub over_limit : Buffers → Done
over_limit B = refused Elimination (zeros (length B.tableau)) B

-- "leaves the form in the tableau, the final values in the interval list and the strides in theirs"
abbrev pub settled : ℕ → List (List ℤ) → List ℕ → Settled → Done
settled rounds T d z = done (Ok z.verdict) rounds (flat T) z.values d

-- settling over the basis N of the form T, from the list v
unfoldable pub settle_on : Posed → List (List ℤ) → List (List ℤ) → List ℤ → Done
settle_on P T N v = settled (rounds_of P) T (strides (n P) N) (settle P.problem.limit (columns P) N v)

-- what the checks find, then the rest
abbrev pub on_check : Check → Buffers → Done → Done
on_check (Ok u) B d = d
on_check (Err why) B d = refused why B.tableau B

-- ---- a whole assignment
abbrev pub on_seated : Posed → List (List ℤ) → List (List ℤ) → Buffers → Seated → Done
on_seated P T N B (Err why) = refused why (flat T) B
on_seated P T N B (Ok v) = settle_on P T N v

abbrev pub on_found : Posed → List (List ℤ) → Buffers → Found → Done
on_found P T B none = refused NoWholeNumbers (flat T) B
on_found P T B (some start N) = on_seated P T N B (seat (columns P) N start)

abbrev pub solved : Posed → Solved
solved P = solve (n P) (matrix P) P.rights

-- past the checks: 7 and 8 as met, then 9
abbrev pub assign_fit : Posed → Buffers → Done
assign_fit P B = cond (solved P).over (over_limit B) (on_found P (solved P).form B (solved P).found)

unfoldable pub assign : Posed → Buffers → Done
assign P B = on_check (first_cause P (lent_of B)) B (assign_fit P B)

-- ---- Continue
-- 10: "list beyond ±M or failing a row" does not hold
abbrev pub stands : Posed → List ℤ → Bool
stands P v = not (any_beyond v) && every (m P) (λ i. is_zero (entry i (sums (matrix P) v) -ℤ entry i P.rights))

abbrev pub formed : Posed → Run
formed P = form (n P) (matrix P)

-- past the checks: 10, then 7
abbrev pub continue_fit : Posed → Buffers → Done
continue_fit P B =
    cond (stands P B.values)
    (cond (formed P).over (over_limit B) (settle_on P (formed P).table (basis (m P) (formed P).table) B.values))
    (refused Standing B.tableau B)

unfoldable pub continue : Posed → Buffers → Done
continue P B = on_check (first_cause P (lent_of B)) B (continue_fit P B)
