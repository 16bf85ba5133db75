-- What the functions on rows ask and what they leave.
--   unless over a       what is answered: Beyond where a number beyond ±M was left, and otherwise a
--   Stops over P r      what a function that stops at the first number beyond ±M answers, r: whether there is one, and where there is none, P
--                       holds
--   StopsRow, StopsRun   that of a row after a subtraction, and of a table after steps, which are left in t
--   quotient_of way     the quotient by which a pivot is taken from the rows below it, or from those above
--   row_step way c r    a row's step by the row r at column c: gathering's in the lower rows, or that in the rows above
--   each_of way c r k   that of each of k rows in one list
--   Pivot w c r         r has w numbers within ±M, 0 before column c and above 0 there
--   Leads r             r's first number other than 0 is above 0: it has one
--   left_after x s      what a row's buffer s holds after the step x: all 0 where a number lies beyond ±M
-- Assumes nothing.
use Rattle.std.specs.Prelude.{◌≡◌, Bool, true, false, cond, List, ℕ, ℤ, length, Result, Ok, Err}
use Rattle.whole.specs.Lists.{entry, zeros}
use Rattle.whole.specs.Quotient.{floor_quotient, nearest_quotient}
use Rattle.whole.specs.Tests.{Positive}
use Rattle.lattice.specs.Rows.{ZeroTo, lead, flat, chop}
use Rattle.tableau.specs.Elimination.{Left, lowered, reduced, Run, each}
use Rattle.tableau.specs.Within.{Within}
use Rattle.tableau.specs.declared.Beyond.{Beyond}
use Rattle.tableau.specs.declared.rows.Way.{Way}
use Rattle.tableau.specs.declared.rows.Way.TheVariants.{Below, Above}

abbrev pub unless : {A : Type 0} → Bool → A → Result A Beyond
unless over a = cond over (Err (record {})) (Ok a)

abbrev pub Stops : {A : Type 0} → Bool → Type 0 → Result A Beyond → Type 0
Stops over P (Ok a) = (over ≡ false) × P
Stops over P (Err e) = over ≡ true

-- the same of a row after a subtraction
abbrev pub StopsRow : {A : Type 0} → Left → Result A Beyond → List ℤ → Type 0
StopsRow x r t = Stops x.over (t ≡ x.row) r

-- the same of a table, in one list
abbrev pub StopsRun : {A : Type 0} → Run → Result A Beyond → List ℤ → Type 0
StopsRun x r t = Stops x.over (t ≡ flat x.table) r

abbrev pub quotient_of : Way → ℤ → ℤ → ℤ
quotient_of Below e p = nearest_quotient e p
quotient_of Above e p = floor_quotient e p

abbrev pub row_step : Way → ℕ → List ℤ → List ℤ → Left
row_step Below c r s = lowered c r s
row_step Above c r s = reduced c r s

abbrev pub each_of : Way → ℕ → List ℤ → ℕ → List ℤ → Run
each_of way c r k t = each (row_step way c r) (chop k (length r) t)

pub record Pivot (w c : ℕ) (r : List ℤ) : Type 0 where
  pub wide : length r ≡ w
  pub small : Within r
  pub front : ZeroTo c r
  pub lead : Positive (entry c r)

abbrev pub Leads : List ℤ → Type 0
Leads r = Positive (entry (lead r) r)

abbrev pub left_after : Left → List ℤ → List ℤ
left_after x s = cond x.over (zeros (length s)) x.row
