-- A problem as it is handed to a call, and the causes 1 to 6 that turn it back.
--   empty_problem     no columns, no rows, no steps
--   Posed             a problem with its lists: the coefficients, n to a row, and the right sides; the bounds of the columns; document 02, (v), their
--                     low and high goals; and, document 02, (ii), the ideals handed in: whether there is one, 0 where there is none, and the number
--   posed p l         the problem p with the lists l that are lent beside it; `Problem` and `Lists` are declared in src/
--   sizes_fit columns rows p   cause 1 does not hold, with that many columns and rows allowed
--   row_lengths_fit, column_lengths_fit, ideal_lengths_fit, lent_fit   nor cause 2, of the rows' lists, the columns' lists, the ideals' lists and the
--                     buffers that the call fills
--   all_span k l      every number of l lies in −k to k
--   rows_fit, bound_fits, bounds_fit, goal_fits, goals_fit, limit_fits   nor the causes 3 to 6; at one column, and at all. goal_inside, of one goal;
--                     both_or_none, of a low and a high one
--   Check             what checks find: nothing, or a refusal
--   or_next t why c   the refusal where the test t fails, else the next check c
--   first_cause P L   the first cause of 1 to 6 that holds of the problem P and the lengths L of the buffers lent with it
-- "Any number may be handed in as an ideal": no cause looks at what the marks and the ideals hold.
-- The checks are pieces, put together by `or_next`, so that other calls can take the first three or the first five.
-- Assumes nothing.
use Rattle.std.specs.Prelude.{Bool, true, false, not, cond, ◌&&◌, ◌||◌, List, ℕ, ◌+◌, ◌*◌, leb, eqb, ℤ, pos, length, Result, Ok, Err}
use Rattle.std.specs.Int.Signed.{le_z}
use Rattle.whole.specs.Lists.{entry}
use Rattle.whole.specs.Tests.{is_zero, spans, in_range, every}
use Rattle.problem.specs.Limits.{max_columns, max_rows, max_coefficient, max_right, max_bound, max_goal, max_steps}
use Rattle.problem.specs.declared.Problem.{Problem}
use Rattle.problem.specs.declared.Lent.{Lent}
use Rattle.problem.specs.declared.Refusal.{Refusal}
use Rattle.problem.specs.declared.Refusal.TheVariants.{Size, Length, Coefficient, Bound, Goal, Limit}
use Rattle.problem.specs.declared.Lists.{Lists}

-- what checks find: nothing, or the refusal
abbrev pub Check : Type 0
Check = Result Unit Refusal

abbrev pub empty_problem : Problem
empty_problem = record { columns = 0; rows = 0; limit = 0 }

pub record Posed : Type 0 where
  pub problem : Problem
  pub coefficients : List ℤ
  pub rights : List ℤ
  pub lower : List ℤ
  pub upper : List ℤ
  pub low : List ℤ
  pub high : List ℤ
  pub given : List ℤ
  pub ideals : List ℤ

-- the problem p with the lists that are lent beside it
abbrev pub posed : Problem → Lists → Posed
posed p l = record {
  problem = p;
  coefficients = l.coefficients.now;
  rights = l.rights.now;
  lower = l.lower.now;
  upper = l.upper.now;
  low = l.low.now;
  high = l.high.now;
  given = l.given.now;
  ideals = l.ideals.now;
}

-- 1: "n or m outside"
abbrev pub sizes_fit : ℕ → ℕ → Problem → Bool
sizes_fit columns rows p = leb 1 p.columns && (leb p.columns columns && leb p.rows rows)

-- 2: "a lent length not exactly what n and m need"
abbrev pub row_lengths_fit : Problem → List ℤ → List ℤ → Bool
row_lengths_fit p coefficients rights = eqb (length coefficients) (p.rows * p.columns) && eqb (length rights) p.rows

abbrev pub column_lengths_fit : Problem → List ℤ → List ℤ → List ℤ → List ℤ → Bool
column_lengths_fit p lower upper low high =
    eqb (length lower) p.columns
    && (eqb (length upper) p.columns && (eqb (length low) p.columns && eqb (length high) p.columns))

abbrev pub ideal_lengths_fit : Problem → List ℤ → List ℤ → Bool
ideal_lengths_fit p given ideals = eqb (length given) p.columns && eqb (length ideals) p.columns

-- the tableau "has n rows of m + n"
abbrev pub lent_fit : Problem → Lent → Bool
lent_fit p l =
    eqb l.tableau (p.columns * (p.rows + p.columns))
    && (eqb l.values p.columns && eqb l.strides p.columns)

-- 3: "coefficient, right side or least half outside"; a call on buffers has no least half, since its y is a column like any other
abbrev pub all_span : ℕ → List ℤ → Bool
all_span k l = every (length l) (λ i. spans k (entry i l))

abbrev pub rows_fit : List ℤ → List ℤ → Bool
rows_fit coefficients rights = all_span max_coefficient coefficients && all_span max_right rights

-- 4: "bound outside, or lower above upper"
abbrev pub bound_fits : ℤ → ℤ → Bool
bound_fits lower upper = spans max_bound lower && (spans max_bound upper && le_z lower upper)

abbrev pub bounds_fit : List ℤ → List ℤ → Bool
bounds_fit lower upper = every (length lower) (λ j. bound_fits (entry j lower) (entry j upper))

-- 5: "goal outside, or goal with lower below 1"; document 02, (v): "a low and a high goal, both 0 or both set, low at most high", and "A pair that
-- breaks the rule is refused as 5 is now."
abbrev pub goal_inside : ℤ → Bool
goal_inside goal = in_range (pos 0) (pos max_goal) goal

abbrev pub both_or_none : ℤ → ℤ → Bool
both_or_none low high = cond (is_zero low) (is_zero high) (not (is_zero high))

abbrev pub goal_fits : ℤ → ℤ → ℤ → Bool
goal_fits lower low high =
    goal_inside low && (goal_inside high && (both_or_none low high && (le_z low high && (is_zero low || le_z (pos 1) lower))))

abbrev pub goals_fit : List ℤ → List ℤ → List ℤ → Bool
goals_fit lower low high = every (length lower) (λ j. goal_fits (entry j lower) (entry j low) (entry j high))

-- 6: "step limit outside"
abbrev pub limit_fits : Problem → Bool
limit_fits p = leb p.limit max_steps

abbrev pub or_next : Bool → Refusal → Check → Check
or_next true why next = next
or_next false why next = Err why

-- "each under just its stated condition", in the order of the table
unfoldable pub first_cause : Posed → Lent → Check
first_cause P L =
    let p : Problem = P.problem in
    or_next (sizes_fit max_columns max_rows p) Size
    (or_next (row_lengths_fit p P.coefficients P.rights) Length
    (or_next (column_lengths_fit p P.lower P.upper P.low P.high) Length
    (or_next (ideal_lengths_fit p P.given P.ideals) Length
    (or_next (lent_fit p L) Length
    (or_next (rows_fit P.coefficients P.rights) Coefficient
    (or_next (bounds_fit P.lower P.upper) Bound
    (or_next (goals_fit P.lower P.low P.high) Goal
    (or_next (limit_fits p) Limit (Ok tt)))))))))
