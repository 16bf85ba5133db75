-- What a problem that passes the checks has.
--   tested_at      what a test of a column's numbers in two lists answers, where the machine reads them back
--   Room p, room   a problem of the allowed sizes has lengths that a usize holds
--   column_lengths   the columns' lists have a number for each column, once their lengths have passed
--   Passes P L     each of the tests of causes 1 to 6 holds
--   passes         so it is where no cause is named
--   all_small      how large a list's numbers are, by the test over the list
--   Fits P L       in numbers: sizes, lengths, and how large the numbers of each list are, at every place
--   fits           so it is
-- Assumes nothing.
use mathlib.Core.Path.{◌≡◌, refl, sym, ◌∙◌, ap, ap₂, subst}
use mathlib.Core.Bool.{Bool, true, false, ◌&&◌, ◌||◌}
use mathlib.Core.List.{List}
use Prim.Native.Nat.{ℕ, ◌+◌, ◌*◌, ◌^◌, ◌<◌, ◌≤◌}
use native.Mathlib.Nat.{mul-le-mul, lt_of_le_of_lt}
use native.Mathlib.Omega.{arith}
use borrow.Author.Tests.{leb-true, eqb-true, ltb-true, ltb-false}
use lib.Dec.{leb, eqb, ltb, lit<}
use lib.IntN.{ℤ, pos, nat_abs}
use lib.ListN.{length, get_or-eq_default}
use lib.Signed.{le_z, mag}
use mir.Syntax.{w64}
use mir.Val.{to_z, of_z}
use mir.Val as Val
use Rattle.whole.specs.Lists.{entry}
use Rattle.whole.specs.Tests.{is_zero, spans}
use Rattle.whole.proofs.Tests.{both_true, all_true, range_small}
use Rattle.whole.proofs.Signed.{back}
use Rattle.whole.proofs.Counted.{every_at}
use Rattle.problem.specs.Limits.{max_columns, max_rows, max_coefficient, max_right, max_bound, max_goal}
use Rattle.problem.specs.Checks.{Posed, sizes_fit, row_lengths_fit, column_lengths_fit, ideal_lengths_fit, lent_fit, all_span, rows_fit}
use Rattle.problem.specs.Checks.{bound_fits, bounds_fit, goal_inside, both_or_none, goal_fits, goals_fit, limit_fits, or_next, Check, first_cause}
use Rattle.problem.specs.declared.Problem.{Problem}
use Rattle.problem.specs.declared.Lent.{Lent}
use Rattle.problem.specs.declared.Refusal.{Refusal}
use Rattle.problem.specs.declared.Refusal.TheVariants.{Size, Length, Coefficient, Bound, Goal, Limit}
use Rattle.std.specs.Prelude.{Ok}

-- ---- the code's tests
pub tested_at : (f : ℤ → ℤ → Bool) (l m : List ℤ) (j : ℕ) {r : Bool} → mag (entry j l) < 2 ^ 63 → mag (entry j m) < 2 ^ 63
    → r ≡ f (to_z w64 (of_z w64 (entry j l))) (to_z w64 (of_z w64 (entry j m))) → r ≡ f (entry j l) (entry j m)
tested_at f l m j a b e = e ∙ ap₂ f (back (entry j l) a) (back (entry j m) b)

pub record Room (p : Problem) : Type 0 where
  pub table : Val.Fits w64 (p.rows * p.columns)
  pub width : Val.Fits w64 (p.rows + p.columns)
  pub tableau : Val.Fits w64 (p.columns * (p.rows + p.columns))

product : (a b : ℕ) → a ≤ max_columns → b ≤ max_rows + max_columns → Val.Fits w64 (a * b)
product a b h k = record { fits = lt_of_le_of_lt (mul-le-mul {n₂ = max_columns} {m₂ = max_rows + max_columns} h k) (lit< tt) }

pub room : (p : Problem) → sizes_fit max_columns max_rows p ≡ true → Room p
room p e =
    let tests = all_true (leb 1 p.columns) (leb p.columns max_columns) (leb p.rows max_rows) e in
    let columns : p.columns ≤ max_columns = leb-true _ _ tests.1 in
    let rows : p.rows ≤ max_rows = leb-true _ _ tests.2 in
    record {
      table = product p.rows p.columns (omega arith) (omega arith);
      width = omega arith;
      tableau = product p.columns (p.rows + p.columns) (omega arith) (omega arith);
    }

pub column_lengths :
    (p : Problem) (lower upper low high : List ℤ) → column_lengths_fit p lower upper low high ≡ true
    → (length lower ≡ p.columns) × (length upper ≡ p.columns) × (length low ≡ p.columns) × (length high ≡ p.columns)
column_lengths p lower upper low high e =
    let tests =
    all_true (eqb (length lower) p.columns) (eqb (length upper) p.columns)
    (eqb (length low) p.columns && eqb (length high) p.columns) e in
    let goals = both_true (eqb (length low) p.columns) (eqb (length high) p.columns) tests.2 in
    (eqb-true _ _ tests.0, eqb-true _ _ tests.1, eqb-true _ _ goals.0, eqb-true _ _ goals.1)

-- ---- what no cause leaves
pub record Passes (P : Posed) (L : Lent) : Type 0 where
  pub sizes : sizes_fit max_columns max_rows P.problem ≡ true
  pub row_lengths : row_lengths_fit P.problem P.coefficients P.rights ≡ true
  pub column_lengths : column_lengths_fit P.problem P.lower P.upper P.low P.high ≡ true
  pub ideal_lengths : ideal_lengths_fit P.problem P.given P.ideals ≡ true
  pub lent : lent_fit P.problem L ≡ true
  pub rows : rows_fit P.coefficients P.rights ≡ true
  pub bounds : bounds_fit P.lower P.upper ≡ true
  pub goals : goals_fit P.lower P.low P.high ≡ true
  pub limit : limit_fits P.problem ≡ true

pub record Fits (P : Posed) (L : Lent) : Type 0 where
  pub few_columns : P.problem.columns ≤ max_columns
  pub few_rows : P.problem.rows ≤ max_rows
  pub coefficients_long : length P.coefficients ≡ P.problem.rows * P.problem.columns
  pub rights_long : length P.rights ≡ P.problem.rows
  pub lower_long : length P.lower ≡ P.problem.columns
  pub upper_long : length P.upper ≡ P.problem.columns
  pub low_long : length P.low ≡ P.problem.columns
  pub high_long : length P.high ≡ P.problem.columns
  pub given_long : length P.given ≡ P.problem.columns
  pub ideals_long : length P.ideals ≡ P.problem.columns
  pub tableau_long : L.tableau ≡ P.problem.columns * (P.problem.rows + P.problem.columns)
  pub values_long : L.values ≡ P.problem.columns
  pub strides_long : L.strides ≡ P.problem.columns
  pub coefficients_small : (i : ℕ) → nat_abs (entry i P.coefficients) ≤ max_coefficient
  pub rights_small : (i : ℕ) → nat_abs (entry i P.rights) ≤ max_right
  pub lower_small : (j : ℕ) → nat_abs (entry j P.lower) ≤ max_bound
  pub upper_small : (j : ℕ) → nat_abs (entry j P.upper) ≤ max_bound
  pub low_small : (j : ℕ) → nat_abs (entry j P.low) ≤ max_goal
  pub high_small : (j : ℕ) → nat_abs (entry j P.high) ≤ max_goal
  pub goal_above : (j : ℕ) → is_zero (entry j P.low) || le_z (pos 1) (entry j P.lower) ≡ true

both : (t : Bool) (why : Refusal) (next : Check) → or_next t why next ≡ Ok tt → (t ≡ true) × (next ≡ Ok tt)
both true why next e = (refl, e)
both false why next e = absurd (let z : ◌≡◌ {A = ℕ} 0 1 = cc in omega arith)

pub passes : (P : Posed) (L : Lent) → first_cause P L ≡ Ok tt → Passes P L
unfolding first_cause
passes P L e =
    let a = both (sizes_fit max_columns max_rows P.problem) Size _ e in
    let b = both (row_lengths_fit P.problem P.coefficients P.rights) Length _ a.1 in
    let c = both (column_lengths_fit P.problem P.lower P.upper P.low P.high) Length _ b.1 in
    let x = both (ideal_lengths_fit P.problem P.given P.ideals) Length _ c.1 in
    let d = both (lent_fit P.problem L) Length _ x.1 in
    let f = both (rows_fit P.coefficients P.rights) Coefficient _ d.1 in
    let g = both (bounds_fit P.lower P.upper) Bound _ f.1 in
    let h = both (goals_fit P.lower P.low P.high) Goal _ g.1 in
    let i = both (limit_fits P.problem) Limit (Ok tt) h.1 in
    record {
      sizes = a.0;
      row_lengths = b.0;
      column_lengths = c.0;
      ideal_lengths = x.0;
      lent = d.0;
      rows = f.0;
      bounds = g.0;
      goals = h.0;
      limit = i.0;
    }

-- ---- how large the numbers are
-- what holds of a list's numbers, and of 0, holds at every place
every_place : (Q : ℤ → Type 0) (l : List ℤ) → ((j : ℕ) → j < length l → Q (entry j l)) → Q (pos 0) → (j : ℕ) → Q (entry j l)
every_place Q l f z j = go (ltb j (length l)) refl
  where
    go : (t : Bool) → ltb j (length l) ≡ t → Q (entry j l)
    go true e = f j (ltb-true j (length l) e)
    go false e = subst Q (sym (get_or-eq_default l (pos 0) (ltb-false j (length l) e))) z

spans_small : (k : ℕ) (l : List ℤ) → ((j : ℕ) → j < length l → spans k (entry j l) ≡ true) → (j : ℕ) → nat_abs (entry j l) ≤ k
spans_small k l f = every_place (λ (x : ℤ). nat_abs x ≤ k) l (λ j h. leb-true (nat_abs (entry j l)) k (f j h)) (omega arith)

pub all_small : (k : ℕ) (l : List ℤ) → all_span k l ≡ true → (j : ℕ) → nat_abs (entry j l) ≤ k
all_small k l e = spans_small k l (λ j h. every_at (length l) (λ i. spans k (entry i l)) j e h)

module _ (P : Posed) (L : Lent) (f : Passes P L) where
  n : ℕ
  n = P.problem.columns

  m : ℕ
  m = P.problem.rows

  sizes : (leb 1 n ≡ true) × (leb n max_columns ≡ true) × (leb m max_rows ≡ true)
  unfolding n m
  sizes = all_true (leb 1 n) (leb n max_columns) (leb m max_rows) f.sizes

  rows_long : (eqb (length P.coefficients) (m * n) ≡ true) × (eqb (length P.rights) m ≡ true)
  unfolding n m
  rows_long = both_true (eqb (length P.coefficients) (m * n)) (eqb (length P.rights) m) f.row_lengths

  ideals_long : (eqb (length P.given) n ≡ true) × (eqb (length P.ideals) n ≡ true)
  unfolding n
  ideals_long = both_true (eqb (length P.given) n) (eqb (length P.ideals) n) f.ideal_lengths

  lent_long : (eqb L.tableau (n * (m + n)) ≡ true) × (eqb L.values n ≡ true) × (eqb L.strides n ≡ true)
  unfolding n m
  lent_long = all_true (eqb L.tableau (n * (m + n))) (eqb L.values n) (eqb L.strides n) f.lent

  bound_at : (j : ℕ) → j < length P.lower
      → (spans max_bound (entry j P.lower) ≡ true)
      × (spans max_bound (entry j P.upper) ≡ true)
      × (le_z (entry j P.lower) (entry j P.upper) ≡ true)
  bound_at j h =
      all_true (spans max_bound (entry j P.lower)) (spans max_bound (entry j P.upper)) (le_z (entry j P.lower) (entry j P.upper))
      (every_at (length P.lower) (λ j. bound_fits (entry j P.lower) (entry j P.upper)) j f.bounds h)

  -- a column's goals lie within the limits, and ask for a lower bound of 1
  goal_at : (j : ℕ) → j < length P.lower
      → (goal_inside (entry j P.low) ≡ true)
      × (goal_inside (entry j P.high) ≡ true)
      × (is_zero (entry j P.low) || le_z (pos 1) (entry j P.lower) ≡ true)
  goal_at j h =
      let lo : ℤ = entry j P.lower in
      let low : ℤ = entry j P.low in
      let high : ℤ = entry j P.high in
      let rest : Bool = le_z low high && (is_zero low || le_z (pos 1) lo) in
      let a =
      all_true (goal_inside low) (goal_inside high) (both_or_none low high && rest)
      (every_at (length P.lower) (λ j. goal_fits (entry j P.lower) (entry j P.low) (entry j P.high)) j f.goals h) in
      let b = both_true (both_or_none low high) rest a.2 in
      (a.0, a.1, (both_true (le_z low high) (is_zero low || le_z (pos 1) lo) b.1).1)

  -- past the last column there is no goal
  above_at : length P.low ≡ length P.lower → (j : ℕ) → is_zero (entry j P.low) || le_z (pos 1) (entry j P.lower) ≡ true
  above_at e j = go (ltb j (length P.lower)) refl
    where
      go : (t : Bool) → ltb j (length P.lower) ≡ t → is_zero (entry j P.low) || le_z (pos 1) (entry j P.lower) ≡ true
      go true h = (goal_at j (ltb-true j (length P.lower) h)).2
      go false h =
          let z : entry j P.low ≡ pos 0 = get_or-eq_default P.low (pos 0) (omega (arith, ltb-false j (length P.lower) h)) in
          ap (λ (x : ℤ). is_zero x || le_z (pos 1) (entry j P.lower)) z

  inside_small :
      (l : List ℤ) → ((j : ℕ) → j < length l → goal_inside (entry j l) ≡ true) → (j : ℕ) → nat_abs (entry j l) ≤ max_goal
  inside_small l t =
      every_place (λ (x : ℤ). nat_abs x ≤ max_goal) l (λ j h. range_small max_goal (entry j l) (t j h)) (omega arith)

  pub fits : Fits P L
  unfolding n m
  fits =
      let long = column_lengths P.problem P.lower P.upper P.low P.high f.column_lengths in
      let lower : length P.lower ≡ P.problem.columns = long.0 in
      let upper : length P.upper ≡ P.problem.columns = long.1 in
      let low : length P.low ≡ P.problem.columns = long.2 in
      let high : length P.high ≡ P.problem.columns = long.3 in
      let rows : (all_span max_coefficient P.coefficients ≡ true) × (all_span max_right P.rights ≡ true) =
      both_true (all_span max_coefficient P.coefficients) (all_span max_right P.rights) f.rows in
      record {
        few_columns = leb-true P.problem.columns max_columns sizes.1;
        few_rows = leb-true P.problem.rows max_rows sizes.2;
        coefficients_long = eqb-true _ _ rows_long.0;
        rights_long = eqb-true _ _ rows_long.1;
        lower_long = lower;
        upper_long = upper;
        low_long = low;
        high_long = high;
        given_long = eqb-true _ _ ideals_long.0;
        ideals_long = eqb-true _ _ ideals_long.1;
        tableau_long = eqb-true _ _ lent_long.0;
        values_long = eqb-true _ _ lent_long.1;
        strides_long = eqb-true _ _ lent_long.2;
        coefficients_small = all_small max_coefficient P.coefficients rows.0;
        rights_small = all_small max_right P.rights rows.1;
        lower_small = spans_small max_bound P.lower (λ j h. (bound_at j h).0);
        upper_small = spans_small max_bound P.upper (λ j h. (bound_at j (omega arith)).1);
        low_small = inside_small P.low (λ j h. (goal_at j (omega arith)).0);
        high_small = inside_small P.high (λ j h. (goal_at j (omega arith)).1);
        goal_above = above_at (low ∙ sym lower);
      }
