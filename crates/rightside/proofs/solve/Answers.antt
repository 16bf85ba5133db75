-- `rightside::solve` meets its contract: the form, and the right side of it, unless a number beyond M was met. Assumes nothing.
use mathlib.Core.Path.{◌≡◌, sym, ◌∙◌, ap}
use mathlib.Core.Bool.{false}
use Prim.Native.Nat.{ℕ}
use native.Mathlib.Omega.{arith}
use Rattle.std.specs.Prelude.{Result, Ok, Err}
use Rattle.whole.specs.Lists.{zeros}
use Rattle.lattice.specs.Rows.{flat}
use Rattle.problem.specs.declared.Refusal.{Refusal}
use Rattle.problem.specs.declared.Refusal.TheVariants.{Elimination}
use Rattle.tableau.specs.Table.{max_width}
use Rattle.tableau.specs.RightSide.{Solved}
use Rattle.tableau.specs.LentTable.{matrix_of, form_of}
use Rattle.tableau.specs.RoundCount.{form_rounds}
use Rattle.tableau.proofs.Forms.{formed, form_over, form_kept}
use Rattle.tableau.proofs.Told.{told_ok, told_err}
use Rattle.rightside.specs.Solutions.{solved_of, solution_of, start_after}
use Rattle.rightside.proofs.Answers.{handed, solution_found, solution_over, solution_kept, solution_err, solution_ok}
use Rattle.rightside.proofs.SolveLaws.{findable, solved_is, solved_over, table_over, table_kept, answer_over, start_kept}
use Rattle.rightside.proofs.solve.Goals.{After-find, In_ok-rounds, Start}
use Rattle.rightside.proofs.solve.Goals as goal

-- the solution that the definition gives
abbrev X : Start → Solved
X s = solved_of s.args.p s.args.coefficients.now s.args.rights.now

-- the rounds of its form
abbrev R : Start → ℕ
R s = form_rounds s.args.p.columns (matrix_of s.args.p s.args.coefficients.now)

-- once the form stands
module _ (c : In_ok-rounds) where
  abbrev s_of : Start
  s_of = (goal.at.In_ok-rounds c).Start

  told : ((form_of s_of.args.p s_of.args.coefficients.now).over ≡ false) × (c.in_ok-rounds.rounds ≡ R s_of)
  told = told_ok (form_of s_of.args.p s_of.args.coefficients.now).over c.in_ok-rounds.ensures.value

  form_is : c.form.new.t ≡ flat (form_of s_of.args.p s_of.args.coefficients.now).table
  form_is = c.in_ok-rounds.ensures.t_after ∙ form_kept s_of.args.p s_of.args.coefficients.now s_of.args.t.now told.0

-- what the right side answers and leaves
module _ (c : After-find) where
  abbrev k_of : In_ok-rounds
  k_of = (goal.at.After-find c).In_ok-rounds

  found : (c.find.result ≡ solution_of (X (s_of k_of)) tt) × (c.find.new.start ≡ start_after (X (s_of k_of)) (s_of k_of).args.start.now)
  found =
      let s = s_of k_of in
      let e = solved_is s.requires.form s.args.rights.now (told k_of).0 (formed s.requires.form (told k_of).0 (form_is k_of)) in (
        c.find.ensures.value ∙ ap (λ (x : Solved). solution_of x tt) (sym e),
        c.find.ensures.start_after ∙ ap (λ (x : Solved). start_after x s.args.start.now) (sym e),
      )

pub returns-in_err-rounds : goal.returns-in_err-rounds
returns-in_err-rounds c =
    let a = c.args in
    let s = (goal.at.returns-in_err-rounds c).Start in
    let f = told_err (form_of a.p a.coefficients.now).over (R s) c.in_err-rounds.ensures.value in
    let o = solved_over a.p a.coefficients.now a.rights.now f in
    record {
      value = handed c.from_residual.result c.from_residual.ensures.1 ∙ sym (answer_over (X s) (R s) o);
      t_after =
          c.in_err-rounds.ensures.t_after
          ∙ form_over a.p a.coefficients.now a.t.now f
          ∙ sym (table_over a.p a.coefficients.now a.rights.now a.t.now o);
      start_after = sym (start_kept (X s) a.start.now o);
    }

pub find-requires : goal.find-requires
find-requires c =
    let k = (goal.at.find-requires c).In_ok-rounds in
    findable max_width c.requires (omega (arith, c.requires.form.columns, c.requires.form.rows)) c.form.auto.t
    (formed c.requires.form (told k).0 (form_is k))

pub returns-in-Elimination : goal.returns-in-Elimination
returns-in-Elimination c =
    let a = c.args in
    let s = (goal.at.returns-in-Elimination c).Start in
    let w = found (goal.at.returns-in-Elimination c).After-find in
    let e : ◌≡◌ {A = Result (Unit {0}) Refusal} (Err Elimination) (solution_of (X s) tt) =
    ap Err (sym c.in-Elimination.is) ∙ (sym c.in-Err.is ∙ w.0) in
    record {
      value = ap Err c.in-Elimination.is ∙ solution_err (X s) tt (R s) Elimination e;
      t_after =
          c.fill.ensures.after (λ y f. f)
          ∙ ap zeros c.form.auto.t
          ∙ sym (table_over a.p a.coefficients.now a.rights.now a.t.now (solution_over (X s) tt e));
      start_after = w.1;
    }

pub returns-in_default-why : goal.returns-in_default-why
returns-in_default-why c =
    let a = c.args in
    let s = (goal.at.returns-in_default-why c).Start in
    let f = (goal.at.returns-in_default-why c).After-find in
    let w = found f in
    let e = sym c.in-Err.is ∙ w.0 in
    record {
      value = solution_err (X s) tt (R s) c.in-Err.why e;
      t_after =
          form_is (k_of f)
          ∙ sym
          (table_kept a.p a.coefficients.now a.rights.now a.t.now (solution_kept (X s) tt c.in-Err.why c.in_default-why.not-Elimination e));
      start_after = w.1;
    }

pub returns : goal.returns
returns c =
    let a = c.args in
    let s = (goal.at.returns c).Start in
    let f = (goal.at.returns c).After-find in
    let w = found f in
    let e = sym c.in_default.is ∙ w.0 in
    record {
      value = ap Ok (told (k_of f)).1 ∙ solution_ok (X s) tt (R s) e;
      t_after = form_is (k_of f) ∙ sym (table_kept a.p a.coefficients.now a.rights.now a.t.now (solution_found (X s) tt e));
      start_after = w.1;
    }
