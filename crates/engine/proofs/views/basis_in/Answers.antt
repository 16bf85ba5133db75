-- `engine::views::basis_in` meets its contract: it counts the leading rows, and the basis lies behind them. Assumes nothing.
use Rattle.std.proofs.Common.{arith, ◌≡◌, sym, ◌∙◌, ap, refl, ℕ, ◌+◌, ◌-◌, drop, subst}
use borrow.Author.Tests.{lt-ltb, le-ltb}
use Rattle.problem.specs.declared.Problem.{Problem}
use Rattle.settling.specs.Laid.{Laid}
use Rattle.settling.specs.Views.{rows_of}
use Rattle.rightside.proofs.Parting.{few_leading}
use Rattle.engine.proofs.BasisLaws.{basis_start, basis_lies}
use Rattle.engine.proofs.Readiness.{view_lies, tail}
use Rattle.engine.proofs.views.basis_in.Goals.{Then-h-n, Else-h-n, then-h-n, else-h-n}
use Rattle.engine.proofs.views.basis_in.Goals as goal

pub overflow_sub-result : goal.overflow_sub-result
overflow_sub-result c =
    omega (arith, few_leading c.args.p.rows (c.args.p.rows + c.args.p.columns) c.args.p.columns c.args.t.now, c.leading_rows-h.ensures)

pub invariant_of-result : goal.invariant_of-result
invariant_of-result c =
    let p : Problem = c.args.p in
    let h : ℕ = c.leading_rows-h.result in
    let s : c.if-h-n.at ≡ basis_start p h =
    elim c.if-h-n.branch [
      | then-h-n w ↦ w.at-is ∙ sym (rw (lt-ltb h p.columns w.if-h-n.true) refl)
      | else-h-n w ↦ w.at-is ∙ sym (rw (le-ltb h p.columns w.if-h-n.false) refl)
    ] in
    record {
      laid = subst (Laid p.columns (p.columns - h) (p.rows + p.columns)) (sym (tail c.args.t.now c.if-h-n.at ∙ ap (λ (i : ℕ). drop i c.args.t.now) s))
          (view_lies p h c.args.t.now c.requires.2);
    }

pub returns : goal.returns
returns c =
    let p : Problem = c.args.p in
    let h : ℕ = c.leading_rows-h.result in
    let s : c.if-h-n.at ≡ basis_start p h =
    elim c.if-h-n.branch [
      | then-h-n w ↦ w.at-is ∙ sym (rw (lt-ltb h p.columns w.if-h-n.true) refl)
      | else-h-n w ↦ w.at-is ∙ sym (rw (le-ltb h p.columns w.if-h-n.false) refl)
    ] in (
      ap (rows_of (p.columns - h) p.columns (p.rows + p.columns)) (tail c.args.t.now c.if-h-n.at ∙ ap (λ (i : ℕ). drop i c.args.t.now) s)
          ∙ basis_lies p c.args.t.now c.requires.2 h c.leading_rows-h.ensures,
      refl,
      omega arith,
    )
