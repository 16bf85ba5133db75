-- `rightside::find` meets its contract: the right side of the list (−b, then zeros), whose last numbers are copied where a list is found.
-- Assumes nothing.
use mathlib.Core.Path.{sym, ◌∙◌, ap}
use mathlib.Core.List.{List}
use lib.IntN.{ℤ}
use lib.ListN.{drop}
use Rattle.lattice.proofs.LentParts.{tail_is}
use Rattle.tableau.specs.RightSide.{Solved}
use Rattle.rightside.specs.Solutions.{solution_of, Righted}
use Rattle.rightside.specs.Sweeps.{found_of}
use Rattle.rightside.proofs.Answers.{list_small, found_is, righted_starts, start_refused, start_found, handed}
use Rattle.rightside.proofs.find.Goals as goal

pub right_side-requires-clause-within : goal.right_side-requires-clause-within
right_side-requires-clause-within c = (c.requires.form.small, list_small c.requires c.turn_over.ensures)

pub returns-in_err-right_side : goal.returns-in_err-right_side
returns-in_err-right_side c =
    let a = c.args in
    let x = found_of a.p a.t.now a.rights.now in
    let e =
    ap (λ (y : Righted). y.answer) c.in_err-right_side.ensures
    ∙ ap (λ (y : Solved). solution_of y tt) (found_is c.requires c.turn_over.ensures) in
    record {
      value = handed c.from_residual.result c.from_residual.ensures.1 ∙ e;
      start_after = sym (start_refused x tt _ a.start.now e);
    }

pub returns : goal.returns
returns c =
    let a = c.args in
    let u : List ℤ = c.right_side.new.v in
    let x = found_of a.p a.t.now a.rights.now in
    let s = found_is c.requires c.turn_over.ensures in
    let e = ap (λ (y : Righted). y.answer) c.in_ok-right_side.ensures ∙ ap (λ (y : Solved). solution_of y tt) s in
    record {
      value = e;
      start_after =
          c.copy_from_slice.ensures.after
          ∙ tail_is a.p.rows u
          ∙ sym
          (start_found x tt a.start.now (drop a.p.rows u) _ e
          (ap (λ (y : Solved). y.found) (sym s) ∙ righted_starts _ _ _ c.in_ok-right_side.ensures));
    }
