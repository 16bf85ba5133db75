-- `engine::preview::show_on` meets its contract: the step can be taken, since the list is ready. Assumes nothing.
use Rattle.std.proofs.Common.{◌≡◌, sym, ◌∙◌, ap, length, Some}
use Rattle.settling.specs.declared.Turn.{Turn}
use Rattle.settling.specs.Columns.{columns_in}
use Rattle.settling.specs.Steps.{step, next_step}
use Rattle.settling.specs.Views.{vectors}
use Rattle.settling.proofs.Settlings.{taken_ready}
use Rattle.engine.proofs.preview.show_on.Goals as goal

pub take_move-requires-clause-viewed : goal.take_move-requires-clause-viewed
take_move-requires-clause-viewed c =
    let e : next_step (columns_in c.args.basis.columns c.args.columns.now) (vectors c.args.basis) c.args.standing.now
    ≡ Some (step c.in_ok-step.step.column c.in_ok-step.step.o) =
    sym (ap (λ (x : Turn). x.step) c.turn_at-turn.ensures) ∙ c.in_ok-step.was in (
      (taken_ready c.args.basis c.args.standing.now c.args.columns.now c.in_ok-step.step.column c.in_ok-step.step.o c.requires.0 e).0,
      ap length c.copy.ensures ∙ c.requires.0.values_long,
    )
