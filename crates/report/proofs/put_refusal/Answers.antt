-- `report::put_refusal` meets its contract: any refusal but NONE follows REFUSED by its number. Assumes nothing.
use Rattle.std.proofs.Common.{◌∙◌, arith, ap, length}
use Rattle.report.proofs.Laws.{wrote_three, refusal_other}
use Rattle.report.proofs.put_refusal.Goals as goal

pub returns-in_default : goal.returns-in_default
returns-in_default c =
    let e = refusal_other c.args.why c.in_default.not-NoWholeNumbers in
    let f = rw (c.from-in_default.ensures ∙ c.from.ensures) at c.put_field-b.ensures in
    rw e (wrote_three _ _ _ c.put-a.ensures f c.put-in_default.ensures (omega (arith, c.requires, ap length e)))
