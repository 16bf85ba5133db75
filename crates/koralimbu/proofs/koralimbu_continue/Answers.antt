-- `koralimbu::koralimbu_continue` meets its contract: what the engine leaves is told by the report. Assumes nothing.
use Rattle.engine.specs.Assign.{continue}
use Rattle.koralimbu.proofs.CallLaws.{is_told}
use Rattle.koralimbu.proofs.koralimbu_continue.Goals as goal

pub returns : goal.returns
returns c = is_told continue _ _ _ _ _ _ _ c.if-report-ne-REPORT.false c.continue_from.ensures (c.tell.ensures _)
