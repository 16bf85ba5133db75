-- `koralimbu::koralimbu_assign` meets its contract: what the engine leaves is told by the report. Assumes nothing.
use Rattle.engine.specs.Assign.{assign}
use Rattle.koralimbu.proofs.CallLaws.{is_told}
use Rattle.koralimbu.proofs.koralimbu_assign.Goals as goal

pub returns : goal.returns
returns c = is_told assign _ _ _ _ _ _ _ c.if-report-ne-REPORT.false c.assign.ensures (c.tell.ensures _)
