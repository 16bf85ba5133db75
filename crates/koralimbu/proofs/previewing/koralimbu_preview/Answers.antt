-- `koralimbu::previewing::koralimbu_preview` meets its contract: what the preview shows is told by the report. Assumes nothing.
use Rattle.koralimbu.proofs.PreviewLaws.{is_seen}
use Rattle.koralimbu.proofs.previewing.koralimbu_preview.Goals as goal

pub returns : goal.returns
returns c = is_seen _ c.args.standing.now _ _ _ c.preview.ensures _ _ _ c.if-report-ne-STEP.false (c.tell_step.ensures _)
