-- `report::put_field` meets its contract: the space, and then the number. Assumes nothing.
use Rattle.report.proofs.Laws.{wrote_field}
use Rattle.report.proofs.put_field.Goals as goal

pub returns : goal.returns
returns g c = wrote_field _ c.put-e.ensures c.put.ensures c.requires
