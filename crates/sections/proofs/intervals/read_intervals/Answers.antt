-- `sections::intervals::read_intervals` meets its contract: a refused section is wiped. Assumes nothing.
use Rattle.std.proofs.Common.{sym, ◌∙◌}
use Rattle.sections.specs.StatedColumns.{blank_tables}
use Rattle.sections.proofs.Storage.{wiped}
use Rattle.sections.proofs.intervals.read_intervals.Goals as goal

pub returns-then-is_err-clause-read : goal.returns-then-is_err-clause-read
unfolding blank_tables
returns-then-is_err-clause-read c = wiped _ _ _ _ _ _ c.scan_intervals-read.ensures.read (sym c.is_err.ensures.value ∙ c.if-is_err.true)
