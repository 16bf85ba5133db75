-- What the reader's ideals are made from.
--   stated s   what a sheet states (declared in src/): its lists are long enough, and their numbers within the limits
-- Assumes nothing.
use Rattle.neighbours.specs.Neighbours.{Stated, stated_by}
use Rattle.neighbours.specs.declared.sheet.Sheet.{Sheet}

abbrev pub stated : Sheet → Stated
stated s = stated_by s.columns s.rows s.intervals s.coefficients.now s.lower.now s.upper.now s.low.now s.high.now
