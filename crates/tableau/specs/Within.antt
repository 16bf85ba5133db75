-- Lists whose numbers lie within ±M.
--   Within l   no number of l lies beyond ±M
-- Assumes nothing.
use Rattle.std.specs.Prelude.{◌≡◌, false, List, ℤ}
use Rattle.problem.specs.Limits.{any_beyond}

abbrev pub Within : List ℤ → Type 0
Within l = any_beyond l ≡ false
