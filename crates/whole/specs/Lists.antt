-- Lists of whole numbers.
--   entry i l    the number at place i, counted from 0; 0 past the end
--   zeros n      n numbers that are 0
-- Assumes nothing.
use Rattle.std.specs.Prelude.{List, ℕ, ℤ, pos, get_or, replicate}

abbrev pub entry : ℕ → List ℤ → ℤ
entry i l = get_or l i (pos 0)

abbrev pub zeros : ℕ → List ℤ
zeros n = replicate n (pos 0)
