-- What a search is given.
--   Measurable p T v       there is a column for each value, and each column can be measured in part p
--   Allowed p C v          the values are such as a move of the part may leave
--   InOrder p C v L        the columns of the list L are a ranking: proper, and none larger than an earlier one
-- Assumes nothing.
use Rattle.std.specs.Prelude.{◌≡◌, true, false, List, ℕ, ◌<◌, ◌≤◌, ℤ, length, get_or}
use Rattle.problem.specs.Limits.{max_columns}
use Rattle.settling.specs.declared.Column.{Column}
use Rattle.settling.specs.declared.Part.{Part}
use Rattle.settling.specs.Columns.{Columns, columns_in, cell}
use Rattle.settling.specs.Steps.{is_allowed, larger_at}
use Rattle.settling.specs.Sizes.{FitCell}
use Rattle.settling.specs.Rankings.{Proper}

pub record Measurable (p : Part) (T : List Column) (v : List ℤ) : Type 0 where
  pub long : length T ≡ length v
  pub sized : (j : ℕ) → j < length v → FitCell p (cell (columns_in (length v) T) v j)

pub record Allowed (p : Part) (C : Columns) (v : List ℤ) : Type 0 where
  pub each : (j : ℕ) → j < C.count → is_allowed p (cell C v j) ≡ true

pub record InOrder (p : Part) (C : Columns) (v : List ℤ) (L : List ℕ) : Type 0 where
  pub few : length L ≤ max_columns
  pub below : (x : ℕ) → x < length L → get_or L x 0 < C.count
  pub proper : (x : ℕ) → x < length L → Proper p C v (get_or L x 0)
  pub falls : (x y : ℕ) → x < y → y < length L → larger_at p C v (get_or L y 0) (get_or L x 0) ≡ false
