-- The sizes of a tableau.
--   max_tableau        the numbers of the largest one
--   product_small      a row's place in a tableau is a small number
-- Assumes nothing.
use Prim.Native.Nat.{ℕ, ◌+◌, ◌*◌, ◌≤◌}
use native.Mathlib.Nat.{mul-le-mul}
use Rattle.problem.specs.Limits.{max_columns, max_rows}

abbrev pub max_tableau : ℕ
max_tableau = max_columns * (max_rows + max_columns)

pub product_small : (a b : ℕ) → a ≤ max_columns → b ≤ max_rows + max_columns → a * b ≤ max_tableau
product_small a b h k = mul-le-mul {n₂ = max_columns} {m₂ = max_rows + max_columns} h k
