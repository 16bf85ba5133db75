-- What a search notes of each vector: for either sign a column at which it failed alone.
--   Note               the two columns (declared in src/); `noted` the one of a sign
--   blocking_at l s x  the column noted for vector s with the sign x
--   Noted n l          a list of notes that name columns, of n; at first they may be any
-- Assumes nothing.
use Rattle.std.specs.Prelude.{◌≡◌, List, ℕ, ◌<◌, length, get_or}
use Rattle.problem.specs.Limits.{max_columns}
use Rattle.search.specs.declared.seen.Note.{Note}
use Rattle.search.specs.declared.seen.Sign.{Sign}
use Rattle.search.specs.declared.seen.Sign.TheVariants.{Plus, Minus}

abbrev pub noted : Note → Sign → ℕ
noted n Plus = n.plus
noted n Minus = n.minus

abbrev pub blocking_at : List Note → ℕ → Sign → ℕ
blocking_at l s x = noted (get_or l s (record { plus = 0; minus = 0 })) x

pub record Noted (n : ℕ) (l : List Note) : Type 0 where
  pub long : length l ≡ max_columns
  pub each : 0 < n → (s : ℕ) (x : Sign) → blocking_at l s x < n
