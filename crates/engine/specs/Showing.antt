-- The preview past the checks, in the terms of the buffers.
--   Displayed             what is told, and what the list after and the strides then hold; `displayed` makes one of the three
--   displayed_by C N v    the next step of the list v over the basis N, with the strides that it gives
-- Assumes nothing.
use Rattle.std.specs.Prelude.{List, ℕ, ℤ, Option}
use Rattle.settling.specs.Columns.{Columns}
use Rattle.settling.specs.Steps.{part_of, next_step}
use Rattle.settling.specs.Strides.{strides}
use Rattle.engine.specs.Preview.{told, after}
use Rattle.engine.specs.declared.preview.Next.{Next}

pub record Displayed : Type 0 where
  pub next : Option Next
  pub after : List ℤ
  pub strides : List ℕ

abbrev pub displayed : Option Next → List ℤ → List ℕ → Displayed
displayed next after strides = record { next = next; after = after; strides = strides }

abbrev pub displayed_by : Columns → List (List ℤ) → List ℤ → Displayed
displayed_by C N v = displayed (told (part_of C v) (next_step C N v)) (after N v (next_step C N v)) (strides C.count N)
