-- What a search goes by.
--   Search               what it reads: the part, the columns with their values, the basis, and the ranking (declared in src/)
--   columns_of S         the columns
--   basis_of S           the basis
--   better S o i         the move o improves column i
--   passing S o q j      column j passes under the move o, against the measure q
--   measure_of S i       the measure of column i
--   step_along S         the step of the definition, where the columns are tried along the ranking
--   Here S k i m         the place k of the ranking has the column i, whose measure is m
-- Assumes nothing.
use Rattle.std.specs.Prelude.{◌≡◌, Bool, List, ℕ, ◌<◌, ℤ, length, get_or, Option}
use Rattle.settling.specs.declared.Measure.{Measure}
use Rattle.settling.specs.declared.Move.{Move}
use Rattle.settling.specs.declared.Step.{Step}
use Rattle.settling.specs.Columns.{Columns, columns_in}
use Rattle.settling.specs.Steps.{measure_at, passes_at, improves, first_column, step_at}
use Rattle.settling.specs.Views.{vectors}
use Rattle.search.specs.declared.given.Search.{Search}

abbrev pub columns_of : Search → Columns
columns_of S = columns_in S.basis.columns S.columns.now

abbrev pub basis_of : Search → List (List ℤ)
basis_of S = vectors S.basis

abbrev pub better : Search → Move → ℕ → Bool
better S = improves S.part (columns_of S) (basis_of S) S.values.now

abbrev pub passing : Search → Move → Measure → ℕ → Bool
passing S = passes_at S.part (columns_of S) (basis_of S) S.values.now

abbrev pub measure_of : Search → ℕ → Measure
measure_of S = measure_at S.part (columns_of S) S.values.now

abbrev pub step_along : Search → Option Step
step_along S = first_column (step_at S.part (columns_of S) (basis_of S) S.values.now) S.order.now

pub record Here (S : Search) (k i : ℕ) (m : Measure) : Type 0 where
  pub inside : k < length S.order.now
  pub column : i ≡ get_or S.order.now k 0
  pub measure : m ≡ measure_of S i
