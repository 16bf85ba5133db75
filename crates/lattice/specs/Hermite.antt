-- Row Hermite forms, built column by column.
--   Echelon             the shape: `done`, no column; `skip H`, a column of zeros before H; `step p r H`, the row p ∷ r above, and a column of
--                       zeros before H
--   width H, rows H     the number of columns, and the table
--   indent T            a column of zeros before T
--   Reduced H v         v's numbers at H's leads lie in 0 to lead − 1
--   Hermite H           the leads are above 0, and each row is reduced by the rows below it
--   Led n r             r has n numbers, and a lead above 0
--   Rising c T          T's leads rise: the first row's lies at column c or behind, each further row's behind the lead above it
-- Assumes nothing.
use Rattle.std.specs.Prelude.{◌≡◌, List, [], ◌∷◌, map, ℕ, suc, ◌<◌, ◌≤◌, length, ℤ, pos, ◌≤ℤ◌, ◌<ℤ◌}
use Rattle.whole.specs.Lists.{entry}
use Rattle.whole.specs.Tests.{Positive}
use Rattle.lattice.specs.Rows.{lead}

pub data Echelon : Type 0 where
  done : Echelon
  skip : Echelon → Echelon
  step : ℤ → List ℤ → Echelon → Echelon

abbrev pub width : Echelon → ℕ
width done = 0
width (skip H) = suc (width H)
width (step p r H) = suc (width H)

abbrev pub indent : List (List ℤ) → List (List ℤ)
indent T = map (λ r. pos 0 ∷ r) T

abbrev pub rows : Echelon → List (List ℤ)
rows done = []
rows (skip H) = indent (rows H)
rows (step p r H) = (p ∷ r) ∷ indent (rows H)

pub record Led (n : ℕ) (r : List ℤ) : Type 0 where
  pub wide : length r ≡ n
  pub inside : lead r < n
  pub above : Positive (entry (lead r) r)

abbrev pub Rising : ℕ → List (List ℤ) → Type 0
Rising c [] = Unit {0}
Rising c (r ∷ T) = (c ≤ lead r) × Rising (suc (lead r)) T

abbrev pub Reduced : Echelon → List ℤ → Type 0
Reduced done v = Unit {0}
Reduced (skip H) [] = Unit {0}
Reduced (skip H) (x ∷ v) = Reduced H v
Reduced (step p r H) [] = Unit {0}
Reduced (step p r H) (x ∷ v) = (pos 0 ≤ℤ x) × (x <ℤ p) × Reduced H v

abbrev pub Hermite : Echelon → Type 0
Hermite done = Unit {0}
Hermite (skip H) = Hermite H
Hermite (step p r H) = Positive p × (length r ≡ width H) × Reduced H r × Hermite H
