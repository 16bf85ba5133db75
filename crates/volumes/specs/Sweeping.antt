-- Document 02, (iii): "all paths of each volume have equal sums".
--   along x p         the sum of the list x along the path p
--   EqualSums x v     any two paths of the volume v have the same sum in the list x
--   Sweeps x vs       so it is for each of the volumes vs
-- Assumes nothing.
use Rattle.std.specs.Prelude.{◌≡◌, List, [], ◌∷◌, ℕ, ◌-◌, ◌<◌, ℤ, pos, ◌+ℤ◌, length, get_or}
use Rattle.whole.specs.Lists.{entry}
use Rattle.lattice.specs.Span.{All}
use Rattle.volumes.specs.Volumes.{SweepPath, Volume}

-- indices count from 1
unfoldable pub along : List ℤ → SweepPath → ℤ
along x [] = pos 0
along x (j ∷ p) = entry (j - 1) x +ℤ along x p

pub record EqualSums (x : List ℤ) (v : Volume) : Type 0 where
  pub equal : (i j : ℕ) → i < length v → j < length v → along x (get_or v i []) ≡ along x (get_or v j [])

abbrev pub Sweeps : List ℤ → List Volume → Type 0
Sweeps x vs = All (EqualSums x) vs
