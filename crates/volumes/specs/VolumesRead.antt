-- What the functions of the section of volumes answer, as outcomes, and what they leave in the rows that they are lent.
--   Names n j                the index j names one of n intervals; Named n p, so does each index of the path p; EachNamed, so it is on each path
--   marked p u               the marks u with those of the path p set; no_marks, where none is; marks_of p, those of the path p alone
--   as_marks o               a path that was read, as an outcome, by its marks
--   less u v                 marks less marks, as numbers: 1 where u alone is set, −1 where v alone is
--   later_row f p            the row of the later path p, where path 1 has the marks f
--   LaterRead, PathsRead     the next later path, and all later ones of a volume, as outcomes, with the rows that they left: PathsStored
--   VolumeRead               a volume, likewise
--   volumes_left c t o       what the section of volumes answers and leaves of the outcome o, from the cursor c on in the rows t: its rows behind
--                            those that are there, or all blank
-- Assumes nothing.
use Rattle.std.specs.Prelude.{◌≡◌, Bool, true, false, List, [], ◌∷◌, ◌++◌, map, ℕ, ◌+◌, ◌-◌, ◌≤◌, ℤ, pos, ◌-ℤ◌, length, set, replicate, Result, Ok}
use Rattle.std.specs.Prelude.{Err}
use Rattle.std.specs.Int.{from_bool}
use Rattle.lattice.specs.Span.{All}
use Rattle.text.specs.Overwriting.{overwritten}
use Rattle.problem.specs.declared.Refusal.{Refusal}
use Rattle.sections.specs.Rules.{Outcome, then}
use Rattle.sections.specs.Sections.{deck_columns}
use Rattle.sections.specs.StatedColumns.{coefficient_rows, blank_tables}
use Rattle.sections.specs.SectionsRead.{Told, left, cursor}
use Rattle.sections.specs.declared.Cursor.{Cursor}
use Rattle.volumes.specs.Volumes.{SweepPath, Volume, later_paths}
use Rattle.volumes.specs.PathLines.{volume_lines, swept_lines}

-- ---- a path
abbrev pub Names : ℕ → ℕ → Type 0
Names n j = (1 ≤ j) × (j ≤ n)

abbrev pub Named : ℕ → SweepPath → Type 0
Named n p = All (Names n) p

abbrev pub EachNamed : ℕ → List SweepPath → Type 0
EachNamed n ps = All (Named n) ps

-- indices count from 1
unfoldable pub marked : SweepPath → List Bool → List Bool
marked [] u = u
marked (j ∷ p) u = marked p (set u (j - 1) true)

unfoldable pub no_marks : List Bool
no_marks = replicate deck_columns false

abbrev pub marks_of : SweepPath → List Bool
marks_of p = marked p no_marks

abbrev pub as_marks : Outcome SweepPath → Outcome (List Bool)
as_marks o = then o (λ p at. Ok (marks_of p, at))

-- ---- later paths: their rows in the table
unfoldable pub less : List Bool → List Bool → List ℤ
less [] v = []
less (x ∷ u) [] = []
less (x ∷ u) (y ∷ v) = (pos (from_bool x) -ℤ pos (from_bool y)) ∷ less u v

abbrev pub later_row : List Bool → SweepPath → List ℤ
later_row f p = less f (marks_of p)

abbrev pub LaterRead : Outcome SweepPath → Cursor → Result Cursor Refusal → List Bool → List (List ℤ) → List (List ℤ) → Type 0
LaterRead o c r f t₀ t =
    Told o (λ p e d. (d ≡ cursor e c.intervals c.columns (c.rows + 1)) × (t ≡ set t₀ c.rows (later_row f p))) r

-- k of them, from the cursor c up to the cursor d; o: by the paths before them
pub record PathsStored (o : Volume → Outcome Volume) (k : ℕ) (c d : Cursor) (f : List Bool) (t₀ t : List (List ℤ)) : Type 0 where
  pub later : List SweepPath
  pub many : length later ≡ k
  pub read : (done : Volume) → o done ≡ Ok (done ++ later, d.at)
  pub cursor_is : d ≡ cursor d.at c.intervals c.columns (c.rows + k)
  pub rows_are : t ≡ overwritten t₀ c.rows (map (later_row f) later)

abbrev pub PathsRead : (Volume → Outcome Volume) → ℕ → Cursor → Result Cursor Refusal → List Bool → List (List ℤ) → List (List ℤ) → Type 0
PathsRead o k c (Ok d) f t₀ t = PathsStored o k c d f t₀ t
PathsRead o k c (Err why) f t₀ t = (done : Volume) → o done ≡ Err why

-- ---- a volume
abbrev pub VolumeRead : Outcome Volume → Cursor → Result Cursor Refusal → List (List ℤ) → List (List ℤ) → Type 0
VolumeRead o c r t₀ t =
    Told o (λ v e d. (d ≡ cursor e c.intervals c.columns (c.rows + later_paths (length v)))
    × (t ≡ overwritten t₀ c.rows (coefficient_rows deck_columns c.columns (volume_lines v)))) r

-- ---- the section
abbrev pub volumes_left : Cursor → List (List ℤ) → Outcome (List Volume) → Result Cursor Refusal × List (List ℤ)
volumes_left c t =
    left (λ vs e. cursor e c.intervals c.columns (c.rows + length (swept_lines vs)))
    (λ vs. overwritten t c.rows (coefficient_rows deck_columns c.columns (swept_lines vs))) blank_tables.rows
