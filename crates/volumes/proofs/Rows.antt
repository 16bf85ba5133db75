-- Laws of the rows of later paths.
--   later_lines                they are the rows that the paths' lines state
--   length_volume              a volume adds a line for each later path; swept-end, one more volume adds its own behind the others
-- Assumes nothing.
use mathlib.Core.Path.{◌≡◌, refl, sym, ◌∙◌, ap, ap₂}
use mathlib.Core.List.{List, [], ◌∷◌, ◌++◌, map, append-nil, append_assoc}
use Prim.Native.Nat.{ℕ, suc, ◌+◌}
use native.Mathlib.Omega.{arith}
use lib.ListN.{length, length-map}
use Rattle.sections.specs.Sections.{deck_columns, Line}
use Rattle.sections.specs.StatedColumns.{coefficient_rows}
use Rattle.volumes.specs.Volumes.{SweepPath, Volume, later_paths}
use Rattle.volumes.specs.PathLines.{path_line, volume_lines, swept_lines}
use Rattle.volumes.specs.VolumesRead.{Named, EachNamed, marks_of, later_row}
use Rattle.volumes.proofs.Ones.{swept_row}

pub later_lines : (k c : ℕ) (first : SweepPath) (ps : List SweepPath) → Named k first → EachNamed k ps
    → map (later_row (marks_of first)) ps ≡ coefficient_rows deck_columns c (map (path_line first) ps)
unfolding coefficient_rows
later_lines k c first [] v w = refl
later_lines k c first (p ∷ ps) v w =
    let z : c + 0 ≡ c = omega arith in
    ap₂ ◌∷◌ (swept_row k first p v w.0) (later_lines k c first ps v w.1 ∙ ap (λ (j : ℕ). coefficient_rows deck_columns j
    (map (path_line first) ps)) (sym z))

-- ---- volumes
pub length_volume : (v : Volume) → length (volume_lines v) ≡ later_paths (length v)
length_volume [] = omega arith
length_volume (first ∷ ps) = length-map ps (path_line first) ∙ later (length ps)
  where
    later : (k : ℕ) → k ≡ later_paths (suc k)
    later k = omega arith

pub swept_end : (vs : List Volume) (v : Volume) → swept_lines (vs ++ (v ∷ [])) ≡ swept_lines vs ++ volume_lines v
unfolding swept_lines
swept_end [] v = append-nil (volume_lines v)
swept_end (u ∷ vs) v = ap (λ (ls : List Line). volume_lines u ++ ls) (swept_end vs v) ∙ sym (append_assoc (volume_lines u) (swept_lines vs)
    (volume_lines v))
