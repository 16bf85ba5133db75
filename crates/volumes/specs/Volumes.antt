-- Document 02, (iii), swept volumes: the third section of a text. "A third section follows the rows: the count of volumes; for each, its count of
-- paths; for each path, its count of intervals and their indices in any order."
--   SweepPath                 a path: the indices of its intervals, from 1, in the order of the text
--   Volume                    a volume: its paths, in the order of the text
--   is_on j p                 the index j stands on the path p
--   index, indices            an index after those of its path so far, and so many of them
--   path, paths               a path of a text with so many intervals, and so many of them
--   later_paths k             how many paths come after the first, of k
--   with_rows, path_count     a count of paths, where there are rows already
--   volume, volumes           a volume, and so many of them, where there are rows already
--   volume_section s n m at   the section of volumes of a text with n intervals and m rows
-- "volume" and "path" are document 02's own terms. 13 and the new 1 come "at that number's place in the text": a count of volumes or of
-- intervals that is only too large is not refused there, and then the text ends (11) or an index comes twice (13).
-- Assumes nothing.
use Rattle.std.specs.Prelude.{Bool, false, cond, ◌||◌, List, [], ◌∷◌, ◌++◌, ℕ, zero, suc, ◌+◌, ◌-◌, eqb, ltb, pos, nat_abs, length, Ok, Err}
use Rattle.problem.specs.declared.Refusal.TheVariants.{Size, Volume as WrongVolume}
use Rattle.sections.specs.Rules.{Outcome, then, within, no_less}
use Rattle.sections.specs.Sections.{deck_rows}

abbrev pub SweepPath : Type 0
SweepPath = List ℕ

abbrev pub Volume : Type 0
Volume = List SweepPath

-- ---- a path: "its count of intervals and their indices in any order"
unfoldable pub is_on : ℕ → SweepPath → Bool
is_on j [] = false
is_on j (i ∷ p) = eqb i j || is_on j p

-- "or an index outside or twice in one path", where done are the path's indices so far
abbrev pub index : List ℕ → ℕ → SweepPath → ℕ → Outcome ℕ
index s count done at =
    then (within s (pos 1) (pos count) WrongVolume at) (λ v at. cond (is_on (nat_abs v) done) (Err WrongVolume) (Ok (nat_abs v, at)))

-- k indices, after those done
unfoldable pub indices : List ℕ → ℕ → ℕ → SweepPath → ℕ → Outcome SweepPath
indices s zero count done at = Ok (done, at)
indices s (suc k) count done at = then (index s count done at) (λ j at. indices s k count (done ++ (j ∷ [])) at)

-- "a count .. of a path's intervals below 1"
abbrev pub path : List ℕ → ℕ → ℕ → Outcome SweepPath
path s count at = then (no_less s (pos 1) WrongVolume at) (λ k at. indices s (nat_abs k) count [] at)

-- k paths, after those done
unfoldable pub paths : List ℕ → ℕ → ℕ → Volume → ℕ → Outcome Volume
paths s zero count done at = Ok (done, at)
paths s (suc k) count done at = then (path s count at) (λ p at. paths s k count (done ++ (p ∷ [])) at)

-- ---- a volume, where there are rows already

-- a row is added "for each later path"
abbrev pub later_paths : ℕ → ℕ
later_paths k = k - 1

-- "a count of paths that makes a 49th row is 1"
abbrev pub with_rows : ℕ → ℕ → ℕ → Outcome ℕ
with_rows rows k at = cond (ltb deck_rows (rows + later_paths k)) (Err Size) (Ok (k, at))

-- "a count of paths .. below 1"
abbrev pub path_count : List ℕ → ℕ → ℕ → Outcome ℕ
path_count s rows at = then (no_less s (pos 1) WrongVolume at) (λ k at. with_rows rows (nat_abs k) at)

abbrev pub volume : List ℕ → ℕ → ℕ → ℕ → Outcome Volume
volume s count rows at = then (path_count s rows at) (λ k at. paths s k count [] at)

-- k volumes, after those done
unfoldable pub volumes : List ℕ → ℕ → ℕ → ℕ → List Volume → ℕ → Outcome (List Volume)
volumes s zero count rows done at = Ok (done, at)
volumes s (suc k) count rows done at =
    then (volume s count rows at) (λ v at. volumes s k count (rows + later_paths (length v)) (done ++ (v ∷ [])) at)

-- "a negative count of volumes"
abbrev pub volume_section : List ℕ → ℕ → ℕ → ℕ → Outcome (List Volume)
volume_section s count rows at = then (no_less s (pos 0) WrongVolume at) (λ k at. volumes s (nat_abs k) count rows [] at)
