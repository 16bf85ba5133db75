-- A text that has from a place on what another has, and more behind it, has the same volumes there.
--   index_extends, indices-, path-, paths-, count-, volume-, volumes-   the parts of the section
--   volume_section_extends                                              the section
-- Assumes nothing.
use mathlib.Core.List.{List, [], ◌∷◌, ◌++◌}
use Prim.Native.Nat.{ℕ, zero, suc, ◌+◌}
use lib.Dec.{ltb}
use lib.IntN.{pos, nat_abs}
use lib.ListN.{length}
use Rattle.text.specs.Tokens.{Token}
use Rattle.problem.specs.declared.Refusal.TheVariants.{Size, Volume as WrongVolume}
use Rattle.sections.specs.Sections.{deck_rows}
use Rattle.sections.proofs.Extending.{Extends, ok_carries, not_carries, then_carries, within_extends, no_less_extends}
use Rattle.volumes.specs.Volumes.{SweepPath, Volume, is_on, index, indices, path, paths, later_paths, path_count, volume, volumes, volume_section}

module _ (z : List Token) where
  index_extends : (count : ℕ) (done : SweepPath) → Extends z (λ s. index s count done)
  index_extends count done =
      then_carries (within_extends z (pos 1) (pos count) WrongVolume) (λ v _. not_carries (is_on (nat_abs v) done) (nat_abs v) WrongVolume)

  indices_extend : (k count : ℕ) (done : SweepPath) → Extends z (λ s. indices s k count done)
  unfolding indices
  indices_extend zero count done = ok_carries done
  indices_extend (suc k) count done = then_carries (index_extends count done) (λ j _. indices_extend k count (done ++ (j ∷ [])))

  path_extends : (count : ℕ) → Extends z (λ s. path s count)
  path_extends count = then_carries (no_less_extends z (pos 1) WrongVolume) (λ k _. indices_extend (nat_abs k) count [])

  paths_extend : (k count : ℕ) (done : Volume) → Extends z (λ s. paths s k count done)
  unfolding paths
  paths_extend zero count done = ok_carries done
  paths_extend (suc k) count done = then_carries (path_extends count) (λ p _. paths_extend k count (done ++ (p ∷ [])))

  count_extends : (rows : ℕ) → Extends z (λ s. path_count s rows)
  count_extends rows =
      then_carries (no_less_extends z (pos 1) WrongVolume) (λ k _.
      not_carries (ltb deck_rows (rows + later_paths (nat_abs k))) (nat_abs k) Size)

  volume_extends : (count rows : ℕ) → Extends z (λ s. volume s count rows)
  volume_extends count rows = then_carries (count_extends rows) (λ k _. paths_extend k count [])

  volumes_extend : (k count rows : ℕ) (done : List Volume) → Extends z (λ s. volumes s k count rows done)
  unfolding volumes
  volumes_extend zero count rows done = ok_carries done
  volumes_extend (suc k) count rows done =
      then_carries (volume_extends count rows) (λ v _. volumes_extend k count (rows + later_paths (length v)) (done ++ (v ∷ [])))

  pub volume_section_extends : (n m : ℕ) → Extends z (λ s. volume_section s n m)
  volume_section_extends n m = then_carries (no_less_extends z (pos 0) WrongVolume) (λ k _. volumes_extend (nat_abs k) n m [])
