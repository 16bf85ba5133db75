-- What the section of volumes gives where it is read.
--   Distinct p              no index comes twice on the path p
--   Proper n p              the path p of a text with n intervals: its indices name intervals, none comes twice
--   EachProper, AllProper   so it is on each path of a volume, and of all volumes
--   each_named              then each path of it is named
--   volume_proper, section_proper   the volumes that were read are so
-- Assumes nothing.
use mathlib.Core.Path.{◌≡◌, refl, sym, subst}
use mathlib.Core.Bool.{Bool, true, false, cond}
use mathlib.Core.List.{List, [], ◌∷◌, ◌++◌}
use Prim.Native.Nat.{ℕ, zero, suc, ◌+◌, ◌≤◌}
use borrow.Author.Tests.{eqb-false, ne_eqb}
use lib.Dec.{eqb}
use lib.IntN.{pos, nat_abs}
use lib.ListN.{length}
use Rattle.whole.proofs.Tests.{neither}
use Rattle.lattice.specs.Span.{All}
use Rattle.lattice.proofs.Span.{all_end}
use Rattle.problem.specs.declared.Refusal.TheVariants.{Volume as WrongVolume}
use Rattle.std.proofs.Common.{Ok, Err}
use Rattle.sections.specs.Rules.{Outcome, within, no_less}
use Rattle.sections.proofs.Numbers.{same_ok, ok_not_no, then_ok, count_in}
use Rattle.volumes.specs.Volumes.{SweepPath, Volume, is_on, index, indices, path, paths, later_paths, path_count, volume, volumes, volume_section}
use Rattle.volumes.specs.VolumesRead.{Names, Named, EachNamed}

abbrev pub Distinct : SweepPath → Type 0
Distinct [] = Unit {0}
Distinct (j ∷ p) = (is_on j p ≡ false) × Distinct p

abbrev pub Proper : ℕ → SweepPath → Type 0
Proper n p = Named n p × Distinct p

abbrev pub EachProper : ℕ → Volume → Type 0
EachProper n v = All (Proper n) v

abbrev pub AllProper : ℕ → List Volume → Type 0
AllProper n vs = All (EachProper n) vs

pub each_named : (n : ℕ) (ps : List SweepPath) → EachProper n ps → EachNamed n ps
each_named n [] w = tt
each_named n (p ∷ ps) w = (w.0.0, each_named n ps w.1)

-- ---- one more behind those that were read
off_end : (i j : ℕ) (p : SweepPath) → is_on i p ≡ false → eqb j i ≡ false → is_on i (p ++ (j ∷ [])) ≡ false
unfolding is_on
off_end i j [] h e = rw e
off_end i j (k ∷ p) h e = let t = neither (eqb k i) (is_on i p) h in rw (t.0, off_end i j p t.1 e)

distinct_end : (p : SweepPath) (j : ℕ) → Distinct p → is_on j p ≡ false → Distinct (p ++ (j ∷ []))
unfolding is_on
distinct_end [] j d h = (refl, tt)
distinct_end (i ∷ p) j d h =
    let t = neither (eqb i j) (is_on j p) h in
    (off_end i j p d.0 (ne_eqb j i (λ e. eqb-false i j t.0 (sym e))), distinct_end p j d.1 t.1)

-- ---- the section
module _ (s : List ℕ) (count : ℕ) where
  index_proper : (done : SweepPath) (at e j : ℕ) → index s count done at ≡ Ok (j, e) → ((1 ≤ j) × (j ≤ count)) × (is_on j done ≡ false)
  index_proper done at e j h =
      let t = then_ok (within s (pos 1) (pos count) WrongVolume at) (λ v at. cond (is_on (nat_abs v) done) (Err WrongVolume)
      (Ok (nat_abs v, at))) j e h in
      new (nat_abs t.what) t.at (is_on (nat_abs t.what) done) refl (count_in s 1 count WrongVolume t.what at t.at t.first)
      t.second
    where
      new : (i p : ℕ) (b : Bool) → is_on i done ≡ b → (1 ≤ i) × (i ≤ count) → cond {A = Outcome ℕ} b (Err WrongVolume) (Ok (i, p)) ≡ Ok (j, e)
          → ((1 ≤ j) × (j ≤ count)) × (is_on j done ≡ false)
      new i p true f r h = absurd (ok_not_no h)
      new i p false f r h = subst (λ (i : ℕ). ((1 ≤ i) × (i ≤ count)) × (is_on i done ≡ false)) (same_ok h) (r, f)

  indices_proper : (k : ℕ) (done : SweepPath) (at e : ℕ) (p : SweepPath) → indices s k count done at ≡ Ok (p, e) → Proper count done → Proper count p
  unfolding indices
  indices_proper zero done at e p h w = subst (Proper count) (same_ok h) w
  indices_proper (suc k) done at e p h w =
      let t = then_ok (index s count done at) (λ j at. indices s k count (done ++ (j ∷ [])) at) p e h in
      let j = t.what in
      let i = index_proper done at t.at j t.first in
      indices_proper k (done ++ (j ∷ [])) t.at e p t.second (all_end (Names count) done j w.0 i.0, distinct_end done j w.1 i.1)

  path_proper : (at e : ℕ) (p : SweepPath) → path s count at ≡ Ok (p, e) → Proper count p
  path_proper at e p h =
      let t = then_ok (no_less s (pos 1) WrongVolume at) (λ k at. indices s (nat_abs k) count [] at) p e h in
      indices_proper (nat_abs t.what) [] t.at e p t.second (tt, tt)

  paths_proper : (k : ℕ) (done : Volume) (at e : ℕ) (v : Volume) → paths s k count done at ≡ Ok (v, e) → EachProper count done → EachProper count v
  unfolding paths
  paths_proper zero done at e v h w = subst (EachProper count) (same_ok h) w
  paths_proper (suc k) done at e v h w =
      let t = then_ok (path s count at) (λ p at. paths s k count (done ++ (p ∷ [])) at) v e h in
      let p = t.what in
      paths_proper k (done ++ (p ∷ [])) t.at e v t.second (all_end (Proper count) done p w (path_proper at t.at p t.first))

  pub volume_proper : (rows at e : ℕ) (v : Volume) → volume s count rows at ≡ Ok (v, e) → EachProper count v
  volume_proper rows at e v h =
      let t = then_ok (path_count s rows at) (λ k at. paths s k count [] at) v e h in
      paths_proper t.what [] t.at e v t.second tt

  volumes_proper : (k rows : ℕ) (done : List Volume) (at e : ℕ) (vs : List Volume) → volumes s k count rows done at ≡ Ok (vs, e)
      → AllProper count done → AllProper count vs
  unfolding volumes
  volumes_proper zero rows done at e vs h w = subst (AllProper count) (same_ok h) w
  volumes_proper (suc k) rows done at e vs h w =
      let t = then_ok (volume s count rows at) (λ v at. volumes s k count (rows + later_paths (length v)) (done ++ (v ∷ [])) at) vs e h in
      let v = t.what in
      volumes_proper k (rows + later_paths (length v)) (done ++ (v ∷ [])) t.at e vs t.second
      (all_end (EachProper count) done v w (volume_proper rows at t.at v t.first))

  pub section_proper : (rows at e : ℕ) (vs : List Volume) → volume_section s count rows at ≡ Ok (vs, e) → AllProper count vs
  section_proper rows at e vs h =
      let t = then_ok (no_less s (pos 0) WrongVolume at) (λ k at. volumes s (nat_abs k) count rows [] at) vs e h in
      volumes_proper (nat_abs t.what) rows [] t.at e vs t.second tt
