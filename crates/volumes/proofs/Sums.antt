-- The rows of volumes and sums along paths.
--   dot_path      the line of a path, times a list: the list's sum along it
--   dot_later     the row of a later path, times a list: the sum along path 1 less that along the later one
--   swept_zero    the rows of volumes, times a list, are 0 exactly when all paths of each volume have equal sums
-- Assumes nothing.
use mathlib.Core.Path.{◌≡◌, refl, sym, ◌∙◌, ap, ap₂, subst}
use mathlib.Core.Logic.{◌↔◌}
use mathlib.Core.Bool.{false}
use mathlib.Core.List.{List, [], ◌∷◌, ◌++◌, map}
use Prim.Native.Nat.{ℕ, zero, suc, ◌-◌, ◌≤◌, ◌<◌}
use native.Mathlib.Omega.{arith}
use borrow.Author.Tests.{eqb-false}
use lib.Dec.{eqb}
use lib.IntN.{ℤ, pos, negsuc, ◌+ℤ◌, ◌*ℤ◌}
use lib.ListN.{length, get_or, set, length-set, length-replicate}
use lib.Seq.{get_or-set_other}
use Rattle.whole.specs.Lists.{entry, zeros}
use Rattle.whole.proofs.Integers.{rep, diff_rel, add_none}
use Rattle.whole.proofs.Lists.{entry_zeros}
use Rattle.whole.proofs.Tests.{neither}
use Rattle.lattice.specs.Rows.{Zero}
use Rattle.lattice.specs.Span.{All}
use Rattle.lattice.specs.Sums.{dot, sums}
use Rattle.lattice.proofs.SumLaws.{dot_row_plus, dot_row_zeros, dot_row_set}
use Rattle.sections.specs.Sections.{Line}
use Rattle.sections.specs.StatedColumns.{placed}
use Rattle.sections.proofs.Storage.{length_placed}
use Rattle.volumes.specs.Volumes.{SweepPath, Volume, is_on}
use Rattle.volumes.specs.PathLines.{terms_of, path_terms, path_line, swept_lines}
use Rattle.volumes.specs.Sweeping.{along, EqualSums, Sweeps}
use Rattle.volumes.specs.VolumesRead.{Named}
use Rattle.volumes.proofs.Lines.{term_row}
use Rattle.volumes.proofs.Ones.{path_row}
use Rattle.volumes.proofs.Reading.{Proper, EachProper, AllProper}

-- ---- a row that is 0 wherever the path goes
abbrev Clear : List ℤ → SweepPath → Type 0
Clear u p = All (λ (j : ℕ). entry (j - 1) u ≡ pos 0) p

clear_zeros : (n : ℕ) (p : SweepPath) → Clear (zeros n) p
clear_zeros n [] = tt
clear_zeros n (j ∷ p) = (entry_zeros (j - 1) n, clear_zeros n p)

clear_set : (k j : ℕ) (c : ℤ) (u : List ℤ) (p : SweepPath) → 1 ≤ j → Named k p → is_on j p ≡ false → Clear u p → Clear (set u (j - 1) c) p
unfolding is_on
clear_set k j c u [] h w f z = tt
clear_set k j c u (i ∷ p) h w f z =
    let t = neither (eqb i j) (is_on j p) f in
    let o : i - 1 ≡ j - 1 → ⊥ = λ e. eqb-false i j t.0 (omega (arith, w.0.0)) in
    (get_or-set_other u (j - 1) (i - 1) c (pos 0) o ∙ z.0, clear_set k j c u p h w.1 t.1 z.1)

-- ---- sums along paths: of n numbers the first k are intervals
module _ (n k : ℕ) (h : k ≤ n) (x : List ℤ) where
  dot_placed : (c : ℤ) (p : SweepPath) (u : List ℤ) → length u ≡ n → Proper k p → Clear u p
      → dot (placed (terms_of c p) u) x ≡ dot u x +ℤ c *ℤ along x p
  unfolding placed terms_of along
  dot_placed c [] u l w z = sym (add_none c (dot u x) (pos 0) refl)
  dot_placed c (j ∷ p) u l w z =
      dot_placed c p (set u (j - 1) c) (length-set u (j - 1) c ∙ l) (w.0.1, w.1.1)
      (clear_set k j c u p w.0.0.0 w.0.1 w.1.0 z.1)
      ∙ ap (λ (s : ℤ). s +ℤ c *ℤ along x p) (dot_row_set u (j - 1) c x (omega (arith, w.0.0.0, w.0.0.1)) z.0)
      ∙ regroup (dot u x) (entry (j - 1) x) (along x p)
    where
      regroup : (s t r : ℤ) → s +ℤ c *ℤ t +ℤ c *ℤ r ≡ s +ℤ c *ℤ (t +ℤ r)
      regroup s t r = rw (rep s, rep t, rep r, rep c) (simp diff_rel (omega arith))

  pub dot_path : (p : SweepPath) → Proper k p → dot (placed (terms_of (pos 1) p) (zeros n)) x ≡ along x p
  dot_path p w =
      dot_placed (pos 1) p (zeros n) (length-replicate n (pos 0)) w (clear_zeros n p)
      ∙ ap (λ (s : ℤ). s +ℤ pos 1 *ℤ along x p) (dot_row_zeros n x)
      ∙ once (along x p)
    where
      once : (s : ℤ) → pos 0 +ℤ pos 1 *ℤ s ≡ s
      once s = rw (rep s) (simp diff_rel (omega arith))

  pub dot_later : (first p : SweepPath) → Proper k first → Proper k p
      → dot (placed (path_terms first p) (zeros n)) x ≡ along x first +ℤ negsuc 0 *ℤ along x p
  dot_later first p v w =
      let a : List ℤ = placed (terms_of (pos 1) first) (zeros n) in
      let b : List ℤ = placed (terms_of (pos 1) p) (zeros n) in
      ap (λ (r : List ℤ). dot r x) (path_row n k first p v.0 w.0)
      ∙ dot_row_plus (negsuc 0) b a x (length_placed (terms_of (pos 1) p) (zeros n) ∙ sym (length_placed (terms_of (pos 1) first) (zeros n)))
      ∙ ap₂ (λ (s t : ℤ). s +ℤ negsuc 0 *ℤ t) (dot_path first v) (dot_path p w)

  -- ---- rows that are 0
  one_zero : (first p : SweepPath) → Proper k first → Proper k p
      → (dot (placed (path_terms first p) (zeros n)) x ≡ pos 0) ↔ (along x first ≡ along x p)
  one_zero first p v w =
      subst (λ (s : ℤ). (s ≡ pos 0) ↔ (along x first ≡ along x p)) (sym (dot_later first p v w)) (less (along x first) (along x p))
    where
      less : (s t : ℤ) → (s +ℤ negsuc 0 *ℤ t ≡ pos 0) ↔ (s ≡ t)
      less s t = rw (rep s, rep t) (simp diff_rel ((λ e. omega arith), (λ e. omega arith)))

  abbrev Along : SweepPath → List SweepPath → Type 0
  Along first ps = (j : ℕ) → j < length ps → along x first ≡ along x (get_or ps j [])

  abbrev ZeroRows : List Line → Type 0
  ZeroRows ls = Zero (sums (map (term_row n) ls) x)

  -- the later paths of a volume, and the lines behind them
  later_zero : (first : SweepPath) (ps : List SweepPath) (ls : List Line) → Proper k first → EachProper k ps
      → ZeroRows (map (path_line first) ps ++ ls) ↔ (Along first ps × ZeroRows ls)
  unfolding sums
  later_zero first [] ls v w = ((λ z. ((λ j l. absurd (omega arith)), z)), (λ z. z.1))
  later_zero first (p ∷ ps) ls v w =
      let one = one_zero first p v w.0 in
      let more = later_zero first ps ls v w.1 in (
        (λ z. ((λ j. each j (one.0 z.0) (more.0 z.1).0), (more.0 z.1).1)),
        (λ z. (one.1 (z.0 0 (omega arith)), more.1 ((λ j l. z.0 (suc j) (omega arith)), z.1))),
      )
    where
      each : (j : ℕ) → along x first ≡ along x p → Along first ps → j < suc (length ps) → along x first ≡ along x (get_or (p ∷ ps) j [])
      each zero e f l = e
      each (suc j) e f l = f j (omega arith)

  -- any two paths have equal sums where each later one has that of path 1
  equal_sums : (first : SweepPath) (ps : List SweepPath) → Along first ps ↔ EqualSums x (first ∷ ps)
  equal_sums first ps = (
    (λ f. record { equal = λ i j l m. sym (from i f l) ∙ from j f m }),
    (λ s j l. s.equal 0 (suc j) (omega arith) (omega arith)),
  )
    where
      from : (i : ℕ) → Along first ps → i < suc (length ps) → along x first ≡ along x (get_or (first ∷ ps) i [])
      from zero f l = refl
      from (suc i) f l = f i (omega arith)

  pub swept_zero : (vs : List Volume) → AllProper k vs → Zero (sums (map (term_row n) (swept_lines vs)) x) ↔ Sweeps x vs
  unfolding sums swept_lines
  swept_zero [] w = ((λ z. tt), (λ z. tt))
  swept_zero ([] ∷ vs) w = (
    (λ z. (record { equal = λ i j l m. absurd (omega arith) }, (swept_zero vs w.1).0 z)),
    (λ z. (swept_zero vs w.1).1 z.1),
  )
  swept_zero ((first ∷ ps) ∷ vs) w =
      let later = later_zero first ps (swept_lines vs) w.0.0 w.0.1 in
      let equal = equal_sums first ps in
      let rest = swept_zero vs w.1 in (
        (λ z. (equal.0 (later.0 z).0, rest.0 (later.0 z).1)),
        (λ z. later.1 (equal.1 z.0, rest.1 z.1)),
      )
