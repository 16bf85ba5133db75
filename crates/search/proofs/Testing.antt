-- Laws of the tests of one move.
--   moved_passes           whether a column passes, by what is added to it
--   still_passes           a column to which 0 is added passes
--   change_small, moved_near   how large what is added is, and the value after it
--   both-, alone_covered   the sets of a move's vectors have the columns that it changes
--   none_blocks            where there is no blocking column, all pass
--   Seeking n f w j      a loop over a set of columns: j is tried, those of w are left, and the others pass
--   seek-..              for its turns, from the first column on
-- Assumes nothing.
use mathlib.Core.Path.{◌≡◌, refl, sym, ◌∙◌, ap}
use mathlib.Core.Logic.{◌⊎◌, inl, inr, ⊎_elim}
use mathlib.Core.Bool.{Bool, true, false, not, ◌&&◌, ◌||◌, and-eq-true_iff, true≢false}
use mathlib.Core.List.{List}
use Prim.Native.Nat.{ℕ, ◌*◌, ◌<◌, ◌≤◌}
use native.Mathlib.Omega.{arith}
use borrow.Author.Tests.{lt-ltb, ltb-true, not-false}
use lib.Dec.{ltb}
use Rattle.std.specs.Prelude.{Option, Some, None, is_some}
use lib.IntN.{ℤ, nat_abs, ◌+ℤ◌, ◌*ℤ◌, +ℤ_idr, *ℤ-zero}
use lib.ListN.{get_or}
use mir.Syntax.{w64}
use mir.Val.{SFits, to_z, of_z}
use Rattle.whole.proofs.Counted.{every_all, every_not}
use Rattle.whole.proofs.Integers.{add_none, is_zero_true}
use Rattle.whole.specs.Lists.{entry}
use Rattle.whole.specs.Tests.{is_zero, every}
use Rattle.std.proofs.lemmas.Int.{to_z-of_z}
use Rattle.whole.proofs.Signed.{abs_add, sfits_abs}
use Rattle.problem.specs.Limits.{M}
use Rattle.settling.specs.declared.Column.{Column}
use Rattle.settling.specs.declared.Measure.{Measure}
use Rattle.settling.specs.declared.Cell.{Cell}
use Rattle.settling.specs.declared.Move.{Move}
use Rattle.settling.specs.declared.Part.TheVariants.{Bounds}
use Rattle.settling.specs.Columns.{valued, column_at}
use Rattle.settling.specs.Moves.{vector, change, changes}
use Rattle.settling.specs.Sizes.{FitCell}
use Rattle.settling.specs.Steps.{is_allowed, passes}
use Rattle.settling.specs.Views.{OfBasis}
use Rattle.settling.proofs.Views.{vector_small, moved_at}
use Rattle.settling.proofs.Fitting.{both_small}
use Rattle.settling.proofs.Passing.{passes_still}
use Rattle.search.specs.declared.given.Search.{Search}
use Rattle.search.specs.declared.seen.Sign.{Sign}
use Rattle.search.specs.Probes.{Covered, Blocking}
use Rattle.search.specs.Progress.{alone}
use Rattle.search.specs.Searches.{basis_of, passing}
use Rattle.search.specs.Sets.{has, touches, Taken}
use Rattle.search.proofs.Alone.{alone_basis}
use Rattle.search.proofs.Setting.{Walk, walk_first, walk_on, walk_end}

-- ---- one column
module _ (S : Search) (o : Move) (of : OfBasis S.basis.vectors o) (q : Measure) (j : ℕ) where
  abbrev added : ℤ
  added = change (basis_of S) o j

  abbrev c : Column
  c = column_at S.columns.now j

  abbrev x : ℤ
  x = entry j S.values.now

  pub moved_passes : j < S.basis.columns → passing S o q j ≡ passes S.part (valued (column_at S.columns.now j) (x +ℤ added)) added q
  moved_passes l =
      ap (λ (z : ℤ). passes S.part (valued c z) added q) (moved_at (basis_of S) o S.values.now j (omega (arith, S.ready.values_long)))

  pub still_passes : j < S.basis.columns → is_zero added ≡ true → passing S o q j ≡ true
  still_passes l z =
      moved_passes l
      ∙ passes_still S.part (valued c (x +ℤ added)) added q
      (ap (λ (d : ℤ). is_allowed S.part (valued c (x +ℤ d))) (is_zero_true added z)
      ∙ ap (λ (d : ℤ). is_allowed S.part (valued c d)) (+ℤ_idr x)
      ∙ S.allowed.each j l) z

  pub change_small : nat_abs added ≤ 2 * M
  change_small = both_small o.a _ o.b _ of.a of.b (small o.s of.s) (small o.t of.t)
    where
      small : (s : ℕ) → s < S.basis.vectors → nat_abs (entry j (vector (basis_of S) s)) ≤ M
      small s k = vector_small S.basis s k j

  pub moved_near : nat_abs (x +ℤ added) ≤ 3 * M
  moved_near = omega (arith, abs_add x added, S.ready.values_small j, change_small)

  -- the sum is what the machine makes of it
  pub moved_read : to_z w64 (of_z w64 (to_z w64 (of_z w64 x) +ℤ to_z w64 (of_z w64 added))) ≡ x +ℤ added
  moved_read =
      let fx : SFits w64 x = sfits_abs x (omega (arith, S.ready.values_small j)) in
      let fa : SFits w64 added = sfits_abs added (omega (arith, change_small)) in
      let f : SFits w64 (x +ℤ added) = sfits_abs (x +ℤ added) (omega (arith, moved_near)) in
      simp to_z-of_z

  -- the cell after it
  pub moved_fits : (r : Cell) (e : ℤ) → r ≡ valued (column_at S.columns.now j) x → e ≡ added
      → SFits w64 (to_z w64 (of_z w64 r.value) +ℤ to_z w64 (of_z w64 e))
  moved_fits r e f g =
      let fx : SFits w64 x = sfits_abs x (omega (arith, S.ready.values_small j)) in
      let fa : SFits w64 added = sfits_abs added (omega (arith, change_small)) in
      rw (f, g) (simp to_z-of_z (sfits_abs (x +ℤ added) (omega (arith, moved_near))))

  pub moved_cell : (r : Cell) (e : ℤ) → r ≡ valued (column_at S.columns.now j) x → e ≡ added
      → FitCell Bounds (record {
        lower = to_z w64 (of_z w64 r.lower);
        upper = to_z w64 (of_z w64 r.upper);
        low = to_z w64 (of_z w64 r.low);
        high = to_z w64 (of_z w64 r.high);
        value = to_z w64 (of_z w64 (to_z w64 (of_z w64 r.value) +ℤ to_z w64 (of_z w64 e)));
      })
  moved_cell r e f g =
      let k = S.ready.columns j in
      let fl : SFits w64 c.lower = sfits_abs c.lower (omega (arith, k.lower)) in
      let fu : SFits w64 c.upper = sfits_abs c.upper (omega (arith, k.upper)) in
      let fa : SFits w64 c.low = sfits_abs c.low (omega (arith, k.low)) in
      let fb : SFits w64 c.high = sfits_abs c.high (omega (arith, k.high)) in
      rw (f, g) (record {
        lower = simp to_z-of_z k.lower;
        upper = simp to_z-of_z k.upper;
        low = simp to_z-of_z k.low;
        high = simp to_z-of_z k.high;
        value = rw moved_read moved_near;
      })

pub ruleset tests = (moved_passes, still_passes, moved_near, change_small, moved_read, to_z-of_z)

-- ---- the columns that a move changes
none_added : (a x b y : ℤ) → is_zero x ≡ true → is_zero y ≡ true → is_zero (a *ℤ x +ℤ b *ℤ y) ≡ true
none_added a x b y e f =
    ap is_zero (add_none b (a *ℤ x) y (is_zero_true y f) ∙ ap (λ (z : ℤ). a *ℤ z) (is_zero_true x e) ∙ *ℤ-zero a)

module _ (S : Search) where
  abbrev U : List ℕ
  U = S.supports.now

  inside : (s : ℕ) → s < S.basis.vectors → (j : ℕ) → has (get_or U s 0) j ≡ true → j < S.basis.columns
  inside s h j e =
      ltb-true j S.basis.columns
      ((and-eq-true_iff (ltb j S.basis.columns) (touches (basis_of S) s j)).0 (sym (S.indexed.support s h j) ∙ e)).0

  none : (s : ℕ) → s < S.basis.vectors → (j : ℕ) → j < S.basis.columns → has (get_or U s 0) j ≡ false
      → is_zero (entry j (vector (basis_of S) s)) ≡ true
  none s h j l e = not-false _ (sym (S.indexed.support s h j ∙ ap (λ (d : Bool). d && touches (basis_of S) s j) (lt-ltb j S.basis.columns l)) ∙ e)

  pub both_covered : (o : Move) → OfBasis S.basis.vectors o → (w : ℕ)
      → ((j : ℕ) → has w j ≡ has (get_or S.supports.now o.s 0) j || has (get_or S.supports.now o.t 0) j)
      → Covered S.basis.columns (changes (basis_of S) o) w
  both_covered o of w f = record { inside = λ j e. some j _ refl _ refl (sym (f j) ∙ e); outside = λ j l e. still j l _ refl _ refl (sym (f j) ∙ e) }
    where
      some : (j : ℕ) (x : Bool) → has (get_or U o.s 0) j ≡ x → (y : Bool) → has (get_or U o.t 0) j ≡ y → x || y ≡ true → j < S.basis.columns
      some j true p y q e = inside o.s of.s j p
      some j false p true q e = inside o.t of.t j q
      some j false p false q e = absurd (true≢false (sym e))

      still : (j : ℕ) → j < S.basis.columns → (x : Bool) → has (get_or U o.s 0) j ≡ x → (y : Bool) → has (get_or U o.t 0) j ≡ y
          → x || y ≡ false → changes (basis_of S) o j ≡ false
      still j l true p y q e = absurd (true≢false e)
      still j l false p true q e = absurd (true≢false e)
      still j l false p false q e = ap not (none_added o.a _ o.b _ (none o.s of.s j l p) (none o.t of.t j l q))

  pub alone_covered : (s : ℕ) (x : Sign) → s < S.basis.vectors
      → Covered S.basis.columns (changes (basis_of S) (alone s x)) (get_or S.supports.now s 0)
  alone_covered s x h = both_covered (alone s x) (alone_basis S.basis.vectors s x h) (get_or U s 0) (λ j. twice (has (get_or U s 0) j))
    where
      twice : (d : Bool) → d ≡ d || d
      twice true = refl
      twice false = refl

-- ---- all columns
pub none_blocks : (n : ℕ) (f : ℕ → Bool) (r : Option ℕ) → Blocking n f r → (t : Bool) → is_some r ≡ not t → t ≡ every n f
none_blocks n f None g true e = sym g
none_blocks n f None g false e = absurd (true≢false (sym e))
none_blocks n f (Some k) g true e = absurd (true≢false e)
none_blocks n f (Some k) g false e = sym (every_not n f k g.0 g.1)

-- ---- a loop over a set of columns
pub record Seeking (n : ℕ) (f : ℕ → Bool) (w j : ℕ) : Type 0 where
  pub at : j < n
  pub walk : Walk (λ t. t < n) (λ t. t < n) (λ t. (t ≡ j) ⊎ (f t ≡ true)) w

module _ {n : ℕ} {f : ℕ → Bool} where
  -- the columns that are not in the set pass
  pub seek_starts : (w j : ℕ) → j < n → ((t : ℕ) → has w t ≡ true → t < n) → ((t : ℕ) → t < n → has w t ≡ false → f t ≡ true)
      → Seeking n f w j
  seek_starts w j l i o = record { at = l; walk = record { inside = i; left = λ t k. go t k (has w t) refl } }
    where
      go : (t : ℕ) → t < n → (d : Bool) → has w t ≡ d → (has w t ≡ true) ⊎ ((t ≡ j) ⊎ (f t ≡ true))
      go t k true e = inl e
      go t k false e = inr (inr (o t k e))

  module _ {w j : ℕ} (g : Seeking n f w j) (p : f j ≡ true) where
    done : (t : ℕ) → (t ≡ j) ⊎ (f t ≡ true) → f t ≡ true
    done t = ⊎_elim (λ e. ap f e ∙ p) (λ q. q)

    pub seek_ends : w ≡ 0 → every n f ≡ true
    seek_ends e = every_all n f (λ t l. done t (walk_end g.walk e t l))

    pub seek_on : {s v : ℕ} → Taken w s v → Seeking n f v s
    seek_on k = record { at = walk_first g.walk k; walk = walk_on g.walk k (λ t q. inr (done t q)) (λ _. inl refl) }
