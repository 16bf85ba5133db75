-- Moves that a number dominates: they are no better than it.
--   Still S o k         the move o changes no column before place k
--   zero_still        so it is where both its vectors change none
--   still_dominated   it improves from place k on only, where its number is z or more
--   none_dominated    it changes no column of the ranking
--   blocked_dominated   it does not improve the first column that it changes, and so no later one
--   fails_dominated   a column fails against the measure of place k, and so against those of later places
--   dominated_less    what is no better than z is no better than what lies below
-- Assumes nothing.
use mathlib.Core.Path.{◌≡◌, refl, sym, ◌∙◌, ap, ap₂}
use mathlib.Core.Logic.{⊎_elim}
use mathlib.Core.Bool.{Bool, true, false, not, true≢false}
use mathlib.Core.List.{List}
use Prim.Native.Nat.{ℕ, ◌<◌, ◌≤◌}
use native.Mathlib.Nat.{eq-or-lt_of_le}
use native.Mathlib.Omega.{arith}
use lib.IntN.{ℤ, pos, ◌+ℤ◌, ◌*ℤ◌, *ℤ-zero}
use lib.ListN.{length, get_or}
use Rattle.whole.proofs.Counted.{every_at}
use Rattle.whole.proofs.Integers.{add_none, is_zero_true}
use Rattle.whole.specs.Lists.{entry}
use Rattle.whole.specs.Tests.{is_zero, every}
use Rattle.whole.proofs.Tests.{both_true}
use Rattle.settling.specs.declared.Move.{Move}
use Rattle.settling.specs.Moves.{vector, changes}
use Rattle.settling.proofs.Fronts.{lt_or_ge}
use Rattle.settling.specs.Steps.{measure_at, passes_at, improves}
use Rattle.settling.proofs.Blocking.{unchanged, blocked, passes_up}
use Rattle.search.specs.declared.given.Search.{Search}
use Rattle.search.specs.Numbers.{number_at}
use Rattle.search.specs.Progress.{ZeroBefore, Dominated, Still}
use Rattle.search.specs.Searches.{columns_of, basis_of, better, passing}
use Rattle.search.specs.Sets.{touches}

module _ (S : Search) where
  abbrev N : List (List ℤ)
  N = basis_of S

  abbrev L : List ℕ
  L = S.order.now

  abbrev v : List ℤ
  v = S.values.now

  -- ---- vectors that change no column before a place
  none : (s j : ℕ) → touches N s j ≡ false → entry j (vector N s) ≡ pos 0
  none s j e = is_zero_true (entry j (vector N s)) (back (is_zero (entry j (vector N s))) e)
    where
      back : (t : Bool) → not t ≡ false → t ≡ true
      back true e = refl
      back false e = absurd (true≢false e)

  zero_sum : (a c x y : ℤ) → x ≡ pos 0 → y ≡ pos 0 → is_zero (a *ℤ x +ℤ c *ℤ y) ≡ true
  zero_sum a c x y e f = ap is_zero (ap₂ (λ (s t : ℤ). a *ℤ s +ℤ c *ℤ t) e f ∙ nothing)
    where
      nothing : a *ℤ pos 0 +ℤ c *ℤ pos 0 ≡ pos 0
      nothing = add_none c (a *ℤ pos 0) (pos 0) refl ∙ *ℤ-zero a

  pub zero_still : (o : Move) (k : ℕ) → ZeroBefore S o.s k → ZeroBefore S o.t k → Still S o k
  zero_still o k p q x h l =
      ap not (zero_sum o.a o.b _ _ (none o.s (get_or L x 0) (p.each x h l)) (none o.t (get_or L x 0) (q.each x h l)))

  -- ---- where a move can improve
  improves_late : (o : Move) (k : ℕ) → Still S o k → (x : ℕ) → x < length L → better S o (get_or L x 0) ≡ true → k ≤ x
  improves_late o k h x l e = ⊎_elim (λ m. absurd (true≢false (sym e ∙ still m))) (λ m. m) (lt_or_ge x k)
    where
      still : x < k → better S o (get_or L x 0) ≡ false
      still m = unchanged S.part (columns_of S) N v o (get_or L x 0) (h x m l)

  pub still_dominated : (o : Move) (k z : ℕ) → Still S o k → z ≤ number_at k o → Dominated S z o
  still_dominated o k z h e = record { each = λ x l g. omega (arith, improves_late o k h x l g) }

  pub none_dominated : (o : Move) (k z : ℕ) → Still S o k → length L ≤ k → Dominated S z o
  none_dominated o k z h e = record { each = λ x l g. absurd (omega (arith, improves_late o k h x l g)) }

  pub dominated_less : (o : Move) (z y : ℕ) → y ≤ z → Dominated S z o → Dominated S y o
  dominated_less o z y h p = record { each = λ x l g. omega (arith, p.each x l g) }

  pub blocked_dominated : (o : Move) (k z : ℕ) → k < length L → Still S o k → changes N o (get_or L k 0) ≡ true
      → better S o (get_or L k 0) ≡ false → Dominated S z o
  blocked_dominated o k z m h c e =
      record { each = λ x l g. absurd (true≢false (sym g ∙ ⊎_elim (same x) (later x l) (eq-or-lt_of_le (improves_late o k h x l g)))) }
    where
      same : (x : ℕ) → k ≡ x → better S o (get_or L x 0) ≡ false
      same x p = ap (λ (i : ℕ). better S o (get_or L i 0)) (sym p) ∙ e

      later : (x : ℕ) → x < length L → k < x → better S o (get_or L x 0) ≡ false
      later x l p = blocked S.part (columns_of S) N v o (get_or L x 0) (get_or L k 0) (S.ranked.proper k m) (S.ranked.falls k x p l) c e

  pub fails_dominated : (o : Move) (k z c : ℕ) → k < length L → Still S o k → c < S.basis.columns
      → passing S o (measure_at S.part (columns_of S) v (get_or L k 0)) c ≡ false → Dominated S z o
  unfolding improves
  fails_dominated o k z c m h i e =
      record {
        each = λ x l g.
            let all = (both_true (changes N o (get_or L x 0)) (every S.basis.columns (test x)) g).1 in
            absurd (true≢false (sym (up x l all (improves_late o k h x l g)) ∙ e));
      }
    where
      test : ℕ → ℕ → Bool
      test x = passes_at S.part (columns_of S) N v o (measure_at S.part (columns_of S) v (get_or L x 0))

      up : (x : ℕ) → x < length L → every S.basis.columns (test x) ≡ true → k ≤ x → test k c ≡ true
      up x l g p =
          ⊎_elim
          (λ q. ap (λ (y : ℕ). test y c) q ∙ every_at S.basis.columns (test x) c g i)
          (λ q. passes_up S.part _ _ (measure_at S.part (columns_of S) v (get_or L x 0)) (measure_at S.part (columns_of S) v (get_or L k 0))
          (S.ranked.proper k m) (S.ranked.falls k x q l) (every_at S.basis.columns (test x) c g i))
          (eq-or-lt_of_le p)
