-- Laws of the parts of a text, one for each way through the code: what was read, or at which number it was refused.
--   intervals_more, -stop, -end   so many intervals; terms_more, -stop, -end, so many terms; lines_more, -stop, -end, so many rows
--   intervals_count, rows_count   sections, with their counts
-- Assumes nothing.
use mathlib.Core.Path.{◌≡◌, refl}
use mathlib.Core.List.{List, [], ◌∷◌, ◌++◌}
use Prim.Native.Nat.{ℕ, zero, suc, ◌+◌, ◌-◌, ◌<◌}
use native.Mathlib.Omega.{arith}
use lib.IntN.{ℤ, pos, nat_abs}
use Rattle.problem.specs.Kinds.{slack_count}
use Rattle.problem.specs.declared.Refusal.{Refusal}
use Rattle.problem.specs.declared.Refusal.TheVariants.{Size}
use Rattle.std.proofs.Common.{Ok, Err}
use Rattle.sections.specs.Rules.{within}
use Rattle.sections.specs.Sections.{deck_columns, deck_rows, interval, intervals}
use Rattle.sections.specs.Sections.{term, terms, Line, line, lines, interval_section, row_section}
use Rattle.sections.specs.declared.Interval.{Interval}
use Rattle.sections.specs.declared.Term.{Term}

module _ (s : List ℕ) (done : List Interval) (ts us : ℕ) where
  pub intervals_more : (k : ℕ) (i : Interval) → 0 < k → interval s ts ≡ Ok (i, us) → intervals s k done ts ≡ intervals s (k - 1) (done ++ (i ∷ [])) us
  unfolding intervals
  intervals_more zero i h e = absurd (omega arith)
  intervals_more (suc k) i h e = let q : suc k - 1 ≡ k = omega arith in rw (e, q)

  pub intervals_stop : (k : ℕ) (why : Refusal) → 0 < k → interval s ts ≡ Err why → intervals s k done ts ≡ Err why
  unfolding intervals
  intervals_stop zero why h e = absurd (omega arith)
  intervals_stop (suc k) why h e = rw e

  pub intervals_end : intervals s 0 done ts ≡ Ok (done, ts)
  unfolding intervals
  intervals_end = refl

-- ---- a term
module _ (s : List ℕ) (last count : ℕ) (done : List Term) (ts us : ℕ) where
  pub terms_more : (k : ℕ) (t : Term) → 0 < k → term s last count ts ≡ Ok (t, us)
      → terms s k last count done ts ≡ terms s (k - 1) t.index count (done ++ (t ∷ [])) us
  unfolding terms
  terms_more zero t h e = absurd (omega arith)
  terms_more (suc k) t h e = let q : suc k - 1 ≡ k = omega arith in rw (e, q)

  pub terms_stop : (k : ℕ) (why : Refusal) → 0 < k → term s last count ts ≡ Err why → terms s k last count done ts ≡ Err why
  unfolding terms
  terms_stop zero why h e = absurd (omega arith)
  terms_stop (suc k) why h e = rw e

  pub terms_end : terms s 0 last count done ts ≡ Ok (done, ts)
  unfolding terms
  terms_end = refl

-- ---- a row with its terms
module _ (s : List ℕ) (count columns : ℕ) (done : List Line) (ts us : ℕ) where
  pub lines_more : (k : ℕ) (l : Line) → 0 < k → line s count columns ts ≡ Ok (l, us)
      → lines s k count columns done ts ≡ lines s (k - 1) count (columns + slack_count l.row.kind) (done ++ (l ∷ [])) us
  unfolding lines
  lines_more zero l h e = absurd (omega arith)
  lines_more (suc k) l h e = let q : suc k - 1 ≡ k = omega arith in rw (e, q)

  pub lines_stop : (k : ℕ) (why : Refusal) → 0 < k → line s count columns ts ≡ Err why → lines s k count columns done ts ≡ Err why
  unfolding lines
  lines_stop zero why h e = absurd (omega arith)
  lines_stop (suc k) why h e = rw e

  pub lines_end : lines s 0 count columns done ts ≡ Ok (done, ts)
  unfolding lines
  lines_end = refl

-- ---- sections, with their counts
module _ (s : List ℕ) (t₀ t₁ : ℕ) (k : ℤ) where
  pub intervals_count : within s (pos 1) (pos deck_columns) Size t₀ ≡ Ok (k, t₁) → interval_section s t₀ ≡ intervals s (nat_abs k) [] t₁
  intervals_count p = rw p

  pub rows_count : (count : ℕ) → within s (pos 0) (pos deck_rows) Size t₀ ≡ Ok (k, t₁)
      → row_section s count t₀ ≡ lines s (nat_abs k) count count [] t₁
  rows_count count p = rw p
