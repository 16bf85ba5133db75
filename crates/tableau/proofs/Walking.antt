-- Laws of a loop that takes the rows of a table one after the other, each by the step f, and stops at a number beyond ±M.
--   Step f                  f keeps a row's length, and within ±M a row that it does not mark
--   Walk f w k t₀ t at left   the rows before the number `at` of t are done, and `left` rows of w numbers are still those of t₀
--   starts, goes_on         it holds at first, and after a row that f does not mark
--   next_small              the row that comes next lies within ±M
--   place_first, place_next   `at` and `left` at first and after a row, by the count of the rows that are done
--   refused                 a number beyond ±M was left, and Beyond is answered
--   stops, ends             at a row that f marks a number beyond ±M was left; past the last row none was, and the table is the definition's
--   each_wide, each_count   the rows keep their length, and their count
--   reduced_step, stepping the step by a pivot is such a step
-- Assumes nothing.
use mathlib.Core.Path.{◌≡◌, refl, sym, ◌∙◌, ap, ap₂}
use mathlib.Core.Bool.{Bool, true, false, cond, ◌||◌}
use mathlib.Core.List.{List, [], ◌∷◌, ◌++◌, append_assoc, append-nil}
use Prim.Native.Nat.{ℕ, suc, ◌+◌, ◌*◌, ◌-◌, ◌<◌, ◌≤◌}
use native.Mathlib.Nat.{zero-mul, suc-mul}
use native.Mathlib.Numerals.{add-one}
use native.Mathlib.Omega.{arith}
use lib.IntN.{ℤ, neg_ℤ}
use lib.ListN.{length, take, drop, length-append, length-drop}
use lib.Seq.{length-take-le, take_all}
use Rattle.whole.specs.Lists.{entry}
use Rattle.whole.specs.Tests.{is_zero}
use Rattle.whole.specs.Quotient.{nearest_quotient}
use Rattle.lattice.specs.Rows.{flat, chop}
use Rattle.lattice.proofs.RowLaws.{length_plus}
use Rattle.lattice.specs.Span.{All, Len}
use Rattle.lattice.proofs.FlatLaws.{put_take, put_drop}
use Rattle.lattice.proofs.RowsAhead.{RowsAhead, ahead, row, row_wide, rows, apart, behind}
use Rattle.tableau.specs.Elimination.{lowered_by}
use Rattle.tableau.specs.Elimination.{Left, kept, subtract, lowered, reduced, Run, each}
use Rattle.std.specs.Prelude.{Result, Ok, Err, IsErr}
use Rattle.std.proofs.lemmas.Bool.{false≢true}
use Rattle.tableau.specs.declared.Beyond.{Beyond}
use Rattle.tableau.specs.Within.{Within}
use Rattle.tableau.proofs.Within.{within_append, within_take, within_drop}
use Rattle.tableau.specs.RowSteps.{Stops, StopsRun, row_step}
use Rattle.tableau.specs.declared.rows.Way.{Way}
use Rattle.tableau.specs.declared.rows.Way.TheVariants.{Below, Above}

pub record Step (f : List ℤ → Left) : Type 0 where
  pub wide : (s : List ℤ) → length (f s).row ≡ length s
  pub holds : (s : List ℤ) → Within s → (f s).over ≡ false → Within (f s).row

-- ---- what `each` leaves
pub each_wide : {f : List ℤ → Left} (w : ℕ) (B : List (List ℤ)) → Step f → All (Len w) B → All (Len w) (each f B).table
unfolding each
each_wide w [] s a = tt
each_wide w (r ∷ B) s a = (s.wide r ∙ a.0, each_wide w B s a.1)

pub each_count : (f : List ℤ → Left) (B : List (List ℤ)) → length (each f B).table ≡ length B
unfolding each
each_count f [] = refl
each_count f (r ∷ B) = ap suc (each_count f B)

-- ---- the loop
pub record Walk (f : List ℤ → Left) (w k : ℕ) (t₀ t : List ℤ) (at left : ℕ) : Type 0 where
  pub same : length t ≡ length t₀
  pub room : RowsAhead w t at left
  pub small : Within t
  pub over : (each f (chop left w (drop at t))).over ≡ (each f (chop k w t₀)).over
  pub rows : take at t ++ flat (each f (chop left w (drop at t))).table ≡ flat (each f (chop k w t₀)).table

pub starts : (f : List ℤ → Left) (w k : ℕ) (t₀ : List ℤ) → length t₀ ≡ k * w → Within t₀ → Walk f w k t₀ t₀ 0 k
starts f w k t₀ l h = record { same = refl; room = record { room = omega arith }; small = h; over = refl; rows = refl }

each_cons : (f : List ℤ → Left) (r : List ℤ) (B : List (List ℤ))
    → each f (r ∷ B) ≡ record { table = (f r).row ∷ (each f B).table; over = (f r).over || (each f B).over }
unfolding each
each_cons f r B = refl

module _ {f : List ℤ → Left} {w k : ℕ} {t₀ t : List ℤ} {at left : ℕ} (h : Walk f w k t₀ t at left) (some : 0 < left) where
  -- the row that comes next, and those behind it
  abbrev next : List ℤ
  next = row h.room some

  abbrev rest : List (List ℤ)
  rest = rows h.room some

  pub next_small : Within next
  next_small = within_take w (drop at t) (within_drop at t h.small)

  each_apart : each f (chop left w (drop at t)) ≡ record { table = (f next).row ∷ (each f rest).table; over = (f next).over || (each f rest).over }
  each_apart = ap (each f) (apart h.room some) ∙ each_cons f next rest

  pub stops : (f next).over ≡ true → (each f (chop k w t₀)).over ≡ true
  stops e = sym h.over ∙ ap (λ (x : Run). x.over) each_apart ∙ ap (λ (b : Bool). b || (each f rest).over) e

  pub goes_on : Step f → (u : List ℤ) → (f next).over ≡ false → u ≡ (f next).row
      → Walk f w k t₀ (take at t ++ (u ++ drop (at + w) t)) (at + w) (left - 1)
  goes_on s u e d =
      let n : length u ≡ w = ap length d ∙ s.wide next ∙ row_wide h.room some in
      let r : at + w ≤ length t = ahead h.room some in
      let a : at ≤ length t = omega arith in
      let t' : List ℤ = take at t ++ (u ++ drop (at + w) t) in
      let l : length t' ≡ length t =
      length-append (take at t) (u ++ drop (at + w) t)
      ∙ ap₂ ◌+◌ (length-take-le at t a) (length-append u (drop (at + w) t) ∙ ap₂ ◌+◌ n (length-drop (at + w) t))
      ∙ omega arith in
      let later : each f (chop (left - 1) w (drop (at + w) t')) ≡ each f rest =
      ap (λ (v : List ℤ). each f (chop (left - 1) w v)) (put_drop at w t u (drop (at + w) t) a n) in
      record {
        same = l ∙ h.same;
        room = record { room = (behind h.room some).room ∙ sym l };
        small =
            within_append (take at t) (u ++ drop (at + w) t) (within_take at t h.small)
            (within_append u (drop (at + w) t) (rw d (s.holds next next_small e)) (within_drop (at + w) t h.small));
        over =
            ap (λ (x : Run). x.over) later
            ∙ sym (ap (λ (b : Bool). b || (each f rest).over) e)
            ∙ sym (ap (λ (x : Run). x.over) each_apart)
            ∙ h.over;
        rows =
            ap₂ (λ (x : List ℤ) (y : Run). x ++ flat y.table) (put_take at w t u (drop (at + w) t) a n) later
            ∙ append_assoc (take at t) u (flat (each f rest).table)
            ∙ ap (λ (v : List ℤ). take at t ++ (v ++ flat (each f rest).table)) d
            ∙ sym (ap (λ (x : Run). take at t ++ flat x.table) each_apart)
            ∙ h.rows;
      }

-- ---- the code's numbers, by the count i of the rows that are done
pub place_first : (P : ℕ → ℕ → Type 0) (w k : ℕ) → P 0 k → P (0 * w) (k - 0)
place_first P w k h =
    let b : k - 0 ≡ k = omega arith in
    rw (zero-mul, b) h

pub place_next : (P : ℕ → ℕ → Type 0) (w k i : ℕ) → P (i * w + w) (k - i - 1) → P ((i + 1) * w) (k - (i + 1))
place_next P w k i h =
    let a : (i + 1) * w ≡ i * w + w = rw (add-one) (omega (arith, suc-mul i w)) in
    let b : k - (i + 1) ≡ k - i - 1 = omega arith in
    rw (a, b) h

pub refused : {A : Type 0} {over : Bool} (P : Type 0) (r : Result A Beyond) → IsErr r → over ≡ true → Stops over P r
refused P (Ok a) h e = absurd (false≢true h)
refused P (Err b) h e = e

pub ends : {f : List ℤ → Left} {w k : ℕ} {t₀ t : List ℤ} {at left : ℕ} → Walk f w k t₀ t at left → left ≡ 0
    → StopsRun {A = Unit {0}} (each f (chop k w t₀)) (Ok tt) t
unfolding each
ends {f} {w} {k} {t₀} {t} {at} {left} h e =
    let z : left * w ≡ 0 = ap (λ (n : ℕ). n * w) e ∙ zero-mul w in
    let all : each f (chop left w (drop at t)) ≡ record { table = []; over = false } = ap (λ (n : ℕ). each f (chop n w (drop at t))) e in (
      sym (sym (ap (λ (x : Run). x.over) all) ∙ h.over),
      sym (take_all at t (omega (arith, h.room.room)))
          ∙ sym (append-nil (take at t))
          ∙ sym (ap (λ (x : Run). take at t ++ flat x.table) all)
          ∙ h.rows,
    )

-- ---- the step by a pivot
lowered_step : (c : ℕ) (r : List ℤ) → Step (lowered c r)
unfolding lowered_by
lowered_step c r = record {
  wide = λ s. go (is_zero (entry c s)) s (nearest_quotient (entry c s) (entry c r));
  holds = λ s. go_2 (is_zero (entry c s)) s (nearest_quotient (entry c s) (entry c r));
}
  where
    go : (b : Bool) (s : List ℤ) (q : ℤ) → length (cond b (kept s) (subtract q r s)).row ≡ length s
    go true s q = refl
    go false s q = length_plus (neg_ℤ q) r s

    go_2 : (b : Bool) (s : List ℤ) (q : ℤ) → Within s → (cond b (kept s) (subtract q r s)).over ≡ false
        → Within (cond b (kept s) (subtract q r s)).row
    go_2 true s q h e = h
    go_2 false s q h e = e

pub reduced_step : (c : ℕ) (r : List ℤ) → Step (reduced c r)
unfolding reduced
reduced_step c r = record { wide = λ s. length_plus _ r s; holds = λ s h e. e }

pub stepping : (way : Way) (c : ℕ) (r : List ℤ) → Step (row_step way c r)
stepping Below c r = lowered_step c r
stepping Above c r = reduced_step c r
