-- Seating, a vector at a time, as the code does it.
--   quotient_ready       what the quotient asks for: the gap at the row's lead and the lead, as the machine reads them back
--   factor_small, -is    how large the quotient is, and that an addition of the row that often is seating's
--   Left B t v₀ v s c    seating v₀ has come to the values v: the vectors from s on are left, and their leads lie at c or behind
--   lead_found           the lead of vector s, looked for from there on; turn_told, what its addition comes to
--   left_on, -far, -end  it goes on where an addition stays within ±M; it does not; no vector is left
-- Assumes nothing.
use Rattle.std.specs.Prelude.{Ok, Err}
use mathlib.Core.Path.{◌≡◌, refl, sym, ◌∙◌, ap, subst}
use mathlib.Core.Bool.{Bool, true, false, cond}
use mathlib.Core.List.{List}
use Prim.Native.Nat.{ℕ, ◌+◌, ◌<◌, ◌≤◌}
use native.Mathlib.Omega.{arith}
use lib.IntN.{ℤ, pos, nat_abs}
use lib.ListN.{length, drop}
use lib.Signed.{◌<ℤ◌}
use mir.Syntax.{w64}
use mir.Val.{to_z, of_z}
use Rattle.whole.specs.Lists.{entry}
use Rattle.whole.specs.Quotient.{nearest_quotient}
use Rattle.whole.proofs.Integers.{above_positive}
use Rattle.whole.proofs.Nearest.{nearest_small}
use Rattle.whole.proofs.Never.{never}
use Rattle.lattice.specs.Rows.{plus, lead}
use Rattle.lattice.specs.Hermite.{Rising}
use Rattle.lattice.proofs.RowLaws.{lead_behind}
use Rattle.problem.specs.Limits.{M, max_bound, any_beyond}
use Rattle.problem.specs.declared.Refusal.{Refusal}
use Rattle.problem.specs.declared.Refusal.TheVariants.{Seating}
use Rattle.settling.specs.declared.Basis.{Basis}
use Rattle.settling.specs.declared.Column.{Column}
use Rattle.settling.specs.Columns.{Columns, columns_in}
use Rattle.settling.specs.Moves.{vector}
use Rattle.settling.specs.Seating.{Seated, gap_at, seat_one, seat}
use Rattle.settling.specs.Seats.{within, Addable, PositiveLead, Seatable}
use Rattle.settling.specs.Views.{vectors}
use Rattle.settling.proofs.Adding.{rises_row, rises_on}
use Rattle.settling.proofs.Machine.{read}
use Rattle.settling.proofs.Seats.{still_seatable, seat_end, seat_far, seat_on}

-- ---- one vector
module _ (C : Columns) (v r : List ℤ) (k : ℕ) (g : ℤ) (e : k ≡ lead r) (f : g ≡ gap_at C v k) (s : nat_abs g ≤ M + max_bound) (a : Addable v r)
    (l : PositiveLead r) where
  abbrev pivot : ℤ
  pivot = entry k r

  gap_read : to_z w64 (of_z w64 g) ≡ g
  gap_read = read g (omega arith)

  pivot_read : to_z w64 (of_z w64 pivot) ≡ pivot
  pivot_read = read pivot (omega (arith, a.row_small k))

  above : pos 0 <ℤ pivot
  above = subst (λ (j : ℕ). pos 0 <ℤ entry j r) (sym e) l.above

  pub quotient_ready : (nat_abs (to_z w64 (of_z w64 g)) ≤ 4294967296) × (nat_abs (to_z w64 (of_z w64 pivot)) ≤ 4294967296)
      × (pos 0 <ℤ to_z w64 (of_z w64 pivot))
  quotient_ready = rw (gap_read, pivot_read) (omega arith, omega (arith, a.row_small k), above)

  module _ (q : ℤ) (h : q ≡ nearest_quotient (to_z w64 (of_z w64 g)) (to_z w64 (of_z w64 pivot))) where
    is : q ≡ nearest_quotient g pivot
    is = h ∙ (λ i. nearest_quotient (gap_read i) (pivot_read i))

    small : nat_abs q ≤ M + max_bound
    small = rw is (omega (arith, nearest_small g (above_positive pivot above)))

    again : to_z w64 (of_z w64 q) ≡ q
    again = let m = small in read q (omega arith)

    pub factor_small : nat_abs (to_z w64 (of_z w64 q)) ≤ M + max_bound + 1
    factor_small = let m = small in rw again (omega arith)

    pub factor_is : plus (to_z w64 (of_z w64 q)) r v ≡ seat_one C r v
    unfolding seat_one
    factor_is =
        ap (λ (x : ℤ). plus x r v) (again ∙ is ∙ ap (λ (x : ℤ). nearest_quotient x pivot) f)
        ∙ ap (λ (j : ℕ). plus (nearest_quotient (gap_at C v j) (entry j r)) r v) e

-- ---- what an addition comes to
within_ok : (u v : List ℤ) → Ok u ≡ within v → (any_beyond v ≡ false) × (u ≡ v)
within_ok u v e = go (any_beyond v) e
  where
    go : (b : Bool) → let z : Seated = Ok u in z ≡ cond b (Err Seating) (Ok v) → (b ≡ false) × (u ≡ v)
    go true f = never (cc)
    go false f = (refl, cc)

within_err : (why : Refusal) (v : List ℤ) → Err why ≡ within v → (any_beyond v ≡ true) × (why ≡ Seating)
within_err why v e = go (any_beyond v) e
  where
    go : (b : Bool) → let z : Seated = Err why in z ≡ cond b (Err Seating) (Ok v) → (b ≡ true) × (why ≡ Seating)
    go true f = (refl, cc)
    go false f = never (cc)

-- ---- all vectors
pub record Left (B : Basis) (t : List Column) (v₀ v : List ℤ) (s c : ℕ) : Type 0 where
  pub seatable : Seatable B v t
  pub long : length v ≡ length v₀
  pub rises : Rising c (drop s (vectors B))
  pub rest : seat (columns_in B.columns t) (drop s (vectors B)) v ≡ seat (columns_in B.columns t) (vectors B) v₀

module _ (B : Basis) (t : List Column) (v₀ : List ℤ) where
  abbrev columns : Columns
  columns = columns_in B.columns t

  module _ (v : List ℤ) (s c : ℕ) (l : Left B t v₀ v s c) where
    pub left_end : B.vectors ≤ s → Ok v ≡ seat columns (vectors B) v₀
    left_end h = sym (seat_end columns B v s h) ∙ l.rest

    module _ (h : s < B.vectors) where
      abbrev row : List ℤ
      row = vector (vectors B) s

      -- where the code's row is r
      module _ (r : List ℤ) (is : r ≡ row) where
        pub lead_found : (k : ℕ) → k ≡ c + lead (drop c r) → k ≡ lead row
        lead_found k e =
            e ∙ ap (λ (x : List ℤ). c + lead (drop c x)) is ∙ lead_behind c row (rises_row B c s h l.rises)

        pub turn_told : (z : Seated) → z ≡ within (seat_one (columns_in (length v) t) r v) → z ≡ within (seat_one columns row v)
        turn_told z e = e ∙ (λ i. within (seat_one (columns_in (l.seatable.ready.values_long i) t) (is i) v))

      pub left_far : (why : Refusal) → Err why ≡ within (seat_one columns row v) → Err why ≡ seat columns (vectors B) v₀
      left_far why e =
          let f = within_err why (seat_one columns row v) e in
          ap (λ (w : Refusal). Err w) f.1 ∙ sym (seat_far columns B v s h f.0) ∙ l.rest

      pub left_on : (u : List ℤ) (k : ℕ) → length u ≡ length v → k ≡ lead row → Ok u ≡ within (seat_one columns row v) → Left B t v₀ u (s + 1) (k + 1)
      left_on u k m g e =
          let f = within_ok u (seat_one columns row v) e in
          record {
            seatable = still_seatable B v t l.seatable u m (ap any_beyond f.1 ∙ f.0);
            long = m ∙ l.long;
            rises = subst (λ (j : ℕ). Rising (j + 1) (drop (s + 1) (vectors B))) (sym g) (rises_on B c s h l.rises);
            rest = ap (seat columns (drop (s + 1) (vectors B))) f.1 ∙ sym (seat_on columns B v s h f.0) ∙ l.rest;
          }
