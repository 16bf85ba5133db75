-- Laws of the count of rounds, document 02, (vii).
--   rounds_none              without a choice there is no round
--   rounds_fuel              more rounds allowed than the first pivot's magnitude change no count
--   gathering_rounds_first   it is what `column_rounds` calls
--   following_rounds c z x   the rounds that follow on the round x, where z is the choice in its lower rows
--   gathering_rounds_round   one round, and those that follow: one turn of a loop
--   gather_rounds_lem        gathering takes at most as many rounds as the first pivot has binary digits
--   column_rounds_lem        so the rounds of a column are at most the bit length of its first pivot
--   column_bits              a column of rows within ±M takes at most 31
--   Paid n k B C             a column's k rounds and what it leaves of the rows B, C: rows within ±M, one less if there is a round
--   eliminate_rounds         at most 31 for each row of the table, where no number beyond ±M is met
--   form_rounds_lem          at most 31 for each column of a problem
-- Assumes nothing.
use mathlib.Core.Path.{◌≡◌, refl, sym, ◌∙◌, ap}
use mathlib.Core.Bool.{false}
use mathlib.Core.List.{List, [], ◌∷◌}
use Prim.Native.Nat.{ℕ, zero, suc, ◌+◌, ◌*◌, ◌<◌, ◌≤◌}
use native.Mathlib.Omega.{arith}
use lib.IntN.{ℤ}
use lib.ListN.{length, get_or}
use Rattle.whole.specs.Quotient.{nearest_quotient}
use Rattle.whole.specs.BitLength.{bit_length}
use Rattle.whole.proofs.BitLength.{bits_some, bits_half, length_least}
use Rattle.whole.proofs.Tests.{neither}
use Rattle.lattice.specs.Span.{All, Len}
use Rattle.lattice.proofs.Span.{all_at, steps_count, steps_length}
use Rattle.problem.specs.Limits.{M}
use Rattle.tableau.specs.Within.{Within}
use Rattle.tableau.specs.Table.{tableau}
use Rattle.tableau.specs.Elimination.{reduced, each, Choice, none, at, choose, Gathered, round, gather}
use Rattle.tableau.specs.Elimination.{Passed, pass_column_by, pass_column, pass_columns_by, pass_columns, eliminate_by, eliminate}
use Rattle.tableau.specs.RightSide.{form}
use Rattle.tableau.specs.RoundCount.{gather_rounds, column_rounds, first_bits, rounds_from, rounds, form_rounds}
use Rattle.tableau.specs.Gathering.{Chosen, magnitude, gathering_rounds}
use Rattle.tableau.proofs.Within.{within_entry}
use Rattle.tableau.proofs.TableLaws.{tableau_count, tableau_length}
use Rattle.tableau.proofs.GatherLaws.{Stands, choose_stands, chosen_stands, gather_steps, nearest_shrinks, round_next, round_half}
use Rattle.tableau.proofs.Staying.{all_flat, gather_all}
use Rattle.tableau.proofs.Tableaus.{tableau_within}

-- ---- the rounds allowed do not matter
pub rounds_none : (f c : ℕ) (b : List ℤ) (B : List (List ℤ)) → gather_rounds f c none b B ≡ 0
unfolding gather_rounds
rounds_none zero c b B = refl
rounds_none (suc f) c b B = refl

pub rounds_fuel : {n c : ℕ} {b : List ℤ} {B : List (List ℤ)} {j p : ℕ} → Chosen n c b B j p → (f g i k i' k' : ℕ) → p ≤ f → p ≤ g
    → gather_rounds f c (at i k) b B ≡ gather_rounds g c (at i' k') b B
unfolding gather_rounds
rounds_fuel h zero g i k i' k' l l' = absurd (omega (arith, (chosen_stands h).0))
rounds_fuel h (suc f) zero i k i' k' l l' = absurd (omega (arith, (chosen_stands h).0))
rounds_fuel {c = c} {b = b} {B = B} h (suc f) (suc g) i k i' k' l l' =
    let x : Gathered = round c b B in
    ap suc
    (round_next h nearest_shrinks (λ (z : Choice). gather_rounds f c z x.pivot x.below ≡ gather_rounds g c z x.pivot x.below)
    (λ s. rounds_none f c x.pivot x.below ∙ sym (rounds_none g c x.pivot x.below))
    (λ i'' k'' l'' h''. rounds_fuel {b = x.pivot} {B = x.below} h'' f g i'' k'' i'' k'' (omega arith) (omega arith)))

pub gathering_rounds_first : {n c : ℕ} {b : List ℤ} {B : List (List ℤ)} {j p : ℕ} → Chosen n c b B j p
    → gathering_rounds c b B ≡ gather_rounds p c (at j p) b B
unfolding gathering_rounds
gathering_rounds_first {c = c} {b = b} {B = B} h = ap (λ (z : Choice). gather_rounds (magnitude z) c z b B) h.choice

abbrev pub following_rounds : ℕ → Choice → Gathered → ℕ
following_rounds c none x = 0
following_rounds c (at j p) x = gathering_rounds c x.pivot x.below

pub gathering_rounds_round : {n c : ℕ} {b : List ℤ} {B : List (List ℤ)} {j p : ℕ} → Chosen n c b B j p
    → gathering_rounds c b B ≡ suc (following_rounds c (choose c (round c b B).below) (round c b B))
unfolding gather_rounds
gathering_rounds_round {c = c} {b = b} {B = B} {j = j} {p = p} h = gathering_rounds_first h ∙ go p refl
  where
    x : Gathered
    x = round c b B

    go : (f : ℕ) → p ≡ f → gather_rounds f c (at j p) b B ≡ suc (following_rounds c (choose c x.below) x)
    go zero q = absurd (omega (arith, (chosen_stands h).0))
    go (suc f) q =
        ap suc
        (round_next h nearest_shrinks (λ (z : Choice). gather_rounds f c z x.pivot x.below ≡ following_rounds c z x)
        (λ s. rounds_none f c x.pivot x.below)
        (λ i k l h'. rounds_fuel h' f k i k (suc i) k (omega arith) (omega arith) ∙ sym (gathering_rounds_first h')))

-- ---- the rounds of one column
pub gather_rounds_lem : {n c : ℕ} {b : List ℤ} {B : List (List ℤ)} {j p : ℕ} → Chosen n c b B j p → (f i k : ℕ)
    → gather_rounds f c (at i k) b B ≤ bit_length p
unfolding gather_rounds
gather_rounds_lem h zero i k = omega arith
gather_rounds_lem {c = c} {b = b} {B = B} {p = p} h (suc f) i k =
    let x : Gathered = round c b B in
    round_next h nearest_shrinks (λ (z : Choice). 2 * magnitude z ≤ p → suc (gather_rounds f c z x.pivot x.below) ≤ bit_length p)
    (λ s l. rw (rounds_none f c x.pivot x.below) (bits_some p (chosen_stands h).0))
    (λ i' k' l h' m. omega (arith, gather_rounds_lem {b = x.pivot} {B = x.below} h' f i' k', bits_half k' p (chosen_stands h).0 m))
    (round_half h)

pub column_rounds_lem : (n c : ℕ) (B : List (List ℤ)) → c < n → All (Len n) B → column_rounds c B (choose c B) ≤ first_bits (choose c B)
unfolding column_rounds
column_rounds_lem n c B h l = go B (choose c B) refl l
  where
    go : (B : List (List ℤ)) (z : Choice) → choose c B ≡ z → All (Len n) B → column_rounds c B z ≤ first_bits z
    go B none e l = omega arith
    go [] (at j p) e l = omega arith
    go (b ∷ B) (at j p) e l = gather_rounds_lem (record { within = h; wide = l; choice = e }) p j p

-- a pivot within ±M has at most 31 digits
first_bits_lem : (c : ℕ) (B : List (List ℤ)) (z : Choice) → Stands c B z → All Within B → first_bits z ≤ 31
first_bits_lem c B none s a = omega arith
first_bits_lem c B (at j p) s a =
    let m : p ≤ M = rw (← (s.2 [])) (within_entry (get_or B j []) c (all_at Within B j [] s.1 a)) in
    length_least 31 p (omega arith)

pub column_bits : {n c : ℕ} (B : List (List ℤ)) → c < n → All (Len n) B → All Within B → column_rounds c B (choose c B) ≤ 31
column_bits {n} {c} B h l a = omega (arith, column_rounds_lem n c B h l, first_bits_lem c B (choose c B) (choose_stands c B) a)

-- ---- all columns
record Paid (n k : ℕ) (B C : List (List ℤ)) : Type 0 where
  wide : All (Len n) C
  within : All Within C
  paid : k + 31 * length C ≤ 31 * length B

column_paid : (n c : ℕ) (A B : List (List ℤ)) (z : Choice) → Stands c B z → column_rounds c B z ≤ 31 → All (Len n) B → All Within B
    → (pass_column c A B z).over ≡ false → Paid n (column_rounds c B z) B (pass_column c A B z).below
unfolding pass_column_by column_rounds
column_paid n c A B none s k l a o = record { wide = l; within = a; paid = omega arith }
column_paid n c A [] (at j p) s k l a o = absurd (omega (arith, s.1))
column_paid n c A (b ∷ B) (at j p) s k l a o =
    let g : Gathered = gather p c (at j p) b B in
    record {
      wide = (steps_length n (gather_steps nearest_quotient p c (at j p) b B) l).1;
      within = (gather_all p c (at j p) b B a (neither g.over (each (reduced c g.pivot) A).over o).0).1;
      paid = omega (arith, k, steps_count (gather_steps nearest_quotient p c (at j p) b B));
    }

columns_rounds : (n d c : ℕ) (A B : List (List ℤ)) → c + d ≤ n → All (Len n) B → All Within B → (pass_columns d c A B).over ≡ false
    → rounds_from d c A B ≤ 31 * length B
unfolding pass_columns_by rounds_from
columns_rounds n zero c A B h l a o = omega arith
columns_rounds n (suc d) c A B h l a o =
    let x : Passed = pass_column c A B (choose c B) in
    let v : (x.over ≡ false) × ((pass_columns d (suc c) x.above x.below).over ≡ false) =
    neither x.over (pass_columns d (suc c) x.above x.below).over o in
    let k : Paid n (column_rounds c B (choose c B)) B x.below =
    column_paid n c A B (choose c B) (choose_stands c B) (column_bits B (omega arith) l a) l a v.0 in
    omega (arith, k.paid, columns_rounds n d (suc c) x.above x.below (omega arith) k.wide k.within v.1)

pub eliminate_rounds : (w : ℕ) (T : List (List ℤ)) → All (Len w) T → All Within T → (eliminate w T).over ≡ false → rounds w T ≤ 31 * length T
unfolding eliminate_by rounds
eliminate_rounds w T l a o = columns_rounds w w 0 [] T (omega arith) l a o

-- ---- the tableau of a problem
pub form_rounds_lem : (n : ℕ) (A : List (List ℤ)) → All Within A → (form n A).over ≡ false → form_rounds n A ≤ 31 * n
unfolding form form_rounds
form_rounds_lem n A a o =
    omega (
      arith,
      eliminate_rounds (length A + n) (tableau n A) (tableau_length n A) (all_flat (tableau n A) (tableau_within n A a)) o,
      ap (λ (k : ℕ). 31 * k) (tableau_count n A),
    )
