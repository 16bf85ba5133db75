-- From the starting list on.
--   leaves_seated   what is left of a list that is seated
--   ready_with      another list of values within ±M is ready too
--   seated_ready    so a seated list is
-- Assumes nothing.
use Rattle.std.proofs.Common.{◌≡◌, sym, ap, ℕ, ℤ, List, ◌≤◌, length, nat_abs, Result, Ok, Err}
use Rattle.whole.specs.Lists.{entry}
use Rattle.whole.proofs.Never.{never}
use Rattle.problem.specs.Limits.{M}
use Rattle.problem.specs.declared.Refusal.{Refusal}
use Rattle.settling.specs.declared.Basis.{Basis}
use Rattle.settling.specs.declared.Column.{Column}
use Rattle.settling.specs.Columns.{columns_in}
use Rattle.settling.specs.Ready.{Ready}
use Rattle.settling.specs.Seating.{Seated, seat, leaves}
use Rattle.settling.specs.Views.{vectors}
use Rattle.settling.proofs.Settlings.{Values}
use Rattle.settling.proofs.Leaving.{seat_values}

pub leaves_seated : (z : Seated) (s u : List ℤ) (r : Result Unit Refusal) → r ≡ Ok tt → (r, u) ≡ leaves z s → z ≡ Ok u
leaves_seated (Ok w) s u r h e = ap (λ (x : List ℤ). Ok x) (sym (ap (λ (p : Result Unit Refusal × List ℤ). p.1) e))
leaves_seated (Err why) s u r h e =
    let k : r ≡ Err why = ap (λ (p : Result Unit Refusal × List ℤ). p.0) e in
    never (cc)

pub ready_with : {B : Basis} {s : List ℤ} {c : List Column} → Ready B s c → (u : List ℤ) → length u ≡ B.columns
    → ((j : ℕ) → nat_abs (entry j u) ≤ M) → Ready B u c
ready_with q u e f = record {
  few = q.few;
  few_vectors = q.few_vectors;
  values_long = e;
  values_small = f;
  table_long = q.table_long;
  columns = q.columns;
}

pub seated_ready : {B : Basis} {s : List ℤ} {c : List Column} → Ready B s c → (u : List ℤ)
    → seat (columns_in B.columns c) (vectors B) s ≡ Ok u → Ready B u c
seated_ready {B} {s} {c} q u e =
    let v : Values B.columns u =
    seat_values (columns_in B.columns c) B.columns (vectors B) s u (record { long = q.values_long; small = q.values_small }) e in
    ready_with q u v.long v.small
