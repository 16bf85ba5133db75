-- Seating, a vector at a time.
--   within v                v as a seated list; or refusal 9, where a value of it lies beyond ±M
--   Placeable, Addable      lists of fitting length, with numbers small enough for a gap and for an addition
--   PositiveLead r          the row has a lead above 0, and so a column for it
--   Seatable B v t          what seating needs: lists that are ready, and a basis of such rows, whose leads rise
-- Assumes nothing.
use Rattle.std.specs.Prelude.{◌≡◌, cond, List, ℕ, ◌<◌, ◌≤◌, ℤ, pos, nat_abs, length, ◌<ℤ◌, Ok, Err}
use Rattle.whole.specs.Lists.{entry}
use Rattle.lattice.specs.Rows.{lead}
use Rattle.lattice.specs.Hermite.{Rising}
use Rattle.problem.specs.Limits.{M, any_beyond}
use Rattle.problem.specs.declared.Refusal.TheVariants.{Seating}
use Rattle.settling.specs.declared.Basis.{Basis}
use Rattle.settling.specs.declared.Column.{Column}
use Rattle.settling.specs.Columns.{column_at}
use Rattle.settling.specs.Moves.{vector}
use Rattle.settling.specs.Seating.{Seated}
use Rattle.settling.specs.Views.{vectors}
use Rattle.settling.specs.Ready.{FitColumn, Ready}

abbrev pub within : List ℤ → Seated
within v = cond (any_beyond v) (Err Seating) (Ok v)

pub record Placeable (v : List ℤ) (t : List Column) : Type 0 where
  pub table_long : length t ≡ length v
  pub values_small : (j : ℕ) → nat_abs (entry j v) ≤ M
  pub columns : (j : ℕ) → FitColumn (column_at t j)

pub record Addable (v r : List ℤ) : Type 0 where
  pub long : length r ≡ length v
  pub values_small : (j : ℕ) → nat_abs (entry j v) ≤ M
  pub row_small : (j : ℕ) → nat_abs (entry j r) ≤ M

pub record PositiveLead (r : List ℤ) : Type 0 where
  pub inside : lead r < length r
  pub above : pos 0 <ℤ entry (lead r) r

pub record Seatable (B : Basis) (v : List ℤ) (t : List Column) : Type 0 where
  pub ready : Ready B v t
  pub led : (s : ℕ) → s < B.vectors → PositiveLead (vector (vectors B) s)
  pub rises : Rising 0 (vectors B)
