-- What holds at each turn of `search::settle::settle`: what is left of the steps, from the present values and counts, gives the whole.
-- Assumes nothing.
use mathlib.Core.Path.{◌≡◌}
use Prim.Native.Nat.{◌+◌, ◌≤◌}
use Rattle.settling.specs.Columns.{columns_in}
use Rattle.settling.specs.Ready.{Ready}
use Rattle.settling.specs.Settle as Settle
use Rattle.settling.specs.Views.{vectors}
use Rattle.search.specs.Working.{Standing}
use Rattle.search.proofs.settle.settle.Given as goal

abbrev pub invariant-loop-step : goal.invariant-loop-step
invariant-loop-step l =
    Ready l.basis l.values l.columns × (l.counts.bounds + l.counts.goals + l.left ≤ l.limit)
    × (Settle.settle_from l.left (columns_in l.basis.columns l.columns) (vectors l.basis) l.counts l.values
    ≡ Settle.settle l.limit (columns_in l.basis.columns l.columns) (vectors l.basis) l.initial.values)
    × Standing l.basis l.columns l.values l.work

abbrev pub decreases-loop-step : goal.decreases-loop-step
decreases-loop-step l = l.left
