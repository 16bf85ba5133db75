-- What holds at each turn of `settling::seating::add_row`. Assumes nothing.
use Prim.Native.Nat.{ℕ, ◌-◌, ◌<◌, ◌≤◌}
use lib.ListN.{length}
use lib.IntN.{nat_abs}
use Rattle.whole.specs.Lists.{entry}
use Rattle.lattice.specs.Rows.{plus}
use Rattle.problem.specs.Limits.{M}
use Rattle.settling.proofs.Adding.{Added}
use Rattle.settling.proofs.seating.add_row.Given as goal

abbrev pub invariant-loop-j : goal.invariant-loop-j
invariant-loop-j l =
    Added l.fn.q l.row l.initial.values l.values l.j × ((x : ℕ) → x < l.j → nat_abs (entry x (plus l.fn.q l.row l.initial.values)) ≤ M)

abbrev pub decreases-loop-j : goal.decreases-loop-j
decreases-loop-j l = length l.row - l.j
