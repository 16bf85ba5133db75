-- What holds at each turn of `settling::columns::pack`. Assumes nothing.
use mathlib.Core.Path.{◌≡◌}
use Prim.Native.Nat.{ℕ, ◌<◌}
use lib.ListN.{length}
use Rattle.settling.specs.Columns.{column_at, listed}
use Rattle.settling.proofs.columns.pack.Given as goal

abbrev pub invariant-loop-j : goal.invariant-loop-j
invariant-loop-j l =
    (length l.columns ≡ length l.initial.columns)
    × ((x : ℕ) → x < l.j → column_at l.columns x
    ≡ (listed (length l.lists.lower.now) l.lists.lower.now l.lists.upper.now l.lists.low.now l.lists.high.now l.lists.given.now
    l.lists.ideals.now).column x)
