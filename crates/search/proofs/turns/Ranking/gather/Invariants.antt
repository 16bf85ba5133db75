-- What holds at each turn of `search::turns::Ranking::gather`: the order holds the ranked columns below j. Assumes nothing.
use mathlib.Core.Path.{◌≡◌}
use mathlib.Core.List.{◌++◌}
use Prim.Native.Nat.{◌-◌, ◌≤◌}
use lib.ListN.{length, take}
use Rattle.settling.specs.Columns.{columns_in}
use Rattle.settling.specs.Steps.{ranked_at, rank_from}
use Rattle.settling.proofs.Rankings.{none_larger}
use Rattle.search.proofs.turns.Ranking.gather.Given as goal

abbrev pub invariant-loop-j : goal.invariant-loop-j
invariant-loop-j l =
    (l.len ≤ l.j) × (length l.self.order ≡ length l.initial.self.order)
    × (take l.len l.self.order
    ++ rank_from (ranked_at l.part (columns_in (length l.values) l.columns) l.values) none_larger (length l.values - l.j) l.j
    ≡ rank_from (ranked_at l.part (columns_in (length l.values) l.columns) l.values) none_larger (length l.values) 0)
