-- What holds at each turn of `search::sets::hold`. Assumes nothing.
use Rattle.search.proofs.Finding.{Holding}
use Rattle.search.proofs.sets.hold.Given as goal

abbrev pub invariant-loop-j : goal.invariant-loop-j
invariant-loop-j l =
    (goal.iterator-loop-j).can_next l.j-iterator × (goal.iterator-loop-j).is_finite l.j-iterator
    × Holding l.fn.support l.s l.initial.holders l.j-iterator l.holders
