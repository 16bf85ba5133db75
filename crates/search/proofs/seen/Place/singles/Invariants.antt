-- What holds at each turn of `search::seen::Place::singles`: the vectors that are left are those of the iterator. Assumes nothing.
use Rattle.search.proofs.Singles.{Singling}
use Rattle.search.proofs.seen.Place.singles.Given as goal

abbrev pub invariant-loop-s : goal.invariant-loop-s
invariant-loop-s l =
    (goal.iterator-loop-s).can_next l.s-iterator × (goal.iterator-loop-s).is_finite l.s-iterator
    × Singling l.self l.fn.fresh l.notes l.s-iterator
