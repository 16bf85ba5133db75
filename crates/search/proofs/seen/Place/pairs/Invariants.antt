-- What holds at each turn of `search::seen::Place::pairs`: the vectors seen here whose pairs are to be tried are those of the iterator.
-- Assumes nothing.
use Rattle.search.proofs.Placing.{Pairing}
use Rattle.search.proofs.seen.Place.pairs.Given as goal

abbrev pub invariant-loop-s : goal.invariant-loop-s
invariant-loop-s l =
    (goal.iterator-loop-s).can_next l.s-iterator × (goal.iterator-loop-s).is_finite l.s-iterator
    × Pairing l.self l.fn.unseen l.fn.fresh l.fn.z l.best l.left l.s-iterator
