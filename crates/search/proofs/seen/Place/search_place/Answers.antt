-- `search::seen::Place::search_place` meets its contract: the vectors of the place are tried alone, and then in pairs. Assumes nothing.
use mathlib.Core.Logic.{inl}
use Rattle.search.proofs.Placing.{fresh_in, fresh_unseen, single_ends}
use Rattle.search.proofs.seen.Place.search_place.Goals as goal

pub singles-requires : goal.singles-requires
singles-requires c = let p = c.requires in (p.0, fresh_unseen p.2 p.1.unseen, λ s e. (fresh_in p.2 s e).0)

pub returns-in-Some : goal.returns-in-Some
returns-in-Some c =
    let p = c.requires in
    (inl (single_ends p.2 p.1 p.3 c.in-Some.ensures.best), c.singles.ensures.noted)

pub pairs-requires : goal.pairs-requires
pairs-requires c = (c.requires.1, c.requires.2, c.in-None.ensures.best)

pub returns-in-None : goal.returns-in-None
returns-in-None c = (c.pairs.ensures, c.singles.ensures.noted)
