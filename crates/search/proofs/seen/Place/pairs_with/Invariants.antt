-- What holds at each turn of `search::seen::Place::pairs_with`: the vectors whose pairs are left are those of the iterator. Assumes nothing.
use mathlib.Core.Path.{◌≡◌}
use mathlib.Core.Bool.{true}
use Rattle.search.specs.Progress.{NoWorse}
use Rattle.search.specs.Sets.{has}
use Rattle.search.proofs.Partners.{WithDominated, Other}
use Rattle.search.proofs.Setting.{Walk}
use Rattle.search.proofs.seen.Place.pairs_with.Given as goal

abbrev pub invariant-loop-t : goal.invariant-loop-t
invariant-loop-t l =
    (goal.iterator-loop-t).can_next l.t-iterator × (goal.iterator-loop-t).is_finite l.t-iterator
    × NoWorse l.self.search.now l.fn.z l.best
    × Walk (Other l.self l.lead.s) (λ t. has l.fn.partners t ≡ true) (WithDominated l.self.search.now l.lead.s l.lead.sign l.best) l.t-iterator
