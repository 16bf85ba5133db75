-- What holds at each turn of `search::given::Search::first_step`. Assumes nothing.
use Rattle.search.specs.Notes.{Noted}
use Rattle.search.specs.Progress.{Searched}
use Rattle.search.proofs.given.Search.first_step.Given as goal

abbrev pub invariant-loop-k : goal.invariant-loop-k
invariant-loop-k l = Noted l.self.basis.columns l.notes × Searched l.self l.unseen l.k l.z
