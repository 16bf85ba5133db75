-- What holds at each turn of `search::given::Search::first_changed`. Assumes nothing.
use Rattle.search.specs.Progress.{Still}
use Rattle.search.proofs.given.Search.first_changed.Given as goal

abbrev pub invariant-loop-k : goal.invariant-loop-k
invariant-loop-k l = Still l.self l.o l.k
