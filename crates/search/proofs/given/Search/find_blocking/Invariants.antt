-- What holds at each turn of `search::given::Search::find_blocking`: column j is tried, those of `left` are left, and the others pass.
-- Assumes nothing.
use Rattle.search.specs.Searches.{passing}
use Rattle.search.proofs.Testing.{Seeking}
use Rattle.search.proofs.given.Search.find_blocking.Given as goal

abbrev pub invariant-loop-o : goal.invariant-loop-o
invariant-loop-o l = Seeking l.self.basis.columns (passing l.self l.o l.q) l.left l.j

abbrev pub decreases-loop-o : goal.decreases-loop-o
decreases-loop-o l = l.left
