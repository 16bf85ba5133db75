-- `search::given::Search::first_changed` meets its contract: the move changes no column before place k. Assumes nothing.
use mathlib.Core.Path.{sym, ◌∙◌}
use borrow.Author.Count.{below_more}
use Rattle.search.proofs.given.Search.first_changed.Goals as goal

pub loop-k-preserved : goal.loop-k-preserved
loop-k-preserved c = below_more _ _ c.loop-k.invariant (λ _. sym c.changes.ensures ∙ c.if-changes.false)
