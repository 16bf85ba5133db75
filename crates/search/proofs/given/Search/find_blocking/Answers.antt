-- `search::given::Search::find_blocking` meets its contract: the columns that are left are those of `left`, and the others pass. Assumes nothing.
use mathlib.Core.Path.{sym, ◌∙◌}
use borrow.Author.Tests.{not-false}
use Rattle.search.proofs.Testing.{still_passes, seek_starts, seek_ends, seek_on}
use Rattle.search.proofs.given.Search.find_blocking.Goals as goal

pub loop-o-init : goal.loop-o-init
loop-o-init c =
    let a = c.args in
    let p = c.requires in
    seek_starts a.members a.i p.2 p.3.inside
    (λ t l e. still_passes a.self.now a.o p.0 a.q t l (not-false _ (p.3.outside t l e)))

pub returns-in_err-j : goal.returns-in_err-j
returns-in_err-j c =
    let f = sym c.passes_by.ensures ∙ c.loop-o-test.true in
    rw c.from_residual.ensures (seek_ends c.loop-o.invariant f c.in_err-j.ensures.steps)

pub loop-o-preserved : goal.loop-o-preserved
loop-o-preserved c =
    seek_on c.loop-o.invariant (sym c.passes_by.ensures ∙ c.loop-o-test.true) c.in_ok-j.ensures.steps
