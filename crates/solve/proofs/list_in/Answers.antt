-- `solve::list_in` meets its contract: an assignment leaves its lists as long as they were. Assumes nothing.
use Rattle.std.proofs.Common.{◌≡◌, length, rules, ap, ◌∙◌}
use Rattle.problem.specs.Answers.{Answer}
use Rattle.engine.specs.Assign.{buffers}
use Rattle.engine.specs.Replies.{done_by}
use Rattle.report.specs.Listing.{write_listing}
use Rattle.solve.proofs.Laws.{listed_by}
use Rattle.solve.proofs.list_in.Goals as goal

pub returns : goal.returns
returns c =
    let l = c.assign.new.lent in
    let a : c.map-answer.result ≡ (done_by c.assign.result (buffers l.0 l.1.0 l.1.1.0)).answer = search rules in
    let e : length l.1.0 ≡ length l.1.1.0 = search rules in
    c.write_listing.ensures ∙ ap (λ (x : Answer). write_listing c.args.out.now x l.1.0 l.1.1.0) a
    ∙ listed_by c.args.out.now c.assign.result (buffers l.0 l.1.0 l.1.1.0) _ c.assign.ensures e
