-- `problem::checks::all_span` meets its contract. Assumes nothing.
use Rattle.std.proofs.Common.{rules, tests, sym, ◌∙◌, pos}
use Rattle.std.proofs.lemmas.Iterator.{YieldsList-from_slice}
use Rattle.std.proofs.lemmas.Iterator.Search.{all_from_yields_List}
use Rattle.whole.specs.Tests.{spans}
use Rattle.whole.proofs.Counted.{every_list}
use Rattle.problem.proofs.checks.all_span.Goals as goal

pub returns : goal.returns
returns c =
    all_from_yields_List (spans c.args.most) _ _ _ c.all.ensures.ran (YieldsList-from_slice c.args.s.now cc) (λ x b q k. search (rules, tests))
    ∙ sym (every_list (spans c.args.most) (pos 0) c.args.s.now)
