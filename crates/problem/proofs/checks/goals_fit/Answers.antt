-- `problem::checks::goals_fit` meets its contract: the loop leaves at the first column whose goals do not fit. Assumes nothing.
use Rattle.std.proofs.Common.{rules, ◌≡◌, true, false, sym}
use Rattle.whole.proofs.Counted.{starts, goes_on, fails}
use Rattle.problem.proofs.checks.goals_fit.Invariants.{test}
use Rattle.problem.proofs.checks.goals_fit.Goals as goal

pub loop-j-init : goal.loop-j-init
loop-j-init c = starts _ _

pub returns-then-not-goal_fits : goal.returns-then-not-goal_fits
returns-then-not-goal_fits c =
    let t : test c.args.lower.now c.args.low.now c.args.high.now c.loop-j.j ≡ false = search rules in
    sym (fails c.loop-j.invariant c.loop-j-test.true t)

pub loop-j-preserved : goal.loop-j-preserved
loop-j-preserved c =
    let t : test c.args.lower.now c.args.low.now c.args.high.now c.loop-j.j ≡ true = search rules in
    goes_on c.loop-j.invariant c.loop-j-test.true t
