-- `joining::join_paired` meets its contract: the lent lists are as long as the joined sizes need, once both have passed. Assumes nothing.
use Rattle.std.proofs.Common.{rules, ◌+◌}
use Rattle.pairing.specs.Parts.{mut_lists, sized}
use Rattle.joining.proofs.Made.{room_fits}
use Rattle.joining.proofs.Filled.{lists_long}
use Rattle.joining.proofs.join_paired.Goals as goal

pub fill-requires-clause-out_long : goal.fill-requires-clause-out_long
fill-requires-clause-out_long c =
    let a = c.args in
    let n = a.first.sizes.columns + c.unshared.result in
    let m = a.first.sizes.rows + a.second.sizes.rows in
    lists_long n m (mut_lists a.out.now) (room_fits (sized n m 0) (mut_lists a.out.now) (search rules)).1
