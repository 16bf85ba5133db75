-- `report::put_verdict` meets its contract: the word, the two counts and the line's end, one after the other. Assumes nothing.
use Rattle.std.proofs.Common.{arith}
use Rattle.report.proofs.Laws.{wrote_four}
use Rattle.report.proofs.put_verdict.Goals as goal

pub returns : goal.returns
returns c =
    let b = rw c.from.ensures at c.put_field-b.ensures in
    let d = rw c.from-2.ensures at c.put_field-c.ensures in
    wrote_four _ _ _ _ c.put-a.ensures b d c.put.ensures (omega (arith, c.requires))
