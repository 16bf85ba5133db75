-- `report::put_line` meets its contract: the three numbers and the line's end, one after the other. Assumes nothing.
use Rattle.std.proofs.Common.{◌≡◌, rules, to_z, of_z, w64}
use Rattle.report.proofs.Laws.{wrote_four}
use Rattle.report.proofs.put_line.Goals as goal

pub returns : goal.returns
returns c =
    let v : to_z w64 (of_z w64 c.args.value) ≡ c.args.value = search rules in
    wrote_four _ _ _ _ c.put_natural-a.ensures (rw v at c.put_field-b.ensures) c.put_field-c.ensures c.put.ensures c.requires
