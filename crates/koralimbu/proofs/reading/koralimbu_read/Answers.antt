-- `koralimbu::reading::koralimbu_read` meets its contract: what the reader leaves is told by the sizes. Assumes nothing.
use Rattle.std.proofs.Common.{rules}
use Rattle.koralimbu.proofs.ReadLaws.{is_read}
use Rattle.koralimbu.proofs.reading.koralimbu_read.Goals as goal

pub returns : goal.returns
returns c =
    let e = is_read _ _ _ _ _ _ _ c.if-sizes-ne-SIZES.false c.read_deck.ensures.done (c.tell_sizes.ensures _) in
    search (rules, e)
