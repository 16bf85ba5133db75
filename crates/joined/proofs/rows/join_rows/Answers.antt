-- `joined::rows::join_rows` meets its contract: the first's rows are the front of the list, the second's the rest. Assumes nothing.
use Rattle.std.proofs.Common.{arith, rules, ◌-◌, ◌*◌}
use Rattle.lattice.proofs.FlatLaws.{flat_append}
use Rattle.joined.specs.Joined.{padded, spread}
use Rattle.joined.proofs.RowLaws.{both}
use Rattle.joined.proofs.rows.join_rows.Goals as goal

pub returns : goal.returns
returns c =
    let a = c.args in
    rw flat_append
    (both (a.first.sizes.rows * a.columns) a.out.now c.lay_rows.new.out c.lay_rows-2.new.out (omega (arith, c.requires.out_len.0))
    c.lay_rows.auto.out
    (c.lay_rows.ensures (padded (a.columns - a.first.sizes.columns)) (λ o r t h w e. rw (h, w) at e))
    (c.lay_rows-2.ensures (spread a.columns a.places.now) (λ o r t h w e. search rules)))
