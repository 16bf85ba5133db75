-- `joined::rows::lay_rows` meets its contract: the rows laid so far and those left are all rows. Assumes nothing.
use Rattle.std.proofs.Common.{arith, sym, ◌∙◌}
use Rattle.joined.proofs.RowLaws.{row_wide, rows_start, rows_on, rows_end}
use Rattle.joined.proofs.rows.lay_rows.Goals as goal

pub loop-i-init : goal.loop-i-init
loop-i-init g c f k = let a = c.args in rows_start f a.part.sizes.rows a.part.sizes.columns a.n a.part.lists.coefficients.now a.out.now

pub loop-i-preserved : goal.loop-i-preserved
loop-i-preserved g c f k =
    let a = c.args in
    let s = c.requires.lengths.0 in
    let t = c.loop-i.auto.out ∙ c.requires.lengths.1 in
    rows_on f a.part.sizes.rows a.part.sizes.columns a.n a.part.lists.coefficients.now c.loop-i.out c.loop-i.i c.loop-i-test.true s t
    c.lay.new.arg2 c.lay.auto.arg2
    (k _ _ _ (row_wide a.part.sizes.rows a.n c.loop-i.i c.loop-i.out t c.loop-i-test.true)
    (row_wide a.part.sizes.rows a.part.sizes.columns c.loop-i.i a.part.lists.coefficients.now s c.loop-i-test.true) c.lay.ensures)
    ∙ c.loop-i.invariant f k

pub returns : goal.returns
returns g c f k =
    let a = c.args in
    sym (rows_end f a.part.sizes.rows a.part.sizes.columns a.n a.part.lists.coefficients.now c.loop-i.out c.loop-i.i
    (c.loop-i.auto.out ∙ c.requires.lengths.1) (omega arith)
    c.loop-i-test.false) ∙ c.loop-i.invariant f k
