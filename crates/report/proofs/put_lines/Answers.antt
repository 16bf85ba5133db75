-- `report::put_lines` meets its contract: a line, and then those to come. Assumes nothing.
use Rattle.std.proofs.Common.{◌≡◌, pos, get_or, arith, rules, to_z, of_z, w64}
use Rattle.text.proofs.Copying.{wrote_none, wrote_both, room_first, room_next}
use Rattle.report.proofs.Laws.{lines_more, lines_end}
use Rattle.report.proofs.put_lines.Goals as goal

pub put_line-p-requires : goal.put_line-p-requires
put_line-p-requires c =
    let x = c.args in
    let l = c.loop-i in
    let b : to_z w64 (of_z w64 (get_or x.values.now l.i (pos 0))) ≡ get_or x.values.now l.i (pos 0) = search rules in
    let e = lines_more x.values.now x.strides.now l.i c.requires.values_len (omega arith) in
    rw b (room_first _ _ _ _ (rw e at l.invariant.fits))

pub loop-i-preserved : goal.loop-i-preserved
loop-i-preserved c =
    let x = c.args in
    let l = c.loop-i in
    let b : to_z w64 (of_z w64 (get_or x.values.now l.i (pos 0))) ≡ get_or x.values.now l.i (pos 0) = search rules in
    let e = lines_more x.values.now x.strides.now l.i c.requires.values_len (omega arith) in
    let w = rw b at c.put_line-p.ensures in
    let f = rw e at l.invariant.fits in
    record { fits = room_next _ _ w f; then = λ q k h. l.invariant.then q k (rw e (wrote_both _ _ w h f)) }

pub returns : goal.returns
returns c =
    let l = c.loop-i in
    l.invariant.then l.out l.p (rw (lines_end c.args.values.now c.args.strides.now l.i (omega arith)) (wrote_none l.out l.p))
