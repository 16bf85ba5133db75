-- `report::write_listing` meets its contract: nothing is written before the whole listing is known to fit. Assumes nothing.
use Rattle.std.proofs.Common.{length, take, arith, sym, ◌∙◌, length-append}
use borrow.Author.Tests.{leb-true, leb-false}
use Rattle.report.specs.Listing.{headline, lines_from}
use Rattle.report.proofs.Laws.{front, write_uneven, write_short, write_done}
use Rattle.report.proofs.write_listing.Goals.{then-out-first-via-then-out-first, then-out-first-via-else-out-first+then-not-lines_fit}
use Rattle.report.proofs.write_listing.Goals as goal

pub returns-then-lines_of-n : goal.returns-then-lines_of-n
returns-then-lines_of-n c =
    let x = c.args in
    sym (write_uneven x.out.now x.answer x.values.now x.strides.now
    (λ h. c.if-lines_of-n.true (c.lines_of.ensures ∙ (h ∙ sym c.lines_of-n.ensures))))

pub returns-then-out-first : goal.returns-then-out-first
returns-then-out-first c =
    let x = c.args in
    let n = c.lines_of-n.result in
    let q = sym c.lines_of.ensures ∙ c.if-lines_of-n.false in
    let p = length-append (headline x.answer) (lines_from 0 (take n x.values.now) (take n x.strides.now)) in
    sym (write_short x.out.now x.answer x.values.now x.strides.now n c.lines_of-n.ensures q (elim c.then-out-first.branch [
      | then-out-first-via-then-out-first w ↦ omega (arith, w.if-out-first.true, c.headline-first.ensures.next)
      | then-out-first-via-else-out-first+then-not-lines_fit w ↦
          let f = leb-false (length (lines_from 0 (take n x.values.now) (take n x.strides.now))) _
          (sym w.lines_fit.ensures ∙ w.if-not-lines_fit.true) in
          omega (arith, w.if-out-first.false, c.headline-first.ensures.next)
    ]))

pub returns : goal.returns
returns c =
    let x = c.args in
    let n = c.lines_of-n.result in
    let q = sym c.lines_of.ensures ∙ c.if-lines_of-n.false in
    let p = length-append (headline x.answer) (lines_from 0 (take n x.values.now) (take n x.strides.now)) in
    let f = leb-true (length (lines_from 0 (take n x.values.now) (take n x.strides.now))) _ (sym c.lines_fit.ensures ∙ c.if-not-lines_fit.false) in
    let h = rw (front (headline x.answer) c.headline-first.ensures) at c.put-e.ensures in
    sym (write_done x.out.now x.answer x.values.now x.strides.now n c.lines_of-n.ensures q
    (omega (arith, c.if-out-first.false, c.headline-first.ensures.next)) h c.put_lines.ensures)
