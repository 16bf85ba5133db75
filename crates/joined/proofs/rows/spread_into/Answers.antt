-- `joined::rows::spread_into` meets its contract: the coefficients put in so far and those left make the row. Assumes nothing.
use Rattle.std.proofs.Common.{arith, rules, sym, ◌∙◌, pos, length, length-append}
use Rattle.std.proofs.lemmas.Slice.Zip.{zip_turn, zip_end}
use Rattle.whole.proofs.Signed.{back}
use Rattle.joined.proofs.Laying.{spread_step, spread_end}
use Rattle.joined.proofs.rows.spread_into.Goals as goal

pub loop-p-preserved : goal.loop-p-preserved
loop-p-preserved c =
    let a = c.args in
    let l = c.loop-p in
    let t =
    zip_turn a.places.now a.row.now l.yielded c.into_iter-p-iterator.result l.p-iterator c.next.new.self _ (search rules) (search rules)
    l.yielded_by _ c.in-Some.is c.next.ensures.steps in
    simp length-append
    (spread_step l.out a.places.now a.row.now (length l.yielded) _ _ t.0 t.1 (t.2 0) (back _ (search rules) ∙ t.3 (pos 0)) ∙ l.invariant)

pub returns : goal.returns
returns c =
    let a = c.args in
    let l = c.loop-p in
    let t =
    zip_end a.places.now a.row.now l.yielded c.into_iter-p-iterator.result l.p-iterator c.next.new.self _ (search rules) (search rules)
    l.yielded_by c.in-None.is c.next.ensures.steps in
    sym (spread_end l.out a.places.now a.row.now (length l.yielded) c.requires.row_len (omega (arith, t))) ∙ l.invariant
