-- `joined::columns::fill_places` meets its contract: the places set so far and those of the columns left are all places. Assumes nothing.
use Rattle.std.proofs.Common.{arith, sym, ◌∙◌}
use Rattle.joined.proofs.Laying.{places_alone, places_shared, places_end}
use Rattle.joined.proofs.columns.fill_places.Goals.{in-Some, in-None}
use Rattle.joined.proofs.columns.fill_places.Goals as goal

pub loop-j-preserved : goal.loop-j-preserved
loop-j-preserved c =
    let a = c.args in
    let h = c.loop-j-test.true in
    elim c.match-partner.branch [
      | in-Some w ↦ (
        omega (arith, w.next-is),
        rw (w.places-is, w.next-is) (places_shared a.partners.now c.loop-j.places c.loop-j.next c.loop-j.j h (omega arith) _ w.in-Some.is
            ∙ c.loop-j.invariant.1),
      )
      | in-None w ↦ (
        omega (arith, w.next-is),
        rw (w.places-is, w.next-is) (places_alone a.partners.now c.loop-j.places c.loop-j.next c.loop-j.j h (omega arith) w.in-None.is
            ∙ c.loop-j.invariant.1),
      )
    ]

pub returns : goal.returns
returns c =
    sym (places_end c.args.partners.now c.loop-j.places c.loop-j.next c.loop-j.j c.loop-j-test.false (omega arith)) ∙ c.loop-j.invariant.1
