-- `settling::seating::seat_all` meets its contract: what is left of the vectors, from the present values, gives the whole. Assumes nothing.
use Rattle.std.specs.Prelude.{Ok, Err}
use borrow.Author.Rules.{rules}
use mathlib.Core.Path.{◌≡◌, sym, ◌∙◌, ap, subst}
use native.Mathlib.Omega.{arith}
use Rattle.lattice.specs.Rows.{lead}
use Rattle.settling.specs.Seats.{Addable, PositiveLead}
use Rattle.settling.proofs.Seats.{row_columns, row_addable, placeable}
use Rattle.settling.proofs.Rounds.{lead_found, turn_told, left_on, left_far, left_end}
use Rattle.settling.proofs.seating.seat_all.Goals as goal

pub vector-row-requires : goal.vector-row-requires
vector-row-requires c =
    (omega arith, row_columns c.args.basis c.loop-s.values c.args.columns.now c.loop-s.invariant.seatable c.loop-s.s (omega arith))

pub seat_one-requires : goal.seat_one-requires
seat_one-requires c =
    let l = c.loop-s in
    let B = c.args.basis in
    let t = c.args.columns.now in
    let is = c.vector-row.ensures.value in (
      placeable B l.values t l.invariant.seatable,
      subst (Addable l.values) (sym is) (row_addable B l.values t l.invariant.seatable l.s (omega arith)),
      subst PositiveLead (sym is) (l.invariant.seatable.led l.s (omega arith)),
      lead_found B t c.args.values.now l.values l.s l.from l.invariant (omega arith) c.vector-row.result.now is c.lead_from-c.result
          c.lead_from-c.ensures
          ∙ ap lead (sym is),
    )

pub returns-in_err-seat_one : goal.returns-in_err-seat_one
returns-in_err-seat_one c =
    let l = c.loop-s in
    let why = c.in_err-seat_one.field-0.0 in
    let r : c.from_residual.result ≡ Err why = search rules in
    rw r (left_far c.args.basis c.args.columns.now c.args.values.now l.values l.s l.from l.invariant (omega arith) why
    (turn_told c.args.basis c.args.columns.now c.args.values.now l.values l.s l.from l.invariant (omega arith) c.vector-row.result.now
    c.vector-row.ensures.value (Err why) c.in_err-seat_one.ensures))

pub overflow_add-from : goal.overflow_add-from
overflow_add-from c =
    let l = c.loop-s in
    let q = l.invariant.seatable in
    record {
      fits = omega (
        arith,
        lead_found c.args.basis c.args.columns.now c.args.values.now l.values l.s l.from l.invariant (omega arith) c.vector-row.result.now
            c.vector-row.ensures.value c.lead_from-c.result c.lead_from-c.ensures,
        (q.led l.s (omega arith)).inside,
        (row_addable c.args.basis l.values c.args.columns.now q l.s (omega arith)).long,
        q.ready.values_long,
        q.ready.few,
      );
    }

pub loop-s-preserved : goal.loop-s-preserved
loop-s-preserved c =
    let l = c.loop-s in
    let B = c.args.basis in
    let t = c.args.columns.now in
    let is = c.vector-row.ensures.value in
    left_on B t c.args.values.now l.values l.s l.from l.invariant (omega arith) c.seat_one.new.values c.lead_from-c.result c.seat_one.auto.values
    (lead_found B t c.args.values.now l.values l.s l.from l.invariant (omega arith) c.vector-row.result.now is c.lead_from-c.result
    c.lead_from-c.ensures)
    (turn_told B t c.args.values.now l.values l.s l.from l.invariant (omega arith) c.vector-row.result.now is (Ok c.seat_one.new.values)
    c.in_ok-seat_one.ensures)

pub returns : goal.returns
returns c =
    left_end c.args.basis c.args.columns.now c.args.values.now c.loop-s.values c.loop-s.s c.loop-s.from c.loop-s.invariant (omega arith)
