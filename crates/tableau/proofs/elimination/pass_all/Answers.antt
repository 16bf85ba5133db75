-- `tableau::elimination::pass_all` meets its contract: the columns are passed from the left. Assumes nothing.
use mathlib.Core.Path.{sym, ◌∙◌, ap}
use Prim.Native.Nat.{◌*◌}
use native.Mathlib.Omega.{arith}
use lib.ListN.{length}
use Rattle.lattice.proofs.LentParts.{tail_is}
use Rattle.tableau.specs.Choices.{choice_of}
use Rattle.tableau.proofs.Columns.{columns_start, next_skipped, next_picked, next_over, next_few, next_passed, columns_done, rows_done}
use Rattle.tableau.proofs.Passing.{tail_of, room_of}
use Rattle.tableau.proofs.Walking.{refused}
use Rattle.tableau.proofs.elimination.pass_all.Goals.{in-Some+in_ok-count, in_default}
use Rattle.tableau.proofs.elimination.pass_all.Goals as goal

pub loop-c-init : goal.loop-c-init
loop-c-init c = columns_start c.args.t.now c.args.rows (length c.args.pivot.now) c.requires.t_len.0 c.requires.within

pub returns-then-k-rows : goal.returns-then-k-rows
returns-then-k-rows c =
    let o = rows_done c.loop-c.invariant c.if-k-rows.true in
    record { stops_run = (o.0, o.1); rounds_value = o.2 }

pub overflow_mul-k : goal.overflow_mul-k
overflow_mul-k c = omega (arith, room_of c.loop-c.invariant.stands)

pub offset_bounds-t-k : goal.offset_bounds-t-k
offset_bounds-t-k c = omega (arith, room_of c.loop-c.invariant.stands)

pub slice_bounds-choose-count : goal.slice_bounds-choose-count
slice_bounds-choose-count c = room_of c.loop-c.invariant.stands

pub slice_bounds-choose-start : goal.slice_bounds-choose-start
slice_bounds-choose-start c = omega (arith, room_of c.loop-c.invariant.stands)

pub choose-requires : goal.choose-requires
choose-requires c = (
  ap length (tail_is (c.loop-c.k * length c.args.pivot.now) c.loop-c.t) ∙ (tail_of c.loop-c.invariant.stands c.loop-c-test.true).wide,
  c.loop-c-test.true,
)

pub pass-requires : goal.pass-requires
pass-requires c =
    let v = c.loop-c.invariant in
    let e = rw (tail_is (c.loop-c.k * length c.args.pivot.now) c.loop-c.t) at c.in-Some.ensures in
    rw c.loop-c.auto.pivot record {
      standing = v.stands;
      c_in_bounds = c.loop-c-test.true;
      picked = next_picked v c.loop-c-test.true e.is;
      chooses = e;
    }

pub shape_of-t-in_err-count : goal.shape_of-t-in_err-count
shape_of-t-in_err-count c = c.pass.auto.t ∙ c.loop-c.invariant.same

pub returns-in_err-count-clause-stops_run : goal.returns-in_err-count-clause-stops_run
returns-in_err-count-clause-stops_run c =
    refused _ c.from_residual.result c.from_residual.ensures.0
    (next_over c.loop-c.invariant c.loop-c-test.true (rw c.loop-c.auto.pivot at c.in_err-count.ensures.stops_run))

pub overflow_add-count : goal.overflow_add-count
overflow_add-count c =
    let e = rw c.loop-c.auto.pivot at c.in_ok-count.ensures.rounds_value in
    omega (arith, e, c.loop-c.invariant.few, next_few c.loop-c.invariant c.loop-c-test.true, c.requires.t_len.1)

pub overflow_add-k : goal.overflow_add-k
overflow_add-k c =
    omega (arith, c.loop-c.invariant.stands.most, c.if-k-rows.false)

pub loop-c-preserved : goal.loop-c-preserved
loop-c-preserved c =
    let v = c.loop-c.invariant in
    let h = c.loop-c-test.true in
    let at = c.loop-c.k * length c.args.pivot.now in
    elim c.match-choose.branch [
      | in-Some+in_ok-count w ↦
          let e = rw (tail_is at c.loop-c.t) at w.in-Some.ensures in
          let o = rw c.loop-c.auto.pivot at w.in_ok-count.ensures in
          rw (w.t-is, w.count-is, w.k-is, o.rounds_value)
          (next_passed v h (next_picked v h e.is) o.stops_run.0 o.stops_run.1 w.pass.auto.t)
      | in_default w ↦
          let e = rw (tail_is at c.loop-c.t) at c.choose.ensures in
          rw (w.t-is, w.count-is, w.k-is) (next_skipped v h (sym e.is ∙ ap choice_of w.in_default.is))
    ]

pub shape_of-t : goal.shape_of-t
shape_of-t c = c.loop-c.invariant.same

pub returns : goal.returns
returns c =
    let o = columns_done c.loop-c.invariant c.loop-c-test.false in
    record { stops_run = (o.0, o.1); rounds_value = o.2 }
