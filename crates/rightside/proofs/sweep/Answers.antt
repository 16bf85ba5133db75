-- `rightside::sweep` meets its contract: the rows are taken from the top, and what is left to take from v is what was to take at first.
-- Assumes nothing.
use mathlib.Core.Path.{◌≡◌, sym, ◌∙◌, ap}
use Prim.Native.Nat.{◌+◌, ◌*◌}
use native.Mathlib.Omega.{arith}
use lib.ListN.{length}
use Rattle.whole.specs.Lists.{zeros}
use Rattle.lattice.specs.Rows.{lead}
use Rattle.lattice.proofs.LentParts.{part_is}
use Rattle.tableau.specs.Elimination.{reduced}
use Rattle.tableau.proofs.Told.{told_ok, told_err, refused_is}
use Rattle.tableau.proofs.Walking.{place_first, place_next}
use Rattle.rightside.specs.Sweeps.{swept_of}
use Rattle.rightside.proofs.Staircase.{lead_is}
use Rattle.rightside.proofs.Sweeping.{Sweeps, next, next_inside, next_pivot, over_left, sweep_starts, sweep_on, sweep_stops, sweep_ends}
use Rattle.rightside.proofs.sweep.Goals.{After-lead_from-lead}
use Rattle.rightside.proofs.sweep.Goals as goal

-- what the search finds is the lead of the row that comes next
told : (c : After-lead_from-lead) → c.lead_from-lead.result ≡ lead (next c.loop-i.invariant (omega arith))
told c =
    let w = length c.args.v.now in
    lead_is c.loop-i.invariant.walk (omega arith) (rw (part_is (c.loop-i.i * w) w c.args.t.now) at c.lead_from-lead.ensures)

pub loop-i-init : goal.loop-i-init
loop-i-init c =
    let a = c.args in
    let w = length a.v.now in
    place_first (λ at left. Sweeps w a.rows a.t.now a.v.now a.v.now at left 0) w a.rows
    (sweep_starts a.rows a.t.now a.v.now c.requires.0 c.requires.1)

pub reduce-requires-clause-pivot : goal.reduce-requires-clause-pivot
reduce-requires-clause-pivot c =
    let w = length c.args.v.now in
    rw (part_is (c.loop-i.i * w) w c.args.t.now)
    (next_pivot c.loop-i.invariant (omega arith) (told (goal.at.reduce-requires-clause-pivot c).After-lead_from-lead) c.requires.0.small)

pub returns-in_err-reduce : goal.returns-in_err-reduce
returns-in_err-reduce c =
    let w = length c.args.v.now in
    let v = c.loop-i.invariant in
    let e = rw (part_is (c.loop-i.i * w) w c.args.t.now) at c.in_err-reduce.ensures in
    let x = reduced c.lead_from-lead.result (next v (omega arith)) c.loop-i.v in
    let s = swept_of c.args.rows c.args.t.now c.args.v.now in
    let o = told_err x.over tt e.value in
    let p = sweep_stops v (omega arith) (told (goal.at.returns-in_err-reduce c).After-lead_from-lead) o in
    record {
      value = refused_is s.over tt c.from_residual.result c.from_residual.ensures.0 p;
      v_after = e.row_after ∙ over_left x c.loop-i.v o ∙ ap zeros v.wide ∙ sym (over_left s c.args.v.now p);
    }

pub overflow_add-c : goal.overflow_add-c
overflow_add-c c =
    let v = c.loop-i.invariant in
    omega (arith, told (goal.at.overflow_add-c c).After-lead_from-lead, next_inside v (omega arith))

pub loop-i-preserved : goal.loop-i-preserved
loop-i-preserved c =
    let a = c.args in
    let w = length a.v.now in
    let v = c.loop-i.invariant in
    let e = rw (part_is (c.loop-i.i * w) w a.t.now) at c.in_ok-reduce.ensures in
    let x = reduced c.lead_from-lead.result (next v (omega arith)) c.loop-i.v in
    place_next (λ at left. Sweeps w a.rows a.t.now a.v.now c.reduce.new.row at left (c.lead_from-lead.result + 1)) w a.rows c.loop-i.i
    (sweep_on v (omega arith) (told (goal.at.loop-i-preserved c).After-lead_from-lead) (told_ok x.over e.value).0 e.row_after)

pub returns : goal.returns
returns c =
    let o = sweep_ends c.loop-i.invariant (omega arith) in
    record { value = o.0; v_after = o.1 }
