-- `tableau::elimination::pass` meets its contract: gathering the rows from row k on, and the rows above by the pivot that it leaves, are the
-- column's pass. Assumes nothing.
use mathlib.Core.Path.{sym, ◌∙◌, subst}
use mathlib.Core.List.{List}
use Prim.Native.Nat.{◌*◌}
use lib.IntN.{ℤ}
use lib.ListN.{length}
use Rattle.std.specs.Prelude.{Ok, Err}
use Rattle.tableau.specs.RowSteps.{Pivot}
use Rattle.tableau.proofs.Counting.{passed_rounds_lem}
use Rattle.tableau.proofs.Passing.{tail_of, rows_of, pivot_of, passed_over, passed_stops}
use Rattle.tableau.proofs.Walking.{refused}
use Rattle.tableau.proofs.Within.{within_take}
use Rattle.tableau.proofs.elimination.pass.Goals as goal

pub gather-requires-clause-tail : goal.gather-requires-clause-tail
gather-requires-clause-tail c = rw c.split_at_mut-above.ensures.back (tail_of c.requires.standing c.requires.c_in_bounds)

pub returns-in_err-count-clause-stops_run : goal.returns-in_err-count-clause-stops_run
returns-in_err-count-clause-stops_run c =
    let r = c.requires in
    let g = rw c.split_at_mut-above.ensures.back at c.in_err-count.ensures.gathers in
    refused _ c.from_residual.result c.from_residual.ensures.0 (passed_over r.standing r.c_in_bounds r.picked g)

pub each-requires-clause-pivot : goal.each-requires-clause-pivot
each-requires-clause-pivot c =
    let r = c.requires in
    let g = rw c.split_at_mut-above.ensures.back at c.in_ok-count.ensures.gathers in
    subst (λ (p : List ℤ). Pivot (length p) c.args.c p) (sym g.1.1) (pivot_of (rows_of r.standing r.c_in_bounds r.picked) g.0)

pub each-requires-clause-within : goal.each-requires-clause-within
each-requires-clause-within c =
    rw c.split_at_mut-above.ensures.front (within_take (c.args.k * length c.args.pivot.now) c.args.t.now c.requires.standing.small)

pub returns-in_err-each-clause-stops_run : goal.returns-in_err-each-clause-stops_run
returns-in_err-each-clause-stops_run c =
    let r = c.requires in
    let g = rw c.split_at_mut-above.ensures.back at c.in_ok-count.ensures.gathers in
    let e = rw c.split_at_mut-above.ensures.front at c.in_err-each.ensures in
    refused _ c.from_residual-in_err-each.result c.from_residual-in_err-each.ensures.0
    (passed_stops r.standing r.c_in_bounds r.picked c.gather.new.pivot c.each.new.t c.gather.new.t (Err (record {})) g.0 g.1.1 g.1.0 e)

pub returns : goal.returns
returns c =
    let r = c.requires in
    let o = c.in_ok-count.ensures in
    let g = rw c.split_at_mut-above.ensures.back at o.gathers in
    let e = rw c.split_at_mut-above.ensures.front at c.in_ok-each.ensures in
    record {
      stops_run = passed_stops r.standing r.c_in_bounds r.picked c.gather.new.pivot c.each.new.t c.gather.new.t (Ok tt) g.0 g.1.1 g.1.0 e;
      rounds_value =
          (rw c.split_at_mut-above.ensures.back at o.rounds_value) ∙ sym (passed_rounds_lem r.standing r.c_in_bounds r.picked);
    }
