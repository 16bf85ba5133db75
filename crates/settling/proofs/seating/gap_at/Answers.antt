-- `settling::seating::gap_at` meets its contract: an ideal lies in bounds, so that the difference fits. Assumes nothing.
use lib.ListN.{length}
use Rattle.whole.specs.Lists.{entry}
use Rattle.settling.specs.Columns.{columns_in, column_at}
use Rattle.settling.proofs.Seats.{gap_small, gap_fits, gap_makes}
use Rattle.settling.proofs.seating.gap_at.Goals as goal

pub overflow_sub-result : goal.overflow_sub-result
overflow_sub-result c =
    let f = c.requires.0.columns c.args.c in
    let d = column_at c.args.columns.now c.args.c in
    gap_fits d.lower d.upper d.wish (entry c.args.c c.args.values.now) c.ideal.result f.lower f.upper (c.requires.0.values_small c.args.c)
    c.ideal.ensures

pub returns-clause-value : goal.returns-clause-value
returns-clause-value c =
    let f = c.requires.0.columns c.args.c in
    let d = column_at c.args.columns.now c.args.c in
    gap_makes d.lower d.upper d.wish (entry c.args.c c.args.values.now) c.ideal.result f.lower f.upper (c.requires.0.values_small c.args.c)
    c.ideal.ensures

pub returns-clause-small : goal.returns-clause-small
returns-clause-small c =
    let v = c.args.values.now in
    rw (returns-clause-value c)
    (gap_small (columns_in (length v) c.args.columns.now) v c.args.c (c.requires.0.columns c.args.c) (c.requires.0.values_small c.args.c))
