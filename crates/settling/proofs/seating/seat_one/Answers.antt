-- `settling::seating::seat_one` meets its contract: the row is added as often as the gap at its lead asks. Assumes nothing.
use mathlib.Core.Path.{◌∙◌, ap}
use mathlib.Core.List.{List}
use lib.IntN.{ℤ}
use lib.ListN.{length}
use Rattle.settling.specs.Columns.{columns_in}
use Rattle.settling.specs.Seats.{within}
use Rattle.settling.proofs.Rounds.{quotient_ready, factor_small, factor_is}
use Rattle.settling.proofs.seating.seat_one.Goals as goal

pub nearest_quotient-requires : goal.nearest_quotient-requires
nearest_quotient-requires c =
    quotient_ready (columns_in (length c.args.values.now) c.args.columns.now) c.args.values.now c.args.row.now c.args.c c.gap_at-d.result
    c.requires.3 c.gap_at-d.ensures.value c.gap_at-d.ensures.small c.requires.1 c.requires.2

pub add_row-requires : goal.add_row-requires
add_row-requires c = (
  c.requires.1,
  factor_small (columns_in (length c.args.values.now) c.args.columns.now) c.args.values.now c.args.row.now c.args.c c.gap_at-d.result
      c.requires.3 c.gap_at-d.ensures.value c.gap_at-d.ensures.small c.requires.1 c.requires.2 c.nearest_quotient.result
      c.nearest_quotient.ensures,
  c.requires.3,
)

pub returns : goal.returns
returns c =
    c.add_row.ensures
    ∙ ap (λ (u : List ℤ). within u)
    (factor_is (columns_in (length c.args.values.now) c.args.columns.now) c.args.values.now c.args.row.now c.args.c c.gap_at-d.result
    c.requires.3 c.gap_at-d.ensures.value c.gap_at-d.ensures.small c.requires.1 c.requires.2 c.nearest_quotient.result
    c.nearest_quotient.ensures)
