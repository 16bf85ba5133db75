-- The marked deck cases hold, those of a low and a high goal and those of rounds: the checker computes each from the definitions. Assumes nothing.
use mathlib.Core.Path.{refl}
use Rattle.whole.specs.Tests.{every}
use Rattle.whole.specs.Divisor.{divisor_by, divisor}
use Rattle.lattice.specs.Rows.{plus, neg, all_zero, lead}
use Rattle.lattice.specs.Sums.{dot, sums}
use Rattle.text.specs.Tokens.{all_digits, value}
use Rattle.text.specs.Positions.{stretch}
use Rattle.text.specs.Decimals.{decimal}
use Rattle.problem.specs.Limits.{any_beyond}
use Rattle.problem.specs.Checks.{first_cause}
use Rattle.tableau.specs.Table.{tableau_from, tableau}
use Rattle.tableau.specs.Elimination.{lowered_by, reduced, each, choose, exchange, clear_by, round_by, gather_by}
use Rattle.tableau.specs.Elimination.{pass_column_by, pass_columns_by, eliminate_by}
use Rattle.tableau.specs.RoundCount.{gather_rounds, column_rounds, rounds_from, rounds, form_rounds}
use Rattle.tableau.specs.RightSide.{sweep, leading, remaining, right_side, form, solve}
use Rattle.goals.specs.Ideals.{root_bits, whole_root, goal_ideal}
use Rattle.goals.specs.Wishes.{ideal}
use Rattle.settling.specs.Seating.{seat_one, seat}
use Rattle.settling.specs.Moves.{singles, pairs_with, pairs, moves, moved}
use Rattle.settling.specs.Measures.{measure}
use Rattle.settling.specs.Steps.{is_ranked, passes, improves, insert, rank_from, first_move, first_column, step_at, step_of, next_step}
use Rattle.settling.specs.Settle.{settle_from, settle}
use Rattle.settling.specs.Strides.{stride, strides_from}
use Rattle.engine.specs.Assign.{settle_on, assign}
use Rattle.neighbours.specs.Neighbours.{numbers_from, neighbour_wish}
use Rattle.sections.specs.Sections.{intervals, terms, lines}
use Rattle.sections.specs.StatedColumns.{slack_columns, placed, coefficient_rows}
use Rattle.volumes.specs.Volumes.{is_on, indices, paths, volumes}
use Rattle.volumes.specs.PathLines.{without, terms_of, swept_lines}
use Rattle.deck.specs.Posing.{read_deck, posed}
use Rattle.report.specs.Listing.{lines_from, listing}
use Rattle.solve.specs.Program.{printed}
use Rattle.solve.specs.Cases.{DeckCases}
use Rattle.solve.specs.GoalCases.{GoalCases}
use Rattle.solve.specs.RoundCases.{RoundCases}

computed : DeckCases × GoalCases × RoundCases
unfolding numbers_from neighbour_wish every divisor_by divisor plus neg all_zero lead dot sums stretch all_digits value decimal any_beyond
    first_cause tableau_from tableau lowered_by reduced each choose exchange clear_by round_by gather_by pass_column_by pass_columns_by eliminate_by
    sweep leading remaining right_side form solve root_bits whole_root goal_ideal ideal seat_one seat singles pairs_with pairs moves moved measure
    is_ranked passes improves insert rank_from first_move first_column step_at step_of next_step settle_from settle stride strides_from settle_on
    assign intervals terms lines is_on indices paths volumes without terms_of swept_lines read_deck slack_columns placed coefficient_rows posed
    lines_from listing printed gather_rounds column_rounds rounds_from rounds form_rounds
computed = (
  record {
    half = refl;
    whole = refl;
    crossed = refl;
    twice = refl;
    free = refl;
    ideals = λ v. refl;
    basis = refl;
    seats = refl;
    three_two_lem = refl;
    outside = refl;
    fitted = refl;
    spent = refl;
    paving = refl;
  },
  record {
    between = refl;
    edge = refl;
    seats = refl;
    tied = refl;
    crossed = refl;
    high_alone = refl;
    low_alone = refl;
    beyond = refl;
    negative = refl;
    lower_zero = refl;
    none = refl;
    text = refl;
    bound_first = refl;
  },
  record {
    lone = refl;
    three_two_lem = refl;
    fitted = refl;
    spent = refl;
    none = refl;
    far = refl;
    over = refl;
    restated = (refl, refl);
  },
)

pub deck_cases : DeckCases
deck_cases = computed.0

pub goal_cases : GoalCases
goal_cases = computed.1

pub round_cases : RoundCases
round_cases = computed.2
