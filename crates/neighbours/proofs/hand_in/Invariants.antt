-- What holds at each turn of `neighbours::hand_in`: the numbers so far are those of the columns' ideals. Assumes nothing.
use Rattle.std.proofs.Common.{◌≡◌, ℕ, ◌<◌, length}
use Rattle.whole.specs.Lists.{entry}
use Rattle.goals.specs.Wishes.{wish_mark, wish_number}
use Rattle.neighbours.specs.Neighbours.{neighbour_wish}
use Rattle.neighbours.specs.Sheets.{stated}
use Rattle.neighbours.proofs.hand_in.Given as goal

abbrev pub invariant-loop-j : goal.invariant-loop-j
invariant-loop-j l = record {
  given_long : length l.given ≡ length l.initial.given;
  ideals_long : length l.ideals ≡ length l.initial.ideals;
  marks : (k : ℕ) → k < l.j → entry k l.given ≡ wish_mark (neighbour_wish (stated l.sheet) k);
  numbers : (k : ℕ) → k < l.j → entry k l.ideals ≡ wish_number (neighbour_wish (stated l.sheet) k);
}
