-- What holds at each turn of `deck::tables::pick_columns`: the numbers of the columns so far are stored. Assumes nothing.
use Rattle.std.proofs.Common.{◌≡◌, ℕ, ℤ, List, map, take, length}
use Rattle.text.specs.Overwriting.{overwritten}
use Rattle.sections.specs.Sections.{deck_columns}
use Rattle.sections.specs.StatedColumns.{lower_of, upper_of, low_of, high_of}
use Rattle.sections.specs.declared.Interval.{Interval}
use Rattle.deck.proofs.tables.pick_columns.Given as goal

pub record Sofar (f : Interval → ℤ) (k : List Interval) (i : ℕ) (o u : List ℤ) : Type 0 where
  pub size : length u ≡ deck_columns
  pub wrote : u ≡ overwritten o 0 (map f (take i k))

abbrev pub invariant-loop-j : goal.invariant-loop-j
invariant-loop-j l =
    Sofar lower_of l.columns l.j l.initial.lower l.lower × Sofar upper_of l.columns l.j l.initial.upper l.upper
    × Sofar low_of l.columns l.j l.initial.low l.low × Sofar high_of l.columns l.j l.initial.high l.high
