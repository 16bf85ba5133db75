-- What holds at each turn of `sections::intervals::scan_intervals`: what is left to read, after the intervals done, is what was to be read, and the
-- table holds the intervals done. Assumes nothing.
use Rattle.std.proofs.Common.{◌≡◌, ℕ, ◌-◌, ◌≤◌, List, length}
use Rattle.sections.specs.declared.Interval.{Interval}
use Rattle.sections.specs.Rules.{Outcome}
use Rattle.sections.specs.Sections.{deck_columns, intervals, interval_section}
use Rattle.sections.specs.StatedColumns.{no_interval, padded_by}
use Rattle.sections.proofs.intervals.scan_intervals.Given as goal

pub record Sofar (s : List ℕ) (o : Outcome (List Interval)) (n i p : ℕ) (k : List Interval) : Type 0 where
  pub most : n ≤ deck_columns
  pub done : List Interval
  pub count : length done ≡ i
  pub rest : intervals s (n - i) done p ≡ o
  pub columns : k ≡ padded_by no_interval deck_columns done

abbrev pub invariant-loop-i : goal.invariant-loop-i
invariant-loop-i l = Sofar l.s (interval_section l.s l.fn.at) l.n l.i l.at l.columns
