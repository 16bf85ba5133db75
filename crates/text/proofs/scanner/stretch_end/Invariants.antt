-- What holds at each turn of `text::scanner::stretch_end`: from i the stretch ends where it ends from at. Assumes nothing.
use Rattle.std.proofs.Common.{◌≡◌, ◌+◌, drop}
use Rattle.text.specs.Positions.{stretch}
use Rattle.text.proofs.scanner.stretch_end.Given as goal

abbrev pub invariant-loop-i : goal.invariant-loop-i
invariant-loop-i l = l.i + stretch l.blank (drop l.i l.s) ≡ l.at + stretch l.blank (drop l.at l.s)
