-- The invariant of `lines_fit`: what is left of the room and what is left to write. Assumes nothing.
use Rattle.std.proofs.Common.{◌≡◌, ◌+◌, length, drop}
use Rattle.report.specs.Listing.{lines_from}
use Rattle.report.proofs.lines_fit.Given as goal

abbrev pub invariant-loop-i : goal.invariant-loop-i
invariant-loop-i l =
    l.left + length (lines_from 0 l.values l.strides)
    ≡ l.room + length (lines_from l.i (drop l.i l.values) (drop l.i l.strides))
