-- The invariant of `put_lines`: what is left to write fits, and once it is written all lines are. Assumes nothing.
use Rattle.std.proofs.Common.{ℕ, List, ◌+◌, ◌≤◌, length, drop}
use Rattle.text.specs.Overwriting.{Wrote}
use Rattle.report.specs.Listing.{lines_from}
use Rattle.report.proofs.put_lines.Given as goal

abbrev pub invariant-loop-i : goal.invariant-loop-i
invariant-loop-i l =
    let rest : List ℕ = lines_from l.i (drop l.i l.values) (drop l.i l.strides) in
    record {
      fits : l.p + length rest ≤ length l.out;
      then : (q : List ℕ) (e : ℕ) → Wrote l.out l.p rest e q → Wrote l.fn.out l.fn.at (lines_from 0 l.fn.values l.fn.strides) e q;
    }
