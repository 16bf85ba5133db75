-- What holds at each turn of `neighbours::sheet::Sheet::mean_beside`. Assumes nothing.
use Rattle.neighbours.specs.Neighbours.{ideal_of, is_neighbour}
use Rattle.neighbours.specs.Sheets.{stated}
use Rattle.neighbours.proofs.Laws.{Summed}
use Rattle.neighbours.proofs.sheet.Sheet.mean_beside.Given as goal

abbrev pub invariant-loop-h : goal.invariant-loop-h
invariant-loop-h l = Summed (is_neighbour (stated l.self) l.j) (ideal_of (stated l.self)) l.self.intervals l.h l.sum l.count
