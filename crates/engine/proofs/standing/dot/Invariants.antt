-- What holds at each turn of `engine::standing::dot`. Assumes nothing.
use Rattle.engine.proofs.Dots.{Summed}
use Rattle.engine.proofs.standing.dot.Given as goal

abbrev pub invariant-loop-j : goal.invariant-loop-j
invariant-loop-j l = Summed l.row l.values l.j l.s
