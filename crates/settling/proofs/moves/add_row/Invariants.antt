-- What holds at each turn of `settling::moves::add_row`. Assumes nothing.
use Rattle.settling.proofs.Adding.{Added}
use Rattle.settling.proofs.moves.add_row.Given as goal

abbrev pub invariant-loop-j : goal.invariant-loop-j
invariant-loop-j l = Added l.fn.a l.row l.initial.values l.values l.j
