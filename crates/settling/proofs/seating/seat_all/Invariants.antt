-- What holds at each turn of `settling::seating::seat_all`. Assumes nothing.
use Rattle.settling.proofs.Rounds.{Left}
use Rattle.settling.proofs.seating.seat_all.Given as goal

abbrev pub invariant-loop-s : goal.invariant-loop-s
invariant-loop-s l = Left l.basis l.columns l.initial.values l.values l.s l.from
