-- What holds at each turn of `tableau::gathering::rounds`. Assumes nothing.
use Rattle.tableau.proofs.Turns.{Turned, chosen_size_of}
use Rattle.tableau.proofs.gathering.rounds.Given as goal

abbrev pub invariant-loop-count : goal.invariant-loop-count
invariant-loop-count l = Turned l.fn.t l.rows l.w l.c l.most l.t l.j l.count

abbrev pub decreases-loop-count : goal.decreases-loop-count
decreases-loop-count l = chosen_size_of l.rows l.w l.c l.t
