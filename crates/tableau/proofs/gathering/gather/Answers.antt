-- `tableau::gathering::gather` meets its contract: a lone entry's row is only brought to the top, else there are rounds. Assumes nothing.
use mathlib.Core.Path.{sym, ◌∙◌}
use Rattle.tableau.proofs.Rounds.{lift_asks}
use Rattle.tableau.proofs.Lone.{lone_stops, lone_round}
use Rattle.tableau.proofs.gathering.gather.Goals as goal

pub lift-requires : goal.lift-requires
lift-requires c =
    let l = lift_asks c.requires.tail c.requires.picked in
    record { c_in_bounds = l.0; zero_to = l.1.0; within = l.1.1 }

pub returns-then-z-eq1 : goal.returns-then-z-eq1
returns-then-z-eq1 c =
    let e = sym c.requires.chooses.count ∙ c.if-z-eq1.true in
    record {
      gathers = lone_stops c.requires.tail c.requires.picked c.lift.ensures e;
      rounds_value = sym (lone_round c.requires.tail c.requires.picked c.lift.ensures e);
    }
