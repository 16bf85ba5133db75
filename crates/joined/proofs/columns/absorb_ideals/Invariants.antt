-- What holds at each turn of `joined::columns::absorb_ideals`. Assumes nothing.
use Rattle.std.proofs.Common.{◌≡◌, drop}
use Rattle.joined.specs.Columns.{set_first}
use Rattle.joined.specs.Filling.{absorb_into, absorb_ideals}
use Rattle.joined.proofs.columns.absorb_ideals.Given as goal

abbrev pub invariant-loop-j : goal.invariant-loop-j
invariant-loop-j l =
    (absorb_into set_first l.given (drop l.j l.seats.partners.now) (drop l.j l.seats.places.now) (drop l.j l.given2)
    ≡ absorb_into set_first l.initial.given l.seats.partners.now l.seats.places.now l.given2)
    × (absorb_ideals l.given l.ideals (drop l.j l.seats.partners.now) (drop l.j l.seats.places.now) (drop l.j l.given2) (drop l.j l.ideals2)
    ≡ absorb_ideals l.initial.given l.initial.ideals l.seats.partners.now l.seats.places.now l.given2 l.ideals2)
