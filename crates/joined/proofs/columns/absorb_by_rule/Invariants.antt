-- What holds at each turn of `joined::columns::absorb_by_rule`. Assumes nothing.
use Rattle.std.proofs.Common.{◌≡◌, drop}
use Rattle.joined.specs.Filling.{absorb_into}
use Rattle.joined.proofs.columns.absorb_by_rule.Given as goal

abbrev pub invariant-loop-j : goal.invariant-loop-j
invariant-loop-j g l =
    let f = g.R.Rule.of_two in
    absorb_into f l.out (drop l.j l.seats.partners.now) (drop l.j l.seats.places.now) (drop l.j l.list)
    ≡ absorb_into f l.initial.out l.seats.partners.now l.seats.places.now l.list
