-- What holds at each turn of `joined::columns::absorb_list`. Assumes nothing.
use Rattle.std.proofs.Common.{◌≡◌, ℤ, drop}
use Rattle.joined.specs.Filling.{absorb_into, Gives}
use Rattle.joined.proofs.columns.absorb_list.Given as goal

abbrev pub invariant-loop-j : goal.invariant-loop-j
invariant-loop-j g l = (f : ℤ → ℤ → ℤ) → Gives (goal.F-post g l.combine) f
    → absorb_into f l.out (drop l.j l.seats.partners.now) (drop l.j l.seats.places.now) (drop l.j l.list)
    ≡ absorb_into f l.initial.out l.seats.partners.now l.seats.places.now l.list
