-- What holds at each turn of `joined::rows::spread_into`: the coefficients left, put in, make the row. Assumes nothing.
use Rattle.std.proofs.Common.{◌≡◌, drop, length}
use Rattle.joined.specs.Joined.{spread_from}
use Rattle.joined.proofs.rows.spread_into.Given as goal

abbrev pub invariant-loop-p : goal.invariant-loop-p
invariant-loop-p l =
    spread_from l.out (drop (length l.yielded) l.places) (drop (length l.yielded) l.row)
    ≡ spread_from l.initial.out l.places l.row
