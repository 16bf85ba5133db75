-- What holds at each turn of `joined::rows::lay_rows`: the rows passed are laid. Assumes nothing.
use Rattle.std.proofs.Common.{◌≡◌, ◌++◌, ◌*◌, ◌-◌, List, ℤ, map, take, drop}
use Rattle.lattice.specs.Rows.{flat, chop}
use Rattle.joined.specs.Filling.{LaysRows}
use Rattle.joined.proofs.rows.lay_rows.Given as goal

abbrev pub invariant-loop-i : goal.invariant-loop-i
invariant-loop-i g l = (f : List ℤ → List ℤ) → LaysRows l.n l.w (goal.F-post g l.lay) f
    → take (l.i * l.n) l.out ++ flat (map f (chop (l.fn.part.sizes.rows - l.i) l.w (drop (l.i * l.w) l.coefficients)))
    ≡ flat (map f (chop l.fn.part.sizes.rows l.w l.coefficients))
