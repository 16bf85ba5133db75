-- What holds at each turn of `lattice::lead_from`. Assumes nothing.
use mathlib.Core.Path.{◌≡◌}
use Prim.Native.Nat.{◌+◌}
use lib.ListN.{drop}
use Rattle.lattice.specs.Rows.{lead}
use Rattle.lattice.proofs.lead_from.Given as goal

abbrev pub invariant-loop-i : goal.invariant-loop-i
invariant-loop-i l = l.i + lead (drop l.i l.row) ≡ l.from + lead (drop l.from l.row)
