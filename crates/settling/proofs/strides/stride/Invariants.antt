-- What holds at each turn of `settling::strides::stride`, with s vectors to come. Assumes nothing.
use mathlib.Core.Path.{◌≡◌}
use Prim.Native.Nat.{◌≤◌}
use lib.ListN.{drop}
use Rattle.settling.specs.Strides as Strides
use Rattle.settling.specs.Views.{vectors}
use Rattle.settling.proofs.strides.stride.Given as goal

abbrev pub invariant-loop-s : goal.invariant-loop-s
invariant-loop-s l = (l.s ≤ l.basis.vectors) × (l.d ≡ Strides.stride (drop l.s (vectors l.basis)) l.j)
