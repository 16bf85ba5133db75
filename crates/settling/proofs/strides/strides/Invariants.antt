-- What holds at each turn of `settling::strides::strides`. Assumes nothing.
use mathlib.Core.Path.{◌≡◌}
use Prim.Native.Nat.{ℕ, ◌<◌}
use lib.ListN.{length, get_or}
use Rattle.settling.specs.Strides as Strides
use Rattle.settling.specs.Views.{vectors}
use Rattle.settling.proofs.strides.strides.Given as goal

abbrev pub invariant-loop-j : goal.invariant-loop-j
invariant-loop-j l =
    (length l.out ≡ length l.initial.out) × ((x : ℕ) → x < l.j → get_or l.out x 0 ≡ Strides.stride (vectors l.basis) x)
