-- What holds at each turn of `rightside::sweep`. Assumes nothing.
use Prim.Native.Nat.{◌*◌, ◌-◌}
use Rattle.rightside.proofs.Sweeping.{Sweeps}
use Rattle.rightside.proofs.sweep.Given as goal

abbrev pub invariant-loop-i : goal.invariant-loop-i
invariant-loop-i l = Sweeps l.w l.rows l.t l.fn.v l.v (l.i * l.w) (l.rows - l.i) l.c
