-- What holds at each turn of `rightside::leading_rows`. Assumes nothing.
use Prim.Native.Nat.{◌*◌, ◌-◌}
use Rattle.rightside.proofs.Staircase.{Counts}
use Rattle.rightside.proofs.leading_rows.Given as goal

abbrev pub invariant-loop-i : goal.invariant-loop-i
invariant-loop-i l = Counts l.m l.w l.rows l.t (l.i * l.w) (l.rows - l.i) l.c
