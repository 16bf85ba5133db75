-- What holds at each turn of `goals::whole_root`, with b bits to come: k is below 2^20 by 2 ^ b, and the definition goes on from k to the root of
-- the product p. Assumes nothing.
use mathlib.Core.Path.{◌≡◌}
use Prim.Native.Nat.{◌+◌, ◌^◌, ◌≤◌}
use Rattle.goals.specs.Ideals.{root_bits, whole_root}
use Rattle.goals.proofs.whole_root.Given as goal

abbrev pub invariant-loop-b : goal.invariant-loop-b
invariant-loop-b l = (l.b ≤ 20) × (l.k + 2 ^ l.b ≤ 2 ^ 20) × (root_bits l.b l.p l.k ≡ whole_root l.p)
