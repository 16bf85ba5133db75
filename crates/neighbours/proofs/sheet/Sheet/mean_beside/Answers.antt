-- `neighbours::sheet::Sheet::mean_beside` meets its contract: from column h on the sum and the count are those of the neighbours. Assumes nothing.
use Rattle.std.proofs.Common.{◌≡◌, true, false, ℕ, ◌-◌, ◌+ℤ◌, nat_abs, ◌≤◌, rules, arith, to_z, of_z, w64}
use Rattle.problem.specs.Limits.{max_bound}
use Rattle.neighbours.specs.Neighbours.{ideal_of, is_neighbour}
use Rattle.neighbours.specs.Sheets.{stated}
use Rattle.neighbours.proofs.Laws.{summed_none, summed_skip, summed_more, ideal_within}
use Rattle.neighbours.proofs.sheet.Sheet.mean_beside.Goals.{else-self-h-ne0-via-then-self-h-ne0+else-share_row, else-self-h-ne0-via-else-self-h-ne0}
use Rattle.neighbours.proofs.sheet.Sheet.mean_beside.Goals as goal

pub loop-h-init : goal.loop-h-init
loop-h-init c = summed_none _ _ _

pub loop-h-preserved-then-share_row : goal.loop-h-preserved-then-share_row
loop-h-preserved-then-share_row c =
    let S = stated c.args.self in
    let h : ℕ = c.loop-h.h - 1 in
    let t : is_neighbour S c.args.j h ≡ true = search rules in
    let e : to_z w64 (of_z w64 (to_z w64 c.loop-h.sum-bits +ℤ to_z w64 (of_z w64 c.ideal-sum.result))) ≡ to_z w64 c.loop-h.sum-bits +ℤ ideal_of S h =
    search rules in
    let l : nat_abs (S.lower h) ≤ max_bound = c.args.self.small.lower h (omega arith) in
    let u : nat_abs (S.upper h) ≤ max_bound = c.args.self.small.upper h (omega arith) in
    rw e (summed_more _ _ _ _ _ _ (omega arith) t (ideal_within S h l u) c.loop-h.invariant)

pub loop-h-preserved : goal.loop-h-preserved
loop-h-preserved c =
    let S = stated c.args.self in
    let h : ℕ = c.loop-h.h - 1 in
    let t : is_neighbour S c.args.j h ≡ false = elim c.else-self-h-ne0.branch [
      | else-self-h-ne0-via-then-self-h-ne0+else-share_row w ↦ search rules
      | else-self-h-ne0-via-else-self-h-ne0 w ↦ search rules
    ] in
    summed_skip _ _ _ _ _ _ (omega arith) t c.loop-h.invariant
