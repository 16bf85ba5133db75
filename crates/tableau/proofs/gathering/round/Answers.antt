-- `tableau::gathering::round` meets its contract: the chosen row comes to the top, and each row below it has its step. Assumes nothing.
use mathlib.Core.Path.{sym, ◌∙◌, ap, subst}
use mathlib.Core.List.{List}
use Prim.Native.Nat.{ℕ}
use native.Mathlib.Omega.{arith}
use lib.IntN.{ℤ}
use lib.ListN.{length}
use Rattle.lattice.proofs.LentParts.{tail_is, tail_back}
use Rattle.tableau.specs.Within.{Within}
use Rattle.tableau.proofs.Rounds.{ends_inside, lift_asks, pivot_is, below_is_wide, below_is_small, round_stops}
use Rattle.tableau.proofs.gathering.round.Goals as goal

pub lift-requires : goal.lift-requires
lift-requires c =
    let l = lift_asks c.requires.tail c.requires.picked in
    record { c_in_bounds = l.0; zero_to = l.1.0; within = l.1.1 }

pub each-requires : goal.each-requires
each-requires c =
    let w : ℕ = length c.args.pivot.now in
    let u : List ℤ = c.lift.new.t in
    record {
      t_len = ap length (tail_is w u)
          ∙ below_is_wide c.requires.tail c.requires.picked c.lift.ensures;
      pivot = pivot_is c.requires.tail c.requires.picked c.lift.ensures;
      within = subst Within (sym (tail_is w u)) (below_is_small c.requires.tail c.requires.picked c.lift.ensures);
    }

pub returns : goal.returns
returns c =
    let w : ℕ = length c.args.pivot.now in
    let u : List ℤ = c.lift.new.t in
    let v : List ℤ = c.each.new.t in
    rw (tail_back w u v (omega (arith, c.lift.auto.t, ends_inside c.requires.tail c.requires.picked)))
    (round_stops c.requires.tail c.requires.picked c.lift.ensures c.each.result v
    (rw (tail_is w u) at c.each.ensures))
