-- `search::sets::hold` meets its contract: the places that are left are those of the iterator. Assumes nothing.
use mathlib.Core.Path.{◌∙◌, ap}
use mathlib.Core.Bool.{◌||◌}
use Prim.Native.Nat.{ℕ}
use lib.Dec.{eqb}
use Rattle.search.specs.Sets.{has}
use Rattle.search.proofs.Finding.{set_lent, hold_ends, hold_inside, hold_more}
use Rattle.search.proofs.sets.hold.Goals as goal

pub bounds-holders-j : goal.bounds-holders-j
bounds-holders-j c = hold_inside _ _ _ c.loop-j.invariant.2 c.in-Some.ensures.steps

pub loop-j-preserved : goal.loop-j-preserved
loop-j-preserved c =
    let i = c.loop-j.invariant.2 in
    let t = c.in-Some.ensures.steps in
    let r = c.index-holders-j in
    let e = set_lent c.loop-j.holders c.in-Some.j r.result (hold_inside _ _ _ i t) in
    (tt, tt, hold_more _ _ _ i t c.insert.new.self (λ s. c.insert.ensures s ∙ ap (λ (w : ℕ). has w s || eqb s c.args.s) e))

pub returns : goal.returns
returns c = hold_ends _ _ _ c.in-None.ensures.steps c.loop-j.invariant.2
