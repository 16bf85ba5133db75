-- `tableau::rows::step` meets its contract: where the entry or the quotient is 0 the row stays, else the subtraction of the parts from
-- column c on is that of the rows, since the pivot is 0 before c. Assumes nothing.
use mathlib.Core.Path.{◌≡◌, refl, ◌∙◌, ap₂}
use Prim.Native.Nat.{◌≤◌}
use native.Mathlib.Nat.{le_trans}
use native.Mathlib.Omega.{arith}
use lib.IntN.{nat_abs}
use Rattle.whole.specs.Lists.{entry}
use Rattle.whole.proofs.Integers.{positive_above}
use Rattle.lattice.proofs.LentParts.{tail_is, tail_back}
use Rattle.problem.specs.Limits.{M}
use Rattle.tableau.proofs.Within.{within_drop, within_entry}
use Rattle.tableau.specs.RowSteps.{quotient_of}
use Rattle.tableau.proofs.Machine.{read, stored_zero, stored_other}
use Rattle.tableau.proofs.Stepping.{inside, quotient_small, step_none, step_idle, step_parts}
use Rattle.tableau.proofs.rows.step.Goals.{After-quotient-q}
use Rattle.tableau.proofs.rows.step.Goals as goal

-- the quotient is the definition's, and no larger than the entry
module _ (c : After-quotient-q) where
  taken :
      let a = c.args in
      c.quotient-q.result ≡ quotient_of a.way (entry a.c a.row.now) (entry a.c a.pivot.now)
  taken =
      let a = c.args in
      c.quotient-q.ensures
      ∙ ap₂ (quotient_of a.way) (read (entry a.c a.row.now) (within_entry a.row.now a.c c.requires.within))
      (read (entry a.c a.pivot.now) (within_entry a.pivot.now a.c c.requires.pivot.small))

  small : nat_abs c.quotient-q.result ≤ M
  small =
      let a = c.args in
      rw taken
      (le_trans (quotient_small a.way (entry a.c a.row.now) c.requires.pivot.lead) (within_entry a.row.now a.c c.requires.within))

pub returns-then-e-eq0 : goal.returns-then-e-eq0
returns-then-e-eq0 c =
    let a = c.args in
    let e = stored_zero (entry a.c a.row.now) (within_entry a.row.now a.c c.requires.within) c.if-e-eq0.true in
    rw (step_none a.way a.c a.pivot.now a.row.now c.requires.pivot.lead c.requires.within e) (refl, refl)

pub quotient-q-requires : goal.quotient-q-requires
quotient-q-requires c =
    let a = c.args in
    let e = within_entry a.row.now a.c c.requires.within in
    let p = within_entry a.pivot.now a.c c.requires.pivot.small in
    rw (read (entry a.c a.row.now) e, read (entry a.c a.pivot.now) p) (e, p, positive_above c.requires.pivot.lead)

pub returns-then-q-eq0 : goal.returns-then-q-eq0
returns-then-q-eq0 c =
    let a = c.args in
    let q = (goal.at.returns-then-q-eq0 c).After-quotient-q in
    let e : nat_abs (quotient_of a.way (entry a.c a.row.now) (entry a.c a.pivot.now)) ≡ 0 =
    rw (taken q) at (stored_zero c.quotient-q.result (small q) c.if-q-eq0.true) in
    rw (step_idle a.way a.c a.pivot.now a.row.now (stored_other (entry a.c a.row.now) c.if-e-eq0.false) c.requires.within e) (refl, refl)

pub subtract-requires-clause-within : goal.subtract-requires-clause-within
subtract-requires-clause-within c =
    let a = c.args in
    rw (tail_is a.c a.row.now, tail_is a.c a.pivot.now)
    (within_drop a.c a.row.now c.requires.within, within_drop a.c a.pivot.now c.requires.pivot.small)

pub subtract-requires-clause-q_bound : goal.subtract-requires-clause-q_bound
subtract-requires-clause-q_bound c =
    let q = (goal.at.subtract-requires-clause-q_bound c).After-quotient-q in rw (read c.quotient-q.result (small q)) (small q)

pub returns : goal.returns
returns c =
    let a = c.args in
    let q = (goal.at.returns c).After-quotient-q in
    rw (tail_back a.c a.row.now c.subtract.new.row (omega (arith, inside c.requires.pivot)))
    (step_parts a.way a.c a.pivot.now a.row.now c.subtract.new.row c.subtract.result _ c.requires.pivot.front c.requires.within
    (stored_other (entry a.c a.row.now) c.if-e-eq0.false)
    (read c.quotient-q.result (small q) ∙ taken q)
    (rw (tail_is a.c a.row.now, tail_is a.c a.pivot.now) at c.subtract.ensures))
