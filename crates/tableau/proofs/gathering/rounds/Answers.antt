-- `tableau::gathering::rounds` meets its contract: the loop goes on until nothing is left to choose. Assumes nothing.
use mathlib.Core.Path.{sym, ◌∙◌, ap}
use native.Mathlib.Omega.{arith}
use lib.ListN.{length}
use Rattle.whole.specs.BitLength.{bit_length}
use Rattle.lattice.proofs.LentParts.{tail_is}
use Rattle.tableau.specs.Choices.{choice_of}
use Rattle.tableau.proofs.Choosing.{chosen_size}
use Rattle.tableau.proofs.Walking.{refused}
use Rattle.tableau.proofs.Turns.{turned, turned_over, turned_digit, turned_room, turned_done, turned_last, turned_low, turned_on, turned_smaller}
use Rattle.tableau.proofs.gathering.rounds.Goals as goal

pub loop-count-init : goal.loop-count-init
loop-count-init c =
    turned c.requires.tail c.requires.picked
    (omega (arith, c.bit_length-most.ensures, ap bit_length (chosen_size c.requires.picked c.requires.chooses)))

pub round-requires : goal.round-requires
round-requires c = rw c.loop-count.auto.pivot record { tail = c.loop-count.invariant.tail; picked = c.loop-count.invariant.picked }

pub shape_of-t-in_err-round : goal.shape_of-t-in_err-round
shape_of-t-in_err-round c = c.round.auto.t ∙ c.loop-count.invariant.same

pub returns-in_err-round-clause-gathers : goal.returns-in_err-round-clause-gathers
returns-in_err-round-clause-gathers c =
    refused _ c.from_residual.result c.from_residual.ensures.0
    (turned_over c.loop-count.invariant (rw c.loop-count.auto.pivot at c.in_err-round.ensures))

pub overflow_add-count : goal.overflow_add-count
overflow_add-count c = omega (arith, turned_digit c.loop-count.invariant)

pub shape_of-t-then-count-most : goal.shape_of-t-then-count-most
shape_of-t-then-count-most c = c.round.auto.t ∙ c.loop-count.invariant.same

pub returns-then-count-most : goal.returns-then-count-most
returns-then-count-most c =
    let v = c.loop-count.invariant in
    let o = rw c.loop-count.auto.pivot at c.in_ok-round.ensures in
    let d = turned_done v o c.round.auto.t (turned_last v o c.round.auto.t c.if-count-most.true) in
    record { gathers = d.0; rounds_value = d.1 }

pub choose-requires : goal.choose-requires
choose-requires c =
    let o = rw c.loop-count.auto.pivot at c.in_ok-round.ensures in
    (ap length (tail_is (length c.args.pivot.now) c.round.new.t) ∙ turned_room c.loop-count.invariant o c.round.auto.t, c.requires.tail.column)

pub shape_of-t-in_default : goal.shape_of-t-in_default
shape_of-t-in_default c = c.round.auto.t ∙ c.loop-count.invariant.same

pub returns-in_default : goal.returns-in_default
returns-in_default c =
    let v = c.loop-count.invariant in
    let o = rw c.loop-count.auto.pivot at c.in_ok-round.ensures in
    let e = rw (tail_is (length c.args.pivot.now) c.round.new.t) at c.choose.ensures in
    let d = turned_done v o c.round.auto.t (sym e.is ∙ ap choice_of c.in_default.is) in
    record { gathers = d.0; rounds_value = d.1 }

pub overflow_add-j : goal.overflow_add-j
overflow_add-j c =
    let v = c.loop-count.invariant in
    let o = rw c.loop-count.auto.pivot at c.in_ok-round.ensures in
    let e = rw (tail_is (length c.args.pivot.now) c.round.new.t) at c.in-Some.ensures in
    omega (arith, turned_low v o c.round.auto.t e.is)

pub loop-count-smaller : goal.loop-count-smaller
loop-count-smaller c =
    let v = c.loop-count.invariant in
    let o = rw c.loop-count.auto.pivot at c.in_ok-round.ensures in
    let e = rw (tail_is (length c.args.pivot.now) c.round.new.t) at c.in-Some.ensures in
    turned_smaller v o c.round.auto.t e.is

pub loop-count-preserved : goal.loop-count-preserved
loop-count-preserved c =
    let v = c.loop-count.invariant in
    let o = rw c.loop-count.auto.pivot at c.in_ok-round.ensures in
    let e = rw (tail_is (length c.args.pivot.now) c.round.new.t) at c.in-Some.ensures in
    turned_on v o c.round.auto.t e.is
