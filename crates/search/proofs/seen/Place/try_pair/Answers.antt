-- `search::seen::Place::try_pair` meets its contract: a pair improves at most the places from the first one on that it changes. Assumes nothing.
use mathlib.Core.Path.{◌≡◌, sym, ◌∙◌}
use Prim.Native.Nat.{◌≤◌}
use native.Mathlib.Omega.{arith}
use lib.ListN.{length, get_or}
use Rattle.search.specs.Numbers.{number_at}
use Rattle.search.specs.Searches.{better}
use Rattle.search.proofs.Dominance.{still_dominated, none_dominated, blocked_dominated}
use Rattle.search.proofs.Pairing.{no_worse_same, better_is, paired_of, paired_still, paired_improving}
use Rattle.search.proofs.seen.Place.try_pair.Goals.{After-pair_fits}
use Rattle.search.proofs.seen.Place.try_pair.Goals as goal

pub number_at-requires : goal.number_at-requires
number_at-requires c =
    let h = c.args.self.now in
    let o = paired_of c.requires.0 in
    let r = h.search.now.ready in
    (omega (arith, h.search.now.ranked.few, h.here.inside), omega (arith, o.s, r.few_vectors), omega (arith, o.t, r.few_vectors))

pub returns-then-z-number_at : goal.returns-then-z-number_at
returns-then-z-number_at c =
    let h = c.args.self.now in (
      no_worse_same c.requires.2,
      still_dominated h.search.now c.args.o h.at c.args.z (paired_still c.requires.0) (omega (arith, c.number_at.ensures, c.if-z-number_at.true)),
    )

pub first_changed-requires : goal.first_changed-requires
first_changed-requires c = (paired_of c.requires.0, paired_still c.requires.0)

pub returns-in_default : goal.returns-in_default
returns-in_default c =
    let S = c.args.self.now.search.now in
    let n : length S.order.now ≤ length S.order.now = omega arith in
    (no_worse_same c.requires.2, none_dominated S c.args.o (length S.order.now) c.args.z c.in_default.ensures n)

pub number_at-number-requires : goal.number_at-number-requires
number_at-number-requires c =
    let S = c.args.self.now.search.now in
    let o = paired_of c.requires.0 in
    (omega (arith, S.ranked.few, c.in-Some.ensures.0), omega (arith, o.s, S.ready.few_vectors), omega (arith, o.t, S.ready.few_vectors))

pub returns-then-z-number : goal.returns-then-z-number
returns-then-z-number c = (
  no_worse_same c.requires.2,
  still_dominated c.args.self.now.search.now c.args.o c.in-Some.k c.args.z c.in-Some.ensures.1
      (omega (arith, c.number_at-number.ensures, c.if-z-number.true)),
)

pub pair_fits-requires : goal.pair_fits-requires
pair_fits-requires c = (paired_of c.requires.0, c.args.self.now.search.now.ranked.below c.in-Some.k c.in-Some.ensures.0, c.requires.1)

-- the test of all columns says whether it improves the first one that it changes
tried : (c : After-pair_fits) →
    let S = c.args.self.now.search.now in
    better S c.args.o (get_or S.order.now c.in-Some.k 0) ≡ c.pair_fits.result
tried c =
    let S = c.args.self.now.search.now in
    better_is S c.args.o (get_or S.order.now c.in-Some.k 0) c.in-Some.ensures.2 ∙ sym c.pair_fits.ensures

pub returns-then-pair_fits : goal.returns-then-pair_fits
returns-then-pair_fits c =
    let S = c.args.self.now.search.now in
    let f = c.in-Some.ensures in
    let n = c.number_at-number in
    rw n.ensures (
      record {
        less = omega (arith, n.ensures, c.if-z-number.false);
        incumbent = paired_improving c.requires.0 c.in-Some.k f.0 (tried (goal.at.returns-then-pair_fits c).After-pair_fits ∙ c.if-pair_fits.true);
      },
      still_dominated S c.args.o c.in-Some.k (number_at c.in-Some.k c.args.o) f.1 (omega arith),
    )

pub returns : goal.returns
returns c =
    let f = c.in-Some.ensures in (
      no_worse_same c.requires.2,
      blocked_dominated c.args.self.now.search.now c.args.o c.in-Some.k c.args.z f.0 f.1 f.2
          (tried (goal.at.returns c).After-pair_fits ∙ c.if-pair_fits.false),
    )
