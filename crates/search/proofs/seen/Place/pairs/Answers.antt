-- `search::seen::Place::pairs` meets its contract: the vectors seen here whose pairs are to be tried are those of the iterator. Assumes nothing.
use mathlib.Core.Path.{◌≡◌, sym, ◌∙◌, ap, subst}
use mathlib.Core.Logic.{inl, inr}
use mathlib.Core.Bool.{Bool, not, ◌&&◌}
use Prim.Native.Nat.{ℕ, ◌<◌}
use lib.Dec.{eqb}
use Rattle.search.specs.declared.seen.Sign.TheVariants.{Plus, Minus}
use Rattle.search.specs.Sets.{has}
use Rattle.search.proofs.Placing.{Pairing, pairing_start, pairing_end, pairing_early}
use Rattle.search.proofs.Placing.{pairing_first, pairing_left, pairing_only, pairing_led, pairing_others, pairing_on}
use Rattle.search.proofs.Setting.{has_some}
use Rattle.search.proofs.seen.Place.pairs.Goals.{After-first, After-without-left}
use Rattle.search.proofs.seen.Place.pairs.Goals as goal

-- the first of the vectors that are left
lowest : (c : After-first) → c.first.result < c.args.self.now.search.now.basis.vectors
lowest c =
    let p = c.requires in
    p.0.unseen.inside c.first.result (pairing_left p.1 p.0 c.loop-s.invariant.2 c.first.result c.first.ensures.0)

-- the set without the vector that is met
apart : (c : After-without-left) (t : ℕ) → has c.without-left.result t ≡ has c.loop-s.left t && not (eqb t c.in-Some.s)
apart c t = c.without-left.ensures t ∙ ap (λ (e : Bool). has c.loop-s.left t && not e) (c.only.ensures t)

pub loop-s-init : goal.loop-s-init
loop-s-init c =
    let a = c.args in (
      tt,
      tt,
      subst (Pairing a.self.now a.unseen a.fresh a.z a.z a.unseen) (sym c.into_iter-s-iterator.ensures.into_iter_gives)
          (pairing_start a.self.now a.unseen a.fresh a.z c.requires.0),
    )

pub first-requires : goal.first-requires
first-requires c =
    let p = c.requires in
    has_some c.loop-s.left c.in-Some.s (pairing_first p.1 p.0 c.loop-s.invariant.2 c.in-Some.ensures.steps)

pub returns-then-best-self : goal.returns-then-best-self
returns-then-best-self c =
    let p = c.requires in
    inl (pairing_early p.1 p.0 c.loop-s.invariant.2 c.first.result c.first.ensures.0 c.first.ensures.1 p.2 c.if-best-self.true)

pub without-left-requires : goal.without-left-requires
without-left-requires c =
    let p = c.requires in
    pairing_only p.1 p.0 c.loop-s.invariant.2 c.in-Some.ensures.steps c.only.result c.only.ensures

pub pairs_of-best-requires : goal.pairs_of-best-requires
pairs_of-best-requires c =
    let p = c.requires in
    let i = c.loop-s.invariant.2 in
    let t = c.in-Some.ensures.steps in (
      pairing_led p.1 p.0 i t p.2 Plus,
      pairing_others p.1 p.0 i t (apart c),
      i.no_worse.incumbent,
    )

pub pairs_of-best-requires-in-loop-s : goal.pairs_of-best-requires-in-loop-s
pairs_of-best-requires-in-loop-s c =
    let p = c.requires in
    let i = c.loop-s.invariant.2 in
    let t = c.in-Some.ensures.steps in (
      pairing_led p.1 p.0 i t p.2 Minus,
      pairing_others p.1 p.0 i t (apart (goal.at.pairs_of-best-requires-in-loop-s c).After-without-left),
      c.pairs_of-best.ensures.0.incumbent,
    )

pub loop-s-preserved : goal.loop-s-preserved
loop-s-preserved c =
    let p = c.requires in
    let one = c.pairs_of-best.ensures in
    let two = c.pairs_of-best-in-loop-s.ensures in (
      tt,
      tt,
      pairing_on p.1 p.0 c.loop-s.invariant.2 c.in-Some.ensures.steps (apart (goal.at.loop-s-preserved c).After-without-left) p.2
          one.0 two.0 one.1 two.1,
    )

pub returns : goal.returns
returns c = inr (pairing_end c.requires.1 c.requires.0 c.loop-s.invariant.2 c.in-None.ensures.steps)
