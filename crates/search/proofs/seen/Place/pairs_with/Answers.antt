-- `search::seen::Place::pairs_with` meets its contract: the vectors whose pairs are left are those of the iterator. Assumes nothing.
use mathlib.Core.Path.{◌≡◌, sym, subst}
use mathlib.Core.Bool.{true}
use mathlib.Core.Logic.{inl}
use Rattle.search.specs.declared.seen.Sign.TheVariants.{Plus, Minus}
use Rattle.search.specs.Sets.{has}
use Rattle.search.proofs.Pairing.{no_worse_same, no_worse_then}
use Rattle.search.proofs.Partners.{Other, WithDominated, other_of, paired_with, with_both, with_less}
use Rattle.search.proofs.Setting.{Walk, walk_first, walk_on, walk_end}
use Rattle.search.proofs.seen.Place.pairs_with.Goals as goal

pub loop-t-init : goal.loop-t-init
loop-t-init c =
    let a = c.args in
    let h = a.self.now in (
      tt,
      tt,
      no_worse_same c.requires.4,
      subst (Walk (Other h a.lead.s) (λ t. has a.partners t ≡ true) (WithDominated h.search.now a.lead.s a.lead.sign a.z))
          (sym c.into_iter-t-iterator.ensures.into_iter_gives) (record { inside = other_of c.requires.3; left = λ t e. inl e }),
    )

pub try_pair-best-requires : goal.try_pair-best-requires
try_pair-best-requires c =
    let l = c.args.lead in
    let p = c.requires in
    let i = c.loop-t.invariant in (
      paired_with l.s l.sign c.in-Some.t Plus c.with.result c.with.ensures p.0 p.2 (walk_first i.3 c.in-Some.ensures.steps),
      p.1,
      i.2.incumbent,
    )

pub try_pair-best-requires-in-loop-t : goal.try_pair-best-requires-in-loop-t
try_pair-best-requires-in-loop-t c =
    let l = c.args.lead in
    let p = c.requires in
    let b = c.with-in-loop-t in (
      paired_with l.s l.sign c.in-Some.t Minus b.result b.ensures p.0 p.2 (walk_first c.loop-t.invariant.3 c.in-Some.ensures.steps),
      p.1,
      c.try_pair-best.ensures.0.incumbent,
    )

pub loop-t-preserved : goal.loop-t-preserved
loop-t-preserved c =
    let l = c.args.lead in
    let i = c.loop-t.invariant in
    let p = c.try_pair-best in
    let m = c.try_pair-best-in-loop-t in
    let k = no_worse_then p.ensures.0 m.ensures.0 in (
      tt,
      tt,
      no_worse_then i.2 k,
      walk_on i.3 c.in-Some.ensures.steps (λ t. with_less l.s l.sign t c.loop-t.best m.result k)
          (λ _. with_both l.s l.sign c.in-Some.t p.result m.result c.with.result c.with-in-loop-t.result
          c.with.ensures c.with-in-loop-t.ensures p.ensures.1 m.ensures.0 m.ensures.1),
    )

pub returns : goal.returns
returns c =
    let i = c.loop-t.invariant in
    (i.2, λ t e. (walk_end i.3 c.in-None.ensures.steps t e).each)
