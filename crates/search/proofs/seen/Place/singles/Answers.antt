-- `search::seen::Place::singles` meets its contract: the vectors that are left are those of the iterator. Assumes nothing.
use mathlib.Core.Path.{sym, ◌∙◌, ap, subst}
use mathlib.Core.List.{List}
use native.Mathlib.Omega.{arith}
use Rattle.search.specs.declared.seen.Note.{Note}
use Rattle.search.specs.declared.seen.Sign.TheVariants.{Plus, Minus}
use Rattle.search.specs.Numbers.{number_at}
use Rattle.search.specs.Progress.{Found}
use Rattle.search.proofs.Alone.{here_column}
use Rattle.search.proofs.Setting.{walk_first}
use Rattle.search.proofs.Singles.{Singling, singling_starts, singling_more, singling_ends, singling_found, single_failed}
use Rattle.search.proofs.Singles.{plus_noted, both_stored, plus_minus, single_in, single_few, single_numbered}
use Rattle.search.proofs.seen.Place.singles.Goals as goal

pub loop-s-init : goal.loop-s-init
loop-s-init c =
    let h = c.args.self.now in
    let l = c.args.notes.now in
    (tt, tt, subst (Singling h c.args.fresh l) (sym c.into_iter-s-iterator.ensures.into_iter_gives) (singling_starts h c.args.fresh l c.requires.0))

pub bounds-notes-s : goal.bounds-notes-s
bounds-notes-s c =
    omega (arith, single_few c.args.self.now c.requires.1 c.loop-s.invariant.2 c.in-Some.ensures.steps, c.loop-s.invariant.2.noted.long)

pub blocking_column-requires : goal.blocking_column-requires
blocking_column-requires c =
    let h = c.args.self.now in
    let i = c.loop-s.invariant.2 in
    (single_in h c.requires.1 i c.in-Some.ensures.steps, i.noted.each (omega (arith, here_column h)) c.in-Some.s Plus)

pub number_at-requires : goal.number_at-requires
number_at-requires c =
    single_numbered c.args.self.now c.requires.1 c.loop-s.invariant.2 c.in-Some.ensures.steps Plus c.alone.result c.alone.ensures

pub returns-in_default : goal.returns-in_default
returns-in_default c =
    let h = c.args.self.now in
    let i = c.loop-s.invariant.2 in
    let e = c.number_at.ensures ∙ ap (number_at h.at) c.alone.ensures in
    record {
      noted = i.noted;
      best =
          subst (Found h c.args.fresh) (sym e)
          (singling_found h c.requires.1 c.requires.2 Plus i c.in-Some.ensures.steps (λ x. absurd (plus_minus x)) c.in_default.ensures);
    }

pub bounds-notes-s-in-loop-s : goal.bounds-notes-s-in-loop-s
bounds-notes-s-in-loop-s c =
    omega (arith, single_few c.args.self.now c.requires.1 c.loop-s.invariant.2 c.in-Some.ensures.steps, c.loop-s.invariant.2.noted.long)

pub blocking_column-requires-in-loop-s : goal.blocking_column-requires-in-loop-s
blocking_column-requires-in-loop-s c =
    let h = c.args.self.now in
    let i = c.loop-s.invariant.2 in
    let t = c.in-Some.ensures.steps in
    let f = c.in-Some-blocking_column in
    let n = plus_noted _ c.loop-s.notes c.in-Some.s f.f (single_few h c.requires.1 i t) f.ensures.0 i.noted in
    (single_in h c.requires.1 i t, n.each (omega (arith, here_column h)) c.in-Some.s Minus)

pub number_at-requires-in_default-blocking_column : goal.number_at-requires-in_default-blocking_column
number_at-requires-in_default-blocking_column c =
    let a = c.alone-in_default-blocking_column in
    single_numbered c.args.self.now c.requires.1 c.loop-s.invariant.2 c.in-Some.ensures.steps Minus a.result a.ensures

pub returns-in_default-blocking_column : goal.returns-in_default-blocking_column
returns-in_default-blocking_column c =
    let h = c.args.self.now in
    let i = c.loop-s.invariant.2 in
    let t = c.in-Some.ensures.steps in
    let f = c.in-Some-blocking_column in
    let e = c.number_at-in_default-blocking_column.ensures ∙ ap (number_at h.at) c.alone-in_default-blocking_column.ensures in
    record {
      noted = plus_noted _ c.loop-s.notes c.in-Some.s f.f (single_few h c.requires.1 i t) f.ensures.0 i.noted;
      best =
          subst (Found h c.args.fresh) (sym e)
          (singling_found h c.requires.1 c.requires.2 Minus i t
          (λ x r. single_failed h c.requires.1 c.in-Some.s Plus f.f r (walk_first i.walk t) f.ensures.0 f.ensures.1)
          c.in_default-blocking_column.ensures);
    }

pub bounds-notes-s-in-loop-s-2 : goal.bounds-notes-s-in-loop-s-2
bounds-notes-s-in-loop-s-2 c =
    let h = c.args.self.now in
    let i = c.loop-s.invariant.2 in
    let few = single_few h c.requires.1 i c.in-Some.ensures.steps in
    let f = c.in-Some-blocking_column in
    omega (arith, few, (plus_noted _ c.loop-s.notes c.in-Some.s f.f few f.ensures.0 i.noted).long)

pub loop-s-preserved : goal.loop-s-preserved
loop-s-preserved c =
    let h = c.args.self.now in
    let i = c.loop-s.invariant.2 in
    let t = c.in-Some.ensures.steps in
    let f = c.in-Some-blocking_column in
    let g = c.in-Some-blocking_column-2 in (
      tt,
      tt,
      subst (λ (l : List Note). Singling h c.args.fresh l c.next.new.self)
          (sym (both_stored _ c.loop-s.notes c.in-Some.s f.f (single_few h c.requires.1 i t) f.ensures.0 i.noted g.g))
          (singling_more h f.f g.g i t (single_few h c.requires.1 i t) f.ensures.0 f.ensures.1 g.ensures.0 g.ensures.1),
    )

pub returns : goal.returns
returns c =
    let i = c.loop-s.invariant.2 in
    record { noted = i.noted; best = singling_ends c.args.self.now c.requires.1 c.in-None.ensures.steps i }
