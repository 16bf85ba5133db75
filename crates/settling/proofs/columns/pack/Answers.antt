-- `settling::columns::pack` meets its contract: each turn stores a column of the lists. Assumes nothing.
use mathlib.Core.Path.{◌≡◌, ◌∙◌}
use borrow.Author.Rules.{rules}
use native.Mathlib.Omega.{arith}
use lib.ListN.{length, length-set}
use mir.Syntax.{w64}
use mir.Val.{to_z, of_z}
use Rattle.whole.specs.Lists.{entry}
use Rattle.settling.specs.Columns.{listed}
use Rattle.settling.proofs.Packing.{packed_more, packed_all}
use Rattle.settling.proofs.columns.pack.Goals as goal

pub loop-j-preserved : goal.loop-j-preserved
loop-j-preserved c =
    let l = c.args.lists in
    let j = c.loop-j.j in
    let lower : to_z w64 (of_z w64 (entry j l.lower.now)) ≡ entry j l.lower.now = search rules in
    let upper : to_z w64 (of_z w64 (entry j l.upper.now)) ≡ entry j l.upper.now = search rules in
    let low : to_z w64 (of_z w64 (entry j l.low.now)) ≡ entry j l.low.now = search rules in
    let high : to_z w64 (of_z w64 (entry j l.high.now)) ≡ entry j l.high.now = search rules in
    let given : to_z w64 (of_z w64 (entry j l.given.now)) ≡ entry j l.given.now = search rules in
    let ideals : to_z w64 (of_z w64 (entry j l.ideals.now)) ≡ entry j l.ideals.now = search rules in (
      length-set _ _ _ ∙ c.loop-j.invariant.0,
      packed_more (listed (length l.lower.now) l.lower.now l.upper.now l.low.now l.high.now l.given.now l.ideals.now).column _ _ _ (omega arith)
          (cc (c.column_wish.ensures, c.wish_of.ensures)) c.loop-j.invariant.1,
    )

pub returns : goal.returns
returns c =
    let l = c.args.lists in
    packed_all (listed (length l.lower.now) l.lower.now l.upper.now l.low.now l.high.now l.given.now l.ideals.now).column (length l.lower.now)
    c.loop-j.columns (omega (arith, c.loop-j.invariant.0, c.requires.room)) (λ x m. c.loop-j.invariant.1 x (omega (arith, c.requires.room)))
