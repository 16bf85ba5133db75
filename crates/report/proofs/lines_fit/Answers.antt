-- `report::lines_fit` meets its contract: a line of its own has room for each, and each takes what it needs of the room. Assumes nothing.
use Rattle.std.proofs.Common.{◌≡◌, ◌+◌, ◌<◌, ◌^◌, ℤ, nat_abs, pos, length, get_or, arith, rules, sym, ap, to_z, of_z, w64}
use borrow.Author.Tests.{le-leb, lt-leb}
use Rattle.report.specs.Listing.{lines_from}
use Rattle.report.proofs.Laws.{abs_fits, length_line, length_more, lines_end}
use Rattle.report.proofs.lines_fit.Goals as goal

pub put_line-k-requires : goal.put_line-k-requires
put_line-k-requires c =
    let x = c.args in
    let v : ℤ = get_or x.values.now c.loop-i.i (pos 0) in
    let b : to_z w64 (of_z w64 v) ≡ v = search rules in
    let a : nat_abs v < 2 ^ 64 = abs_fits v (search rules) in
    let i : c.loop-i.i + 1 < 2 ^ 64 = search rules in
    let s : get_or x.strides.now c.loop-i.i 0 < 2 ^ 64 = search rules in
    rw b (omega (arith, length_line (c.loop-i.i + 1) v (get_or x.strides.now c.loop-i.i 0) i a s))

pub returns-then-left-k : goal.returns-then-left-k
returns-then-left-k c =
    let x = c.args in
    let v : ℤ = get_or x.values.now c.loop-i.i (pos 0) in
    let b : to_z w64 (of_z w64 v) ≡ v = search rules in
    let k = rw b at c.put_line-k.ensures in
    let m = length_more x.values.now x.strides.now c.loop-i.i c.requires (omega arith) in
    sym (lt-leb (length (lines_from 0 x.values.now x.strides.now)) x.room (omega (arith, c.loop-i.invariant, k.next)))

pub loop-i-preserved : goal.loop-i-preserved
loop-i-preserved c =
    let x = c.args in
    let v : ℤ = get_or x.values.now c.loop-i.i (pos 0) in
    let b : to_z w64 (of_z w64 v) ≡ v = search rules in
    let k = rw b at c.put_line-k.ensures in
    let m = length_more x.values.now x.strides.now c.loop-i.i c.requires (omega arith) in
    omega (arith, c.loop-i.invariant, k.next)

pub returns : goal.returns
returns c =
    let x = c.args in
    let m = ap length (lines_end x.values.now x.strides.now c.loop-i.i (omega arith)) in
    sym (le-leb (length (lines_from 0 x.values.now x.strides.now)) x.room (omega (arith, c.loop-i.invariant)))
