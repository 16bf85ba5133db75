-- `tableau::gathering::choose` meets its contract: from the first row on, the choice is that among the rows passed. Assumes nothing.
use mathlib.Core.Path.{◌≡◌, ◌∙◌, ap, subst}
use Prim.Native.Nat.{ℕ, ◌+◌, ◌*◌, ◌<◌, ◌≤◌}
use native.Mathlib.Nat.{zero-mul, suc-mul}
use native.Mathlib.Numerals.{add-one}
use native.Mathlib.Omega.{arith}
use lib.IntN.{nat_abs}
use lib.ListN.{length}
use mir.Syntax.{w64}
use mir.Facts.{to_z-of_z}
use Rattle.std.specs.Int.RustNames.{FitsSigned}
use Rattle.std.proofs.Common.{rules}
use Rattle.whole.specs.Lists.{entry}
use Rattle.lattice.specs.Rows.{chop}
use Rattle.lattice.proofs.FlatLaws.{in_table, row_in_table, length_chop}
use Rattle.tableau.specs.Choices.{Chooses}
use Rattle.tableau.proofs.Choosing.{few, no_rows, next_row}
use Rattle.tableau.proofs.gathering.choose.Goals.{In-loop-i}
use Rattle.tableau.proofs.gathering.choose.Goals as goal

pub loop-i-init : goal.loop-i-init
loop-i-init c = record { place = rw zero-mul (omega arith); chooses = no_rows c.args.c c.args.w c.args.t.now }

-- the number that comes next lies in the table
inside : (c : In-loop-i) → c.loop-i.at < length c.args.t.now
inside c =
    let a = c.args in
    omega (arith, in_table a.rows a.w a.c c.loop-i.i c.requires.1 c.loop-i-test.true, c.requires.0, c.loop-i.invariant.place)

pub offset_bounds-t-at : goal.offset_bounds-t-at
offset_bounds-t-at c = omega (arith, inside c)

pub bounds-t-at : goal.bounds-t-at
bounds-t-at c = omega (arith, inside c)

pub later-z-requires : goal.later-z-requires
later-z-requires c =
    let a = c.args in
    let i = c.loop-i.i in
    omega (arith, c.loop-i.invariant.chooses.count, few a.c (chop i a.w a.t.now), length_chop i a.w a.t.now, c.loop-i-test.true, c.ranges.rows.fits)

pub overflow_add-at : goal.overflow_add-at
overflow_add-at c =
    let a = c.args in
    let i = c.loop-i.i in
    let l : i * a.w + a.w ≤ a.rows * a.w = row_in_table a.rows a.w i c.loop-i-test.true in
    omega (arith, l, c.requires.0, c.requires.1, c.loop-i.invariant.place)

pub loop-i-preserved : goal.loop-i-preserved
loop-i-preserved c =
    let a = c.args in
    let i = c.loop-i.i in
    let v = c.loop-i.invariant in
    let f : FitsSigned w64 (entry c.loop-i.at a.t.now) = search rules in
    let e : c.unsigned_abs.result ≡ nat_abs (entry (i * a.w + a.c) a.t.now) =
    c.unsigned_abs.ensures.value ∙ ap nat_abs (to_z-of_z f) ∙ ap (λ (n : ℕ). nat_abs (entry n a.t.now)) v.place in
    let y = c.later-z.ensures in
    record {
      place = rw (add-one) (omega (arith, suc-mul i a.w, v.place));
      chooses = next_row a.c a.w i a.t.now c.unsigned_abs.result c.requires.1 v.chooses e (y.result_value, y.count_value);
    }

pub returns : goal.returns
returns c =
    let e : c.loop-i.i ≡ c.args.rows = omega arith in
    subst (λ (n : ℕ). Chooses c.args.c (chop n c.args.w c.args.t.now) c.loop-i.z) e c.loop-i.invariant.chooses
