-- `rightside::right_side` meets its contract: the rows are parted behind the leading ones, and its tests are the definition's, in their order.
-- Assumes nothing.
use mathlib.Core.Path.{◌≡◌, sym, ◌∙◌, ap, ap₂, subst}
use mathlib.Core.Bool.{false}
use mathlib.Core.List.{List}
use Prim.Native.Nat.{ℕ, ◌*◌, ◌-◌}
use native.Mathlib.Omega.{arith}
use lib.IntN.{ℤ}
use lib.ListN.{length, take, drop}
use Rattle.std.proofs.Common.{rules, tests}
use Rattle.std.proofs.lemmas.Iterator.{YieldsList-from_slice}
use Rattle.std.proofs.lemmas.Iterator.Search.{all_from_yields_List}
use Rattle.whole.specs.Lists.{zeros}
use Rattle.lattice.specs.Rows.{all_zero, chop}
use Rattle.tableau.specs.Elimination.{Left}
use Rattle.tableau.specs.RightSide.{sweep, leading, remaining}
use Rattle.tableau.specs.Within.{Within}
use Rattle.tableau.proofs.Told.{told_ok, told_err}
use Rattle.tableau.proofs.Within.{within_take}
use Rattle.rightside.specs.Sweeps.{Sweepable, swept_of}
use Rattle.rightside.proofs.Answers.{righted_over, righted_none, righted_late, righted_found, told, handed}
use Rattle.rightside.proofs.Parting.{few, inside, first, second, first_sweepable, second_sweepable}
use Rattle.rightside.proofs.Sweeping.{over_left, kept_left, sweep_within}
use Rattle.rightside.proofs.Zeros.{stored_zero, all_zero_is}
use Rattle.rightside.proofs.right_side.Goals.{After-leading_rows-h, After-all-whole, In_ok-sweep, Start}
use Rattle.rightside.proofs.right_side.Goals as goal

form_of : (s : Start) → Sweepable (length s.args.v.now) s.args.rows s.args.t.now
form_of s = record { long = s.requires.t_len.0; leads = s.requires.t_len.1; rises = s.requires.rising; small = s.requires.within.0 }

-- the leading rows taken from v
abbrev early : Start → Left
early s = sweep (leading s.args.m (chop s.args.rows (length s.args.v.now) s.args.t.now)) s.args.v.now

-- and the others taken from what these leave
abbrev late : Start → Left
late s = sweep (remaining s.args.m (chop s.args.rows (length s.args.v.now) s.args.t.now)) (early s).row

first_is : (c : After-leading_rows-h) → {l : List ℤ} → l ≡ take (c.leading_rows-h.result * length c.args.v.now) c.args.t.now
    → swept_of c.leading_rows-h.result l c.args.v.now ≡ early (goal.at.After-leading_rows-h c).Start
first_is c {l} e =
    let s = (goal.at.After-leading_rows-h c).Start in
    let v = c.args.v.now in
    ap (λ (x : List ℤ). sweep (chop c.leading_rows-h.result (length v) x) v) e
    ∙ ap (λ (T : List (List ℤ)). sweep T v) (first c.args.m (form_of s) c.leading_rows-h.ensures)

pub overflow_mul-h : goal.overflow_mul-h
overflow_mul-h c = omega (arith, inside c.args.m (form_of (goal.at.overflow_mul-h c).Start) c.leading_rows-h.ensures)

pub split_at-requires : goal.split_at-requires
split_at-requires c = inside c.args.m (form_of (goal.at.split_at-requires c).Start) c.leading_rows-h.ensures

pub sweep-requires : goal.sweep-requires
sweep-requires c =
    rw c.split_at.ensures.front
    (first_sweepable c.args.m (form_of (goal.at.sweep-requires c).Start) c.leading_rows-h.ensures, c.requires.within.1)

pub returns-in_err-sweep : goal.returns-in_err-sweep
returns-in_err-sweep c =
    let s = (goal.at.returns-in_err-sweep c).Start in
    let a = c.args in
    let e = rw (first_is (goal.at.returns-in_err-sweep c).After-leading_rows-h c.split_at.ensures.front) at c.in_err-sweep.ensures in
    let o = told_err (early s).over tt e.value in
    ap (λ r. told r c.sweep.new.v) (handed c.from_residual.result c.from_residual.ensures.1)
    ∙ righted_over a.m (chop a.rows (length a.v.now) a.t.now) a.v.now o (e.v_after ∙ over_left (early s) a.v.now o)

-- after the leading rows
module _ (c : In_ok-sweep) where
  abbrev s_of : Start
  s_of = (goal.at.In_ok-sweep c).Start

  taken : ((early s_of).over ≡ false) × (c.sweep.new.v ≡ (early s_of).row)
  taken =
      let e = rw (first_is (goal.at.In_ok-sweep c).After-leading_rows-h c.split_at.ensures.front) at c.in_ok-sweep.ensures in
      let o = (told_ok (early s_of).over e.value).0 in
      (o, e.v_after ∙ kept_left (early s_of) c.args.v.now o)

  small : Within c.sweep.new.v
  small =
      let a = c.args in
      subst Within (sym taken.1)
      (sweep_within (leading a.m (chop a.rows (length a.v.now) a.t.now)) a.v.now c.requires.within.1 taken.0)

  second_is : {l : List ℤ} → l ≡ drop (c.leading_rows-h.result * length c.args.v.now) c.args.t.now
      → swept_of (c.args.rows - c.leading_rows-h.result) l c.sweep.new.v ≡ late s_of
  second_is {l} e =
      let a = c.args in
      let h = c.leading_rows-h.result in
      let u = c.sweep.new.v in
      ap₂ (λ (n : ℕ) (x : List ℤ). sweep (chop (a.rows - h) n x) u) c.sweep.auto.v e
      ∙ ap₂ (λ (T : List (List ℤ)) (x : List ℤ). sweep T x) (second a.m (form_of s_of) c.leading_rows-h.ensures) taken.1

tested : (c : After-all-whole) → c.all-whole.result ≡ all_zero (take c.args.m (early (goal.at.After-all-whole c).Start).row)
tested c =
    let w = (goal.at.After-all-whole c).In_ok-sweep in
    let l : List ℤ = take c.args.m c.sweep.new.v in
    let e : c.all-whole.result ≡ all_zero l =
    all_from_yields_List stored_zero _ _ c.all-whole.result c.all-whole.ensures.ran (YieldsList-from_slice l cc) (λ x b q k. search (rules, tests))
    ∙ all_zero_is l (within_take c.args.m c.sweep.new.v (small w)) in
    rw (taken w).1 at e

pub returns-then-not-whole : goal.returns-then-not-whole
returns-then-not-whole c =
    let a = c.args in
    let w = taken (goal.at.returns-then-not-whole c).In_ok-sweep in
    righted_none a.m (chop a.rows (length a.v.now) a.t.now) a.v.now w.0
    (sym (tested (goal.at.returns-then-not-whole c).After-all-whole) ∙ c.if-not-whole.true) w.1

pub overflow_sub-rows : goal.overflow_sub-rows
overflow_sub-rows c = few c.args.m (form_of (goal.at.overflow_sub-rows c).Start) c.leading_rows-h.ensures

pub sweep-requires-2 : goal.sweep-requires-2
sweep-requires-2 c =
    rw (c.split_at.ensures.back, c.sweep.auto.v)
    (second_sweepable c.args.m (form_of (goal.at.sweep-requires-2 c).Start) c.leading_rows-h.ensures, small (goal.at.sweep-requires-2 c).In_ok-sweep)

pub returns-in_err-sweep-2 : goal.returns-in_err-sweep-2
returns-in_err-sweep-2 c =
    let a = c.args in
    let k = (goal.at.returns-in_err-sweep-2 c).In_ok-sweep in
    let w = taken k in
    let e = rw (second_is k c.split_at.ensures.back) at c.in_err-sweep-2.ensures in
    let o = told_err (late (s_of k)).over tt e.value in
    ap (λ r. told r c.sweep-2.new.v) (handed c.from_residual-in_err-sweep-2.result c.from_residual-in_err-sweep-2.ensures.1)
    ∙ righted_late a.m (chop a.rows (length a.v.now) a.t.now) a.v.now w.0
    (sym (tested (goal.at.returns-in_err-sweep-2 c).After-all-whole) ∙ c.if-not-whole.false) o
    (e.v_after ∙ over_left (late (s_of k)) c.sweep.new.v o ∙ ap zeros c.sweep.auto.v)

pub returns : goal.returns
returns c =
    let a = c.args in
    let k = (goal.at.returns c).In_ok-sweep in
    let w = taken k in
    let e = rw (second_is k c.split_at.ensures.back) at c.in_ok-sweep-2.ensures in
    let o = (told_ok (late (s_of k)).over e.value).0 in
    righted_found a.m (chop a.rows (length a.v.now) a.t.now) a.v.now w.0
    (sym (tested (goal.at.returns c).After-all-whole) ∙ c.if-not-whole.false) o
    (e.v_after ∙ kept_left (late (s_of k)) c.sweep.new.v o)
