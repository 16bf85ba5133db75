-- `engine::standing::stands` meets its contract. The invariant: the rows passed are kept. Assumes nothing.
use Rattle.std.proofs.Common.{arith, ◌≡◌, sym, ◌∙◌, ap, ap₂, Bool, true, ◌&&◌}
use Rattle.whole.specs.Tests.{every}
use Rattle.whole.proofs.Tests.{passed, failed}
use Rattle.whole.proofs.Counted.{starts, goes_on, ends, fails}
use Rattle.std.proofs.Common.{List, ℤ, ℕ, ◌+◌, ◌-◌, ◌*◌, ◌<◌, ◌-ℤ◌, take, drop, length, subst, to_z, of_z, w64}
use Rattle.whole.specs.Lists.{entry}
use Rattle.whole.specs.Tests.{is_zero}
use Rattle.lattice.specs.Sums.{dot}
use Rattle.problem.specs.Limits.{M}
use Rattle.problem.specs.Checks.{all_span}
use Rattle.problem.specs.declared.Problem.{Problem}
use Rattle.problem.proofs.CheckLaws.{all_small}
use Rattle.engine.specs.Standing.{keeps_row, Standable, Summable}
use Rattle.engine.proofs.Dots.{all_within, small_back, RowStandable, row_summable}
use Rattle.engine.proofs.standing.stands.Goals as goal

pub returns-then-not-all_span : goal.returns-then-not-all_span
returns-then-not-all_span c =
    sym (ap (λ (t : Bool). t && every c.args.p.rows
    (keeps_row c.args.p.columns c.args.lists.coefficients.now c.args.lists.rights.now c.args.values.now))
    (sym (all_within c.args.values.now) ∙ failed c.all_span.ensures c.if-not-all_span.true))

pub loop-i-init : goal.loop-i-init
loop-i-init c = (starts _ _, passed c.all_span.ensures c.if-not-all_span.false)

-- what the test of row i says, where the machine's part of the coefficients is that row
module _ (p : Problem) (a b v : List ℤ) (i : ℕ) where
  abbrev n : ℕ
  n = p.columns

  row_is : Standable p a b v → is_zero (dot (take (i * n + n - i * n) (drop (i * n) a)) v -ℤ to_z w64 (of_z w64 (entry i b))) ≡ keeps_row n a b v i
  row_is q =
      let e : i * n + n - i * n ≡ n = omega arith in
      ap₂ (λ (k : ℕ) (z : ℤ). is_zero (dot (take k (drop (i * n) a)) v -ℤ z)) e (small_back (entry i b) (omega (arith, q.rights_small i)))

  row_standable : Standable p a b v → i < p.rows → all_span M v ≡ true → RowStandable a b v i
  row_standable q l w = record {
    few_columns = rw q.values_long q.few_columns;
    few_rows = rw q.rights_long q.few_rows;
    coefficients_long = rw (q.rights_long, q.values_long) q.coefficients_long;
    row = omega (arith, q.rights_long);
    coefficients_small = q.coefficients_small;
    rights_small = q.rights_small;
    values_small = all_small M v w;
  }

pub keeps_row-requires : goal.keeps_row-requires
keeps_row-requires c =
    let n : ℕ = c.args.p.columns in
    let i : ℕ = c.loop-i.i in
    let v : List ℤ = c.args.values.now in
    let a : List ℤ = c.args.lists.coefficients.now in
    let k : length v ≡ n = c.requires.values_long in
    let e : i * n + n - i * n ≡ n = omega arith in
    subst (λ (m : ℕ). Summable (take (i * n + n - i * n) (drop (i * m) a)) v) k
    (row_summable (row_standable c.args.p a c.args.lists.rights.now v i c.requires c.loop-i-test.true c.loop-i.invariant.1)
    (i * n + n - i * n) (e ∙ sym k))

pub returns-then-not-keeps_row : goal.returns-then-not-keeps_row
returns-then-not-keeps_row c =
    let r = row_is c.args.p c.args.lists.coefficients.now c.args.lists.rights.now c.args.values.now c.loop-i.i c.requires in
    sym (ap₂ ◌&&◌ (sym (all_within c.args.values.now) ∙ c.loop-i.invariant.1)
    (fails c.loop-i.invariant.0 c.loop-i-test.true (sym r ∙ sym c.keeps_row.ensures ∙ c.if-not-keeps_row.true)))

pub loop-i-preserved : goal.loop-i-preserved
loop-i-preserved c =
    let r = row_is c.args.p c.args.lists.coefficients.now c.args.lists.rights.now c.args.values.now c.loop-i.i c.requires in
    (goes_on c.loop-i.invariant.0 c.loop-i-test.true (sym r ∙ sym c.keeps_row.ensures ∙ c.if-not-keeps_row.false), c.loop-i.invariant.1)

pub returns : goal.returns
returns c =
    sym (ap₂ ◌&&◌ (sym (all_within c.args.values.now) ∙ c.loop-i.invariant.1) (ends c.loop-i.invariant.0 c.loop-i-test.false))
