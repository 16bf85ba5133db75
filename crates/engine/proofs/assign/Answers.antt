-- `engine::assign` meets its contract: what the checks find decides, and then each answer of the tableau is a case of the definition.
-- Assumes nothing.
use Rattle.std.proofs.Common.{rules, arith, ◌≡◌, sym, ◌∙◌, ap, ap₂, refl, Ok, Err, ℕ, ℤ, List, false}
use Rattle.lattice.specs.Rows.{flat}
use Rattle.problem.specs.Checks.{Posed, posed, Check, first_cause}
use Rattle.problem.specs.declared.Lent.{Lent}
use Rattle.problem.specs.declared.Refusal.{Refusal}
use Rattle.problem.proofs.CheckLaws.{Passes, passes, Fits, fits}
use Rattle.settling.specs.Columns.{Columns, columns_in}
use Rattle.settling.proofs.Fronts.{part_length}
use Rattle.tableau.specs.RightSide.{Solved, some}
use Rattle.rightside.specs.Solutions.{tableau_after, start_after}
use Rattle.problem.specs.Answers.{Answer}
use Rattle.engine.specs.Assign.{Buffers, done, lent_of, columns, refused, solved, rounds_of, assign}
use Rattle.engine.specs.BasisPlace.{basis_of}
use Rattle.engine.specs.Demand.{WithinLimits}
use Rattle.engine.specs.Finish.{Finished, finished_with, finished}
use Rattle.engine.specs.Replies.{held}
use Rattle.engine.proofs.Readiness.{table_columns, packable, packs}
use Rattle.engine.proofs.Forming.{solvable, Laid, laid_parted}
use Rattle.engine.proofs.Assigning.{Solves, solves, done_with, assign_unsolved, assign_found, assign_failed, assign_passed, finishable}
use Rattle.engine.proofs.Assigning.{solved_kept, solved_form}
use Rattle.engine.proofs.assign.Goals as goal

-- what the checks have found
passed_by : (P : Posed) (B : Buffers) (m : Lent) (r : Check) → m ≡ lent_of B → r ≡ first_cause P m → r ≡ Ok tt → first_cause P (lent_of B) ≡ Ok tt
passed_by P B m r g h e = ap (first_cause P) (sym g) ∙ sym h ∙ e

fits_by : (P : Posed) (B : Buffers) (m : Lent) (r : Check) → m ≡ lent_of B → r ≡ first_cause P m → r ≡ Ok tt → Fits P (lent_of B)
fits_by P B m r g h e = fits P (lent_of B) (passes P (lent_of B) (passed_by P B m r g h e))

failed_by :
    (P : Posed) (B : Buffers) (m : Lent) (r : Check) (why : Refusal) → m ≡ lent_of B → r ≡ first_cause P m → r ≡ Err why
    → first_cause P (lent_of B) ≡ Err why
failed_by P B m r why g h e = ap (first_cause P) (sym g) ∙ sym h ∙ e

start_found : (x : Solved) (s : List ℤ) {v : List ℤ} {N : List (List ℤ)} → x.over ≡ false → x.found ≡ some v N → start_after x s ≡ v
start_found x s o e = rw (o, e) refl

-- past the checks
module _ (P : Posed) (B : Buffers) (e : first_cause P (lent_of B) ≡ Ok tt) where
  abbrev q : Passes P (lent_of B)
  q = passes P (lent_of B) e

  abbrev f : Fits P (lent_of B)
  f = fits P (lent_of B) q

  abbrev w : WithinLimits P B
  w = record { passed = e }

  -- a problem that is not past the limit leaves its form in the tableau
  laid : (t : List ℤ) → t ≡ tableau_after (solved P) B.tableau → {k : ℕ} → Solves (solved P) (rounds_of P) k → Laid P (lent_of B) q t
  laid t g x = record { is = g ∙ rw x.kept (ap flat (solved_form P)); kept = solved_kept P x.kept }

  -- what is finished over the columns C and the vectors N is the whole assignment
  ending : (t : List ℤ) (a : Laid P (lent_of B) q t) {k : ℕ} (x : Solves (solved P) (rounds_of P) k) (s : List ℤ) → s ≡ x.start → (z : Finished)
      (C : Columns) (N : List (List ℤ)) → C ≡ columns P → N ≡ basis_of P.problem t
      → z ≡ finished P.problem.limit C N s B.values B.strides → done_with (rounds_of P) t z ≡ assign P B
  ending t a x s g z C N c n h =
      ap (done_with (rounds_of P) t) (h ∙ ap₂ (λ (X : Columns) (Y : List (List ℤ)). finished P.problem.limit X Y s B.values B.strides) c n)
      ∙ assign_found P B w a x s g ∙ sym (assign_passed P B e)

pub returns-in_err-first_cause : goal.returns-in_err-first_cause
returns-in_err-first_cause c =
    let r : c.from_residual.result ≡ Err c.in_err-first_cause.field-0.0 = search rules in
    rw r (assign_failed (posed c.args.p c.args.lists) (held c.args.lent)
    (failed_by (posed c.args.p c.args.lists) (held c.args.lent) c.lengths.result c.first_cause.result c.in_err-first_cause.field-0.0 c.lengths.ensures
    c.first_cause.ensures c.in_err-first_cause.was))

pub slice_bounds-room-end : goal.slice_bounds-room-end
slice_bounds-room-end c =
    (fits_by (posed c.args.p c.args.lists) (held c.args.lent) _ _ c.lengths.ensures c.first_cause.ensures c.in_ok-first_cause.was).few_columns

pub slice_bounds-start-end : goal.slice_bounds-start-end
slice_bounds-start-end c =
    part_length _ _
    (fits_by (posed c.args.p c.args.lists) (held c.args.lent) _ _ c.lengths.ensures c.first_cause.ensures c.in_ok-first_cause.was).few_columns

pub solve-requires : goal.solve-requires
solve-requires c =
    let P : Posed = posed c.args.p c.args.lists in
    let B : Buffers = held c.args.lent in
    let e : first_cause P (lent_of B) ≡ Ok tt =
    passed_by P B c.lengths.result c.first_cause.result c.lengths.ensures c.first_cause.ensures c.in_ok-first_cause.was in
    let g : Fits P (lent_of B) = f P B e in
    solvable P (lent_of B) (q P B e) c.args.lent.tableau.now _ refl (sym (part_length _ _ g.few_columns))

pub returns-in_err-rounds : goal.returns-in_err-rounds
returns-in_err-rounds c =
    let P : Posed = posed c.args.p c.args.lists in
    let B : Buffers = held c.args.lent in
    let e : first_cause P (lent_of B) ≡ Ok tt =
    passed_by P B c.lengths.result c.first_cause.result c.lengths.ensures c.first_cause.ensures c.in_ok-first_cause.was in
    let r : c.from_residual-in_err-rounds.result ≡ Err c.in_err-rounds.field-0.0 = search rules in
    rw r (ap (λ (t : List ℤ). refused c.in_err-rounds.field-0.0 t B) c.solve.ensures.t_after
    ∙ assign_unsolved P B (rounds_of P) (grind (arith, c.solve.ensures.value, c.in_err-rounds.was)) ∙ sym (assign_passed P B e))

pub slice_bounds-table-end : goal.slice_bounds-table-end
slice_bounds-table-end c =
    (fits_by (posed c.args.p c.args.lists) (held c.args.lent) _ _ c.lengths.ensures c.first_cause.ensures c.in_ok-first_cause.was).few_columns

pub slice_bounds-columns-end : goal.slice_bounds-columns-end
slice_bounds-columns-end c =
    part_length _ _
    (fits_by (posed c.args.p c.args.lists) (held c.args.lent) _ _ c.lengths.ensures c.first_cause.ensures c.in_ok-first_cause.was).few_columns

pub pack-requires : goal.pack-requires
pack-requires c =
    let P : Posed = posed c.args.p c.args.lists in
    let B : Buffers = held c.args.lent in
    let g : Fits P (lent_of B) = fits_by P B _ _ c.lengths.ensures c.first_cause.ensures c.in_ok-first_cause.was in
    packable c.args.p c.args.lists (lent_of B) g _ (sym (part_length _ _ g.few_columns))

pub basis_in-basis-requires : goal.basis_in-basis-requires
basis_in-basis-requires c =
    let P : Posed = posed c.args.p c.args.lists in
    let B : Buffers = held c.args.lent in
    let e : first_cause P (lent_of B) ≡ Ok tt =
    passed_by P B c.lengths.result c.first_cause.result c.lengths.ensures c.first_cause.ensures c.in_ok-first_cause.was in
    let g : Fits P (lent_of B) = f P B e in
    let x : Solves (solved P) (rounds_of P) c.in_ok-rounds.rounds =
    solves (solved P) (rounds_of P) _ (sym c.solve.ensures.value ∙ c.in_ok-rounds.was) in
    let a : Laid P (lent_of B) (q P B e) c.solve.new.t = laid P B e c.solve.new.t c.solve.ensures.t_after x in
    (g.few_columns, g.few_rows, laid_parted P (lent_of B) (q P B e) a)

pub finish-requires : goal.finish-requires
finish-requires c =
    let P : Posed = posed c.args.p c.args.lists in
    let B : Buffers = held c.args.lent in
    let e : first_cause P (lent_of B) ≡ Ok tt =
    passed_by P B c.lengths.result c.first_cause.result c.lengths.ensures c.first_cause.ensures c.in_ok-first_cause.was in
    let g : Fits P (lent_of B) = f P B e in
    let x : Solves (solved P) (rounds_of P) c.in_ok-rounds.rounds =
    solves (solved P) (rounds_of P) _ (sym c.solve.ensures.value ∙ c.in_ok-rounds.was) in
    let a : Laid P (lent_of B) (q P B e) c.solve.new.t = laid P B e c.solve.new.t c.solve.ensures.t_after x in
    finishable P B (w P B e) a x c.basis_in-basis.result
    (record { is = c.basis_in-basis.ensures.0; columns = c.basis_in-basis.ensures.1; few = c.basis_in-basis.ensures.2 })
    _ (c.solve.ensures.start_after ∙ start_found (solved P) _ x.kept x.is)
    _ (c.pack.ensures ∙ packs c.args.p c.args.lists (lent_of B) g)

pub returns-in_err-verdict : goal.returns-in_err-verdict
returns-in_err-verdict c =
    let P : Posed = posed c.args.p c.args.lists in
    let B : Buffers = held c.args.lent in
    let e : first_cause P (lent_of B) ≡ Ok tt =
    passed_by P B c.lengths.result c.first_cause.result c.lengths.ensures c.first_cause.ensures c.in_ok-first_cause.was in
    let g : Fits P (lent_of B) = f P B e in
    let x : Solves (solved P) (rounds_of P) c.in_ok-rounds.rounds =
    solves (solved P) (rounds_of P) _ (sym c.solve.ensures.value ∙ c.in_ok-rounds.was) in
    let a : Laid P (lent_of B) (q P B e) c.solve.new.t = laid P B e c.solve.new.t c.solve.ensures.t_after x in
    let r : c.from_residual-in_err-verdict.result ≡ Err c.in_err-verdict.field-0.0 = search rules in
    rw r (ap (λ (z : Answer). done_with (rounds_of P) c.solve.new.t (finished_with z c.finish.new.values c.finish.new.strides))
    (sym c.in_err-verdict.was)
    ∙ ending P B e c.solve.new.t a x _ (c.solve.ensures.start_after ∙ start_found (solved P) _ x.kept x.is)
    _ _ _ (ap₂ columns_in c.basis_in-basis.ensures.1 (c.pack.ensures ∙ packs c.args.p c.args.lists (lent_of B) g) ∙ table_columns P (lent_of B) g)
    c.basis_in-basis.ensures.0 c.finish.ensures)

pub returns : goal.returns
returns c =
    let P : Posed = posed c.args.p c.args.lists in
    let B : Buffers = held c.args.lent in
    let e : first_cause P (lent_of B) ≡ Ok tt =
    passed_by P B c.lengths.result c.first_cause.result c.lengths.ensures c.first_cause.ensures c.in_ok-first_cause.was in
    let g : Fits P (lent_of B) = f P B e in
    let x : Solves (solved P) (rounds_of P) c.in_ok-rounds.rounds =
    solves (solved P) (rounds_of P) _ (sym c.solve.ensures.value ∙ c.in_ok-rounds.was) in
    let a : Laid P (lent_of B) (q P B e) c.solve.new.t = laid P B e c.solve.new.t c.solve.ensures.t_after x in
    ap (λ (k : ℕ). done (Ok c.in_ok-verdict.verdict) k c.solve.new.t c.finish.new.values c.finish.new.strides) (sym x.same)
    ∙ ap (λ (z : Answer). done_with (rounds_of P) c.solve.new.t (finished_with z c.finish.new.values c.finish.new.strides))
    (sym c.in_ok-verdict.was)
    ∙ ending P B e c.solve.new.t a x _ (c.solve.ensures.start_after ∙ start_found (solved P) _ x.kept x.is)
    _ _ _ (ap₂ columns_in c.basis_in-basis.ensures.1 (c.pack.ensures ∙ packs c.args.p c.args.lists (lent_of B) g) ∙ table_columns P (lent_of B) g)
    c.basis_in-basis.ensures.0 c.finish.ensures
