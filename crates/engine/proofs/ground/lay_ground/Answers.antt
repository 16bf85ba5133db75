-- `engine::ground::lay_ground` meets its contract: what the checks find decides, and then 10 and 7. Assumes nothing.
use Rattle.std.proofs.Common.{rules, arith, ◌≡◌, sym, ◌∙◌, refl, length, Ok, Err, true, false}
use Rattle.problem.specs.Checks.{Posed, posed, first_cause}
use Rattle.problem.specs.declared.Refusal.{Refusal}
use Rattle.problem.proofs.CheckLaws.{passes, Fits, fits}
use Rattle.settling.proofs.Fronts.{part_length, part_back}
use Rattle.problem.specs.declared.Refusal.TheVariants.{Elimination}
use Rattle.tableau.proofs.Told.{told_ok, told_err}
use Rattle.engine.specs.Assign.{stands, formed, rounds_of}
use Rattle.engine.proofs.Readiness.{packable, packs}
use Rattle.engine.proofs.Forming.{formable}
use Rattle.engine.proofs.Keeping.{stands_in_lem, standable}
use Rattle.engine.proofs.Grounding.{ground_failed, ground_off, ground_over, ground_clear, unpacked}
use Rattle.engine.proofs.ground.lay_ground.Goals as goal

pub returns-in_err-first_cause : goal.returns-in_err-first_cause
returns-in_err-first_cause c =
    let P : Posed = posed c.args.p c.args.lists in
    let why : Refusal = c.in_err-first_cause.field-0.0 in
    let r : c.from_residual.result ≡ Err why = search rules in
    (rw r (ground_failed P c.args.list.now c.args.lent c.args.tableau.now (sym c.first_cause.ensures ∙ c.in_err-first_cause.was)), unpacked r P _)

pub stands-requires : goal.stands-requires
stands-requires c =
    let P : Posed = posed c.args.p c.args.lists in
    let e : first_cause P c.args.lent ≡ Ok tt = sym c.first_cause.ensures ∙ c.in_ok-first_cause.was in
    let f : Fits P c.args.lent = fits P c.args.lent (passes P c.args.lent e) in
    standable P c.args.lent f c.args.list.now (c.requires.list f.values_long ∙ sym f.values_long)

pub returns-then-not-stands : goal.returns-then-not-stands
returns-then-not-stands c =
    let P : Posed = posed c.args.p c.args.lists in
    let e : first_cause P c.args.lent ≡ Ok tt = sym c.first_cause.ensures ∙ c.in_ok-first_cause.was in
    let s : stands P c.args.list.now ≡ false = sym (stands_in_lem P c.args.list.now) ∙ sym c.stands.ensures ∙ c.if-not-stands.true in
    (ground_off P c.args.list.now c.args.lent c.args.tableau.now e s, unpacked refl P _)

pub form-requires : goal.form-requires
form-requires c =
    let P : Posed = posed c.args.p c.args.lists in
    let e : first_cause P c.args.lent ≡ Ok tt = sym c.first_cause.ensures ∙ c.in_ok-first_cause.was in
    formable P c.args.lent (passes P c.args.lent e) c.args.tableau.now c.requires.tableau

pub returns-in_err-rounds : goal.returns-in_err-rounds
returns-in_err-rounds c =
    let P : Posed = posed c.args.p c.args.lists in
    let e : first_cause P c.args.lent ≡ Ok tt = sym c.first_cause.ensures ∙ c.in_ok-first_cause.was in
    let s : stands P c.args.list.now ≡ true = sym (stands_in_lem P c.args.list.now) ∙ sym c.stands.ensures ∙ c.if-not-stands.false in
    let o : (formed P).over ≡ true = told_err (formed P).over (rounds_of P) (sym c.in_err-rounds.was ∙ c.form.ensures.value) in
    let r : c.from_residual-in_err-rounds.result ≡ Err Elimination = search rules in (
      rw (r, c.form.ensures.t_after, o) (ground_over P c.args.list.now c.args.lent c.args.tableau.now e s o),
      unpacked r P _,
    )

pub slice_bounds-pack-end : goal.slice_bounds-pack-end
slice_bounds-pack-end c =
    let P : Posed = posed c.args.p c.args.lists in
    let e : first_cause P c.args.lent ≡ Ok tt = sym c.first_cause.ensures ∙ c.in_ok-first_cause.was in
    let f : Fits P c.args.lent = fits P c.args.lent (passes P c.args.lent e) in
    omega (arith, f.few_columns, c.requires.table)

pub slice_bounds-pack-end-2 : goal.slice_bounds-pack-end-2
slice_bounds-pack-end-2 c =
    let P : Posed = posed c.args.p c.args.lists in
    let e : first_cause P c.args.lent ≡ Ok tt = sym c.first_cause.ensures ∙ c.in_ok-first_cause.was in
    let f : Fits P c.args.lent = fits P c.args.lent (passes P c.args.lent e) in
    part_length _ _ (omega (arith, f.few_columns, c.requires.table))

pub pack-requires : goal.pack-requires
pack-requires c =
    let P : Posed = posed c.args.p c.args.lists in
    let e : first_cause P c.args.lent ≡ Ok tt = sym c.first_cause.ensures ∙ c.in_ok-first_cause.was in
    let f : Fits P c.args.lent = fits P c.args.lent (passes P c.args.lent e) in
    packable c.args.p c.args.lists c.args.lent f _ (sym (part_length _ _ (omega (arith, f.few_columns, c.requires.table))))

pub returns : goal.returns
returns c =
    let P : Posed = posed c.args.p c.args.lists in
    let e : first_cause P c.args.lent ≡ Ok tt = sym c.first_cause.ensures ∙ c.in_ok-first_cause.was in
    let f : Fits P c.args.lent = fits P c.args.lent (passes P c.args.lent e) in
    let s : stands P c.args.list.now ≡ true = sym (stands_in_lem P c.args.list.now) ∙ sym c.stands.ensures ∙ c.if-not-stands.false in
    let o = told_ok (formed P).over (sym c.in_ok-rounds.was ∙ c.form.ensures.value) in
    let m : length c.pack.new.columns ≡ c.args.p.columns =
    c.pack.auto.columns ∙ sym (part_length _ _ (omega (arith, f.few_columns, c.requires.table))) in (
      rw (o.1, c.form.ensures.t_after, o.0) (ground_clear P c.args.list.now c.args.lent c.args.tableau.now e s o.0),
      record { is = λ k h. part_back c.args.p.columns c.pack.new.columns _ m ∙ c.pack.ensures ∙ packs c.args.p c.args.lists c.args.lent f },
    )
