-- `engine::continue_from` meets its contract: what the ground refuses is refused, and over it the list is settled. Assumes nothing.
use Rattle.std.proofs.Common.{rules, arith, ◌≡◌, sym, ◌∙◌, ap, ap₂, Ok, Err, ℕ, ℤ, List}
use Rattle.problem.specs.Checks.{Posed, posed}
use Rattle.problem.specs.declared.Refusal.{Refusal}
use Rattle.problem.proofs.CheckLaws.{Fits}
use Rattle.settling.specs.Columns.{Columns, columns_in}
use Rattle.settling.proofs.Fronts.{part_length}
use Rattle.engine.specs.Assign.{Buffers, done, lent_of, rounds_of, refused}
use Rattle.engine.specs.Finish.{settled_by}
use Rattle.engine.specs.Replies.{held}
use Rattle.engine.proofs.Readiness.{table_columns, ready, Taken}
use Rattle.engine.proofs.Forming.{laid_parted}
use Rattle.engine.proofs.Assigning.{done_with, continue_passed, continue_settled}
use Rattle.engine.proofs.Grounding.{by_ground, ground_told, Clear, clear_told, clear_rounds}
use Rattle.engine.proofs.Grounding.{clear_passes, clear_fits, clear_laid, clear_small, continue_ground}
use Rattle.engine.proofs.continue_from.Goals as goal

pub returns-in_err-rounds : goal.returns-in_err-rounds
returns-in_err-rounds c =
    let P : Posed = posed c.args.p c.args.lists in
    let B : Buffers = held c.args.lent in
    let why : Refusal = c.in_err-rounds.field-0.0 in
    let r : c.from_residual.result ≡ Err why = search rules in
    rw r (ap (by_ground (λ w t. refused w t B) _)
    (ground_told P B.values (lent_of B) _ B.tableau _ (Err why) c.lay_ground.new.tableau c.lengths-lengths.ensures c.lay_ground.ensures.0
    c.in_err-rounds.was)
    ∙ sym (continue_ground P B))

pub basis_in-basis-requires : goal.basis_in-basis-requires
basis_in-basis-requires c =
    let P : Posed = posed c.args.p c.args.lists in
    let B : Buffers = held c.args.lent in
    let z : Clear P B.values (lent_of B) B.tableau c.lay_ground.new.tableau =
    clear_told P B.values (lent_of B) _ B.tableau _ _ _ c.lengths-lengths.ensures c.lay_ground.ensures.0 c.in_ok-rounds.was in
    let g : Fits P (lent_of B) = clear_fits _ _ _ _ z in
    (g.few_columns, g.few_rows, laid_parted P (lent_of B) (clear_passes _ _ _ _ z) (clear_laid _ _ _ _ z))

pub slice_bounds-columns-end : goal.slice_bounds-columns-end
slice_bounds-columns-end c =
    let P : Posed = posed c.args.p c.args.lists in
    let B : Buffers = held c.args.lent in
    let z : Clear P B.values (lent_of B) B.tableau c.lay_ground.new.tableau =
    clear_told P B.values (lent_of B) _ B.tableau _ _ _ c.lengths-lengths.ensures c.lay_ground.ensures.0 c.in_ok-rounds.was in
    let g : Fits P (lent_of B) = clear_fits _ _ _ _ z in
    omega (arith, g.few_columns, c.lay_ground.auto.columns)

pub slice_bounds-settle_on-end : goal.slice_bounds-settle_on-end
slice_bounds-settle_on-end c =
    let P : Posed = posed c.args.p c.args.lists in
    let B : Buffers = held c.args.lent in
    let z : Clear P B.values (lent_of B) B.tableau c.lay_ground.new.tableau =
    clear_told P B.values (lent_of B) _ B.tableau _ _ _ c.lengths-lengths.ensures c.lay_ground.ensures.0 c.in_ok-rounds.was in
    let g : Fits P (lent_of B) = clear_fits _ _ _ _ z in
    part_length _ _ (omega (arith, g.few_columns, c.lay_ground.auto.columns))

pub settle_on-verdict-requires : goal.settle_on-verdict-requires
settle_on-verdict-requires c =
    let P : Posed = posed c.args.p c.args.lists in
    let B : Buffers = held c.args.lent in
    let z : Clear P B.values (lent_of B) B.tableau c.lay_ground.new.tableau =
    clear_told P B.values (lent_of B) _ B.tableau _ _ _ c.lengths-lengths.ensures c.lay_ground.ensures.0 c.in_ok-rounds.was in
    let g : Fits P (lent_of B) = clear_fits _ _ _ _ z in
    let b : Taken P c.lay_ground.new.tableau c.basis_in-basis.result =
    record { is = c.basis_in-basis.ensures.0; columns = c.basis_in-basis.ensures.1; few = c.basis_in-basis.ensures.2 } in (
      ready P (lent_of B) g c.basis_in-basis.result c.lay_ground.new.tableau b B.values _ g.values_long (clear_small _ _ _ _ z)
          (c.lay_ground.ensures.1.is _ c.in_ok-rounds.was),
      g.strides_long ∙ sym b.columns,
    )

pub returns : goal.returns
returns c =
    let P : Posed = posed c.args.p c.args.lists in
    let B : Buffers = held c.args.lent in
    let z : Clear P B.values (lent_of B) B.tableau c.lay_ground.new.tableau =
    clear_told P B.values (lent_of B) _ B.tableau _ _ _ c.lengths-lengths.ensures c.lay_ground.ensures.0 c.in_ok-rounds.was in
    let g : Fits P (lent_of B) = clear_fits _ _ _ _ z in
    let cols = ap₂ columns_in c.basis_in-basis.ensures.1 (c.lay_ground.ensures.1.is _ c.in_ok-rounds.was) ∙ table_columns P (lent_of B) g in
    ap (λ (k : ℕ). done (Ok c.settle_on-verdict.result) k c.lay_ground.new.tableau c.settle_on-verdict.new.values c.settle_on-verdict.new.strides)
    (clear_rounds _ _ _ _ z
    (ground_told P B.values (lent_of B) _ B.tableau _ _ _ c.lengths-lengths.ensures c.lay_ground.ensures.0 c.in_ok-rounds.was))
    ∙ ap (done_with (rounds_of P) c.lay_ground.new.tableau)
    (c.settle_on-verdict.ensures
    ∙ ap₂ (λ (X : Columns) (Y : List (List ℤ)). settled_by P.problem.limit X Y B.values) cols c.basis_in-basis.ensures.0)
    ∙ sym (continue_settled P B (lent_of B) (clear_passes _ _ _ _ z) (clear_laid _ _ _ _ z) z.standing) ∙ sym (continue_passed P B z.passed)
