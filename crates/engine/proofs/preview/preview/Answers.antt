-- `engine::preview::preview` meets its contract: what the ground refuses is refused, and over it the next step is shown. Assumes nothing.
use Rattle.std.proofs.Common.{rules, arith, ◌≡◌, sym, ◌∙◌, ap, ap₂, length, Ok, Err, ℕ, ℤ, List}
use Rattle.problem.specs.Checks.{Posed, posed}
use Rattle.problem.specs.declared.Lent.{Lent}
use Rattle.problem.specs.declared.Refusal.{Refusal}
use Rattle.problem.proofs.CheckLaws.{Fits}
use Rattle.settling.specs.Columns.{Columns, columns_in}
use Rattle.settling.proofs.Fronts.{part_length}
use Rattle.engine.specs.Assign.{Buffers, n, rounds_of}
use Rattle.engine.specs.Preview.{shown, with_limit, list_length, lent_beside, unshown}
use Rattle.engine.specs.Showing.{displayed_by}
use Rattle.engine.specs.Replies.{held}
use Rattle.engine.proofs.Readiness.{table_columns, ready, Taken}
use Rattle.engine.proofs.Forming.{laid_parted}
use Rattle.engine.proofs.Grounding.{by_ground, ground_told, Clear, clear_told, clear_rounds, clear_passes, clear_fits, clear_laid, clear_small}
use Rattle.engine.proofs.Showing.{both_long, shown_with, preview_ground, preview_shown}
use Rattle.engine.proofs.preview.preview.Goals as goal

-- the lengths that the ground is told are those of both lists
same_lengths : (P : Posed) (v : List ℤ) (B : Buffers) {k : ℕ} → k ≡ list_length (n P) (length v) (length B.values)
    → record { tableau = length B.tableau; values = k; strides = length B.strides } ≡ lent_beside (n P) v B
same_lengths P v B e = ap (λ (k : ℕ). record { tableau = length B.tableau; values = k; strides = length B.strides }) e

pub returns-in_err-rounds : goal.returns-in_err-rounds
returns-in_err-rounds c =
    let P : Posed = posed c.args.p c.args.lists in
    let B : Buffers = held c.args.lent in
    let v : List ℤ = c.args.standing.now in
    let L : Lent = lent_beside (n P) v B in
    let why : Refusal = c.in_err-rounds.field-0.0 in
    let r : c.from_residual.result ≡ Err why = search rules in
    rw r (ap (by_ground (λ w t. unshown w t B) _)
    (ground_told (with_limit 1 P) v L _ B.tableau _ (Err why) c.lay_ground.new.tableau (same_lengths P v B c.list_length.ensures)
    c.lay_ground.ensures.0 c.in_err-rounds.was)
    ∙ sym (preview_ground P v B))

pub basis_in-basis-requires : goal.basis_in-basis-requires
basis_in-basis-requires c =
    let P : Posed = posed c.args.p c.args.lists in
    let B : Buffers = held c.args.lent in
    let v : List ℤ = c.args.standing.now in
    let L : Lent = lent_beside (n P) v B in
    let z : Clear (with_limit 1 P) v L B.tableau c.lay_ground.new.tableau =
    clear_told (with_limit 1 P) v L _ B.tableau _ _ _ (same_lengths P v B c.list_length.ensures) c.lay_ground.ensures.0 c.in_ok-rounds.was in
    let g : Fits (with_limit 1 P) L = clear_fits _ _ _ _ z in
    (g.few_columns, g.few_rows, laid_parted (with_limit 1 P) L (clear_passes _ _ _ _ z) (clear_laid _ _ _ _ z))

pub slice_bounds-columns-end : goal.slice_bounds-columns-end
slice_bounds-columns-end c =
    let P : Posed = posed c.args.p c.args.lists in
    let B : Buffers = held c.args.lent in
    let v : List ℤ = c.args.standing.now in
    let L : Lent = lent_beside (n P) v B in
    let z : Clear (with_limit 1 P) v L B.tableau c.lay_ground.new.tableau =
    clear_told (with_limit 1 P) v L _ B.tableau _ _ _ (same_lengths P v B c.list_length.ensures) c.lay_ground.ensures.0 c.in_ok-rounds.was in
    let g : Fits (with_limit 1 P) L = clear_fits _ _ _ _ z in
    omega (arith, g.few_columns, c.lay_ground.auto.columns)

pub slice_bounds-show_on-end : goal.slice_bounds-show_on-end
slice_bounds-show_on-end c =
    let P : Posed = posed c.args.p c.args.lists in
    let B : Buffers = held c.args.lent in
    let v : List ℤ = c.args.standing.now in
    let L : Lent = lent_beside (n P) v B in
    let z : Clear (with_limit 1 P) v L B.tableau c.lay_ground.new.tableau =
    clear_told (with_limit 1 P) v L _ B.tableau _ _ _ (same_lengths P v B c.list_length.ensures) c.lay_ground.ensures.0 c.in_ok-rounds.was in
    let g : Fits (with_limit 1 P) L = clear_fits _ _ _ _ z in
    part_length _ _ (omega (arith, g.few_columns, c.lay_ground.auto.columns))

pub show_on-next-requires : goal.show_on-next-requires
show_on-next-requires c =
    let P : Posed = posed c.args.p c.args.lists in
    let B : Buffers = held c.args.lent in
    let v : List ℤ = c.args.standing.now in
    let L : Lent = lent_beside (n P) v B in
    let z : Clear (with_limit 1 P) v L B.tableau c.lay_ground.new.tableau =
    clear_told (with_limit 1 P) v L _ B.tableau _ _ _ (same_lengths P v B c.list_length.ensures) c.lay_ground.ensures.0 c.in_ok-rounds.was in
    let g : Fits (with_limit 1 P) L = clear_fits _ _ _ _ z in
    let b : Taken (with_limit 1 P) c.lay_ground.new.tableau c.basis_in-basis.result =
    record { is = c.basis_in-basis.ensures.0; columns = c.basis_in-basis.ensures.1; few = c.basis_in-basis.ensures.2 } in
    let l = both_long (n P) (length v) (length B.values) g.values_long in (
      ready (with_limit 1 P) L g c.basis_in-basis.result c.lay_ground.new.tableau b v _ l.0 (clear_small _ _ _ _ z)
          (c.lay_ground.ensures.1.is _ c.in_ok-rounds.was),
      l.1 ∙ sym b.columns,
      g.strides_long ∙ sym b.columns,
    )

pub returns : goal.returns
returns c =
    let P : Posed = posed c.args.p c.args.lists in
    let B : Buffers = held c.args.lent in
    let v : List ℤ = c.args.standing.now in
    let L : Lent = lent_beside (n P) v B in
    let z : Clear (with_limit 1 P) v L B.tableau c.lay_ground.new.tableau =
    clear_told (with_limit 1 P) v L _ B.tableau _ _ _ (same_lengths P v B c.list_length.ensures) c.lay_ground.ensures.0 c.in_ok-rounds.was in
    let g : Fits (with_limit 1 P) L = clear_fits _ _ _ _ z in
    let cols = ap₂ columns_in c.basis_in-basis.ensures.1 (c.lay_ground.ensures.1.is _ c.in_ok-rounds.was) ∙ table_columns (with_limit 1 P) L g in
    ap (λ (k : ℕ). shown (Ok c.show_on-next.result) k c.lay_ground.new.tableau c.show_on-next.new.after c.show_on-next.new.strides)
    (clear_rounds _ _ _ _ z
    (ground_told (with_limit 1 P) v L _ B.tableau _ _ _ (same_lengths P v B c.list_length.ensures) c.lay_ground.ensures.0 c.in_ok-rounds.was))
    ∙ ap (shown_with (rounds_of P) c.lay_ground.new.tableau)
    (c.show_on-next.ensures
    ∙ ap₂ (λ (X : Columns) (Y : List (List ℤ)). displayed_by X Y v) cols c.basis_in-basis.ensures.0)
    ∙ sym (preview_shown P v B z)
