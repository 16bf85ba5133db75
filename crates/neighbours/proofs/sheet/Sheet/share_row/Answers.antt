-- `neighbours::sheet::Sheet::share_row` meets its contract. Assumes nothing.
use Rattle.std.proofs.Common.{ℕ, Bool, ◌&&◌, rules, tests, refl, ◌∙◌}
use Rattle.std.proofs.lemmas.Iterator.{YieldsList-from_range}
use Rattle.std.proofs.lemmas.Iterator.Search.{any_from_yields_List}
use Rattle.neighbours.specs.Neighbours.{in_row}
use Rattle.neighbours.specs.Sheets.{stated}
use Rattle.neighbours.proofs.Laws.{any_row}
use Rattle.neighbours.proofs.sheet.Sheet.share_row.Goals as goal

pub returns : goal.returns
returns c =
    let S = stated c.args.self in
    let both : ℕ → Bool = λ i. in_row S i c.args.j && in_row S i c.args.h in
    any_from_yields_List both _ _ _ c.any.ensures.ran (YieldsList-from_range 0 S.rows S.rows refl (search rules)) (λ x b q k. search (rules, tests))
    ∙ any_row S.rows both
