-- `solve::list_text` meets its contract: a text is turned back as the reader says, or the parts of what it filled are its problem. Assumes nothing.
use Rattle.std.proofs.Common.{◌≡◌, length, rules, ap, ◌∙◌}
use Rattle.sections.specs.Sections.{deck_columns, deck_rows}
use Rattle.sections.specs.StatedColumns.{blank}
use Rattle.problem.specs.Checks.{posed}
use Rattle.deck.specs.Reader.{held}
use Rattle.solve.specs.Program.{list_into, parts_of}
use Rattle.solve.proofs.Laws.{refused_into, taken, few_columns, few_rows, accepted_into}
use Rattle.solve.proofs.list_text.Goals as goal

pub returns-in-Err : goal.returns-in-Err
unfolding blank
returns-in-Err c =
    c.write_listing.ensures ∙ refused_into c.args.out.now c.args.text.now _ _ (rw c.in-Err.is at c.read_deck.ensures.done)

pub parts-requires-clause-sizes : goal.parts-requires-clause-sizes
unfolding blank
parts-requires-clause-sizes c =
    let t = taken c.args.text.now _ _ (rw c.in-Ok.is at c.read_deck.ensures.done) in
    let l : length c.read_deck.new.lists.lower.now ≡ deck_columns = search rules in
    let r : length c.read_deck.new.lists.rights.now ≡ deck_rows = search rules in
    (few_columns t l, few_rows t r)

pub list_assigned-requires : goal.list_assigned-requires
unfolding blank
list_assigned-requires c =
    let t = taken c.args.text.now _ _ (rw c.in-Ok.is at c.read_deck.ensures.done) in
    let l : length c.read_deck.new.lists.lower.now ≡ deck_columns = search rules in
    let r : length c.read_deck.new.lists.rights.now ≡ deck_rows = search rules in
    (few_columns t l, few_rows t r)

pub returns : goal.returns
unfolding blank
returns c =
    let t = taken c.args.text.now _ _ (rw c.in-Ok.is at c.read_deck.ensures.done) in
    let e = accepted_into t c.args.out.now in
    let q : posed _ c.parts.result ≡ parts_of _ (held c.read_deck.new.lists) = search (rules, c.parts.ensures) in
    c.list_assigned.ensures ∙ ap (list_into c.args.out.now) q ∙ e
