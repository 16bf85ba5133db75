-- `deck::read_deck` meets its contract: what is turned back leaves the lists, and a deck fills them. Assumes nothing.
use Rattle.std.proofs.Common.{rules, ◌≡◌, Err, sym, ap, ◌∙◌}
use Rattle.deck.specs.Posing.{Deck}
use Rattle.deck.specs.Reader.{Reading, deck_buffers, held, read_done, shape_of}
use Rattle.deck.proofs.Whole.{read_short, read_long, read_not, accepting, small, deck_within}
use Rattle.deck.proofs.read_deck.Goals as goal

pub returns-then-not-lengths_fit-clause-done : goal.returns-then-not-lengths_fit-clause-done
returns-then-not-lengths_fit-clause-done c =
    sym (read_short c.args.text.now (held c.args.lists.now) (sym c.lengths_fit.ensures ∙ c.if-not-lengths_fit.true))

pub returns-then-text-gt-TEXT-clause-done : goal.returns-then-text-gt-TEXT-clause-done
returns-then-text-gt-TEXT-clause-done c =
    sym (read_long c.args.text.now (held c.args.lists.now) (sym c.lengths_fit.ensures ∙ c.if-not-lengths_fit.false) c.if-text-gt-TEXT.true)

pub returns-in_err-c-clause-done : goal.returns-in_err-c-clause-done
returns-in_err-c-clause-done c =
    let q = read_not c.args.text.now (held c.args.lists.now) c.in_err-c.field-0.0 (sym c.lengths_fit.ensures ∙ c.if-not-lengths_fit.false)
    c.if-text-gt-TEXT.false c.in_err-c.ensures in
    let r : c.from_residual.result ≡ Err c.in_err-c.field-0.0 = search rules in
    rw q (ap (λ (r : Reading). read_done r (held c.args.lists.now)) r)

pub fill-requires-clause-small : goal.fill-requires-clause-small
fill-requires-clause-small c =
    let w = c.in_ok-c.ensures in
    rw w.rest.intervals (small c.scan.new.tables w.what w.rest.tables (deck_within c.args.text.now w.what w.end w.read))

pub returns-clause-done : goal.returns-clause-done
returns-clause-done c =
    let s = c.args.text.now in
    let B = held c.args.lists.now in
    let w = c.in_ok-c.ensures in
    let d : Deck = w.what in
    let t = w.rest in
    let q : record { columns = c.in_ok-c.c.columns; rows = c.in_ok-c.c.rows; intervals = c.in_ok-c.c.intervals } ≡ shape_of d =
    λ i. record { columns = t.columns i; rows = t.rows i; intervals = t.intervals i } in
    let n = c.fill.new in
    accepting s B d w.end _ (deck_buffers n.coefficients n.rights n.lower n.upper n.low n.high n.given n.ideals)
    (sym c.lengths_fit.ensures ∙ c.if-not-lengths_fit.false) c.if-text-gt-TEXT.false w.read q (c.fill.ensures d t.tables q)
