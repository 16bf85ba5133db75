-- `deck::fill` meets its contract: the lists hold what the deck states. Assumes nothing.
use Rattle.std.proofs.Common.{rules, arith, ◌≡◌, ◌≤◌, List, ℤ, pos, map, take, length, replicate, ap, ◌∙◌}
use Rattle.lattice.specs.Rows.{flat}
use Rattle.neighbours.specs.Neighbours.{stated_by, given_of, ideals_of}
use Rattle.deck.specs.declared.Shape.{Shape}
use Rattle.text.specs.Overwriting.{overwritten}
use Rattle.sections.specs.Sections.{deck_columns, deck_rows, coefficient_count}
use Rattle.deck.specs.Posing.{count_of, all_lines}
use Rattle.deck.specs.Reader.{DeckBuffers, deck_buffers}
use Rattle.deck.proofs.Whole.{sizes, holds, filling}
use Rattle.deck.proofs.fill.Goals as goal

pub returns : goal.returns
returns c = λ d e q.
    let x = c.args in
    let B : DeckBuffers = deck_buffers x.coefficients.now x.rights.now x.lower.now x.upper.now x.low.now x.high.now x.given.now x.ideals.now in
    let l = sizes B c.requires.lists in
    let n : x.shape.columns ≡ count_of d = ap (λ (s : Shape). s.columns) q in
    let m : x.shape.rows ≡ length (all_lines d) = ap (λ (s : Shape). s.rows) q in
    let k : x.shape.intervals ≡ length d.intervals = ap (λ (s : Shape). s.intervals) q in
    let few : count_of d ≤ deck_columns = omega (arith, c.requires.shape.0) in
    let some : length (all_lines d) ≤ deck_rows = omega (arith, c.requires.shape.1) in
    let z : c.fill.new.self ≡ replicate (length x.coefficients.now) (pos 0) = search rules in
    let o : c.fill.new.self ≡ replicate coefficient_count (pos 0) = z ∙ ap (λ j. replicate j (pos 0)) l.coefficients in
    let a : List ℤ = c.compact.new.out in
    let lo : List ℤ = c.pick_columns.new.lower in
    let up : List ℤ = c.pick_columns.new.upper in
    let gl : List ℤ = c.pick_columns.new.low in
    let gh : List ℤ = c.pick_columns.new.high in
    let t : a ≡ overwritten c.fill.new.self 0 (flat (map (take x.shape.columns) (take x.shape.rows x.tables.now.rows))) = c.compact.ensures in
    let p = c.pick_columns.ensures in
    let h = holds d few some x.tables.now c.fill.new.self a c.copy_from_slice.new.self lo up gl gh e o
    (t ∙ (λ i. overwritten c.fill.new.self 0 (flat (map (take (n i)) (take (m i) x.tables.now.rows))))) c.copy_from_slice.ensures.after
    p.0 p.1 p.2 p.3 in
    filling d few some a c.copy_from_slice.new.self lo up gl gh h c.hand_in.new.given c.hand_in.new.ideals
    (c.hand_in.ensures.0 ∙ (λ i. given_of (stated_by (n i) (m i) (k i) a lo up gl gh) (l.given i)))
    (c.hand_in.ensures.1 ∙ (λ i. ideals_of (stated_by (n i) (m i) (k i) a lo up gl gh) (l.given i)))
