-- `deck::tables::pick_columns` meets its contract. Assumes nothing.
use Rattle.std.proofs.Common.{rules, arith, ◌≡◌, ◌<◌, ◌+◌, ℕ, ℤ, List, [], ◌∷◌, map, take, set, get_or, length, length-set, to_z, of_z, w64, sym, ap}
use Rattle.std.proofs.Common.{◌∙◌}
use Rattle.std.proofs.lemmas.List.{take_more}
use lib.ListN.{length-map}
use lib.Seq.{length-take-le}
use Rattle.text.specs.Overwriting.{overwritten}
use Rattle.sections.specs.Sections.{deck_columns}
use Rattle.sections.specs.StatedColumns.{lower_of, upper_of, low_of, high_of, no_interval}
use Rattle.sections.specs.declared.Interval.{Interval}
use Rattle.sections.proofs.Storage.{map_two, set_more}
use Rattle.deck.proofs.tables.pick_columns.Invariants.{Sofar}
use Rattle.deck.proofs.tables.pick_columns.Goals as goal

more : (f : Interval → ℤ) (k : List Interval) (i : ℕ) (o u : List ℤ) → i < length k → length o ≡ deck_columns → i < deck_columns → Sofar f k i o u
    → Sofar f k (i + 1) o (set u i (f (get_or k i no_interval)))
more f k i o u h l m v =
    let x = get_or k i no_interval in
    let n : length (map f (take i k)) ≡ i = length-map (take i k) f ∙ length-take-le i k (omega arith) in
    record {
      size = length-set u i (f x) ∙ v.size;
      wrote =
          ap (λ (w : List ℤ). set w i (f x)) v.wrote ∙ set_more o 0 (map f (take i k)) i (f x) (omega arith) (omega arith)
          ∙ ap (overwritten o 0) (sym (ap (map f) (take_more k i no_interval h) ∙ map_two f (take i k) (x ∷ [])));
    }

pub loop-j-preserved : goal.loop-j-preserved
loop-j-preserved c =
    let k = c.args.columns.now in
    let l = c.loop-j in
    let v = l.invariant in
    let x : Interval = get_or k l.j no_interval in
    let h : l.j < length k = omega (arith, c.told-columns) in
    let lo : to_z w64 (of_z w64 x.lower) ≡ x.lower = search rules in
    let up : to_z w64 (of_z w64 x.upper) ≡ x.upper = search rules in
    let gl : to_z w64 (of_z w64 x.low) ≡ x.low = search rules in
    let gh : to_z w64 (of_z w64 x.high) ≡ x.high = search rules in (
      rw lo (more lower_of k l.j _ _ h c.requires.0 c.loop-j-test.true v.0),
      rw up (more upper_of k l.j _ _ h c.requires.1 c.loop-j-test.true v.1),
      rw gl (more low_of k l.j _ _ h c.requires.2 c.loop-j-test.true v.2),
      rw gh (more high_of k l.j _ _ h c.requires.3 c.loop-j-test.true v.3),
    )
