-- `deck::tables::compact` meets its contract. Assumes nothing.
use Rattle.std.proofs.Common.{arith, ◌≡◌, ◌<◌, ◌≤◌, ◌+◌, ◌-◌, ◌*◌, ℕ, ℤ, List, [], ◌∷◌, ◌++◌, map, take, get_or, length, length-append, sym, ap, ◌∙◌}
use Rattle.std.proofs.lemmas.Grind.{common_steps}
use Rattle.std.proofs.lemmas.List.{take_more}
use mathlib.Core.List.{append-nil}
use borrow.Rule.Slice.PartMut.{Post-is, put_mid}
use lib.Seq.{length-take-le}
use Rattle.lattice.specs.Rows.{flat}
use Rattle.lattice.proofs.FlatLaws.{flat_append}
use Rattle.text.specs.Overwriting.{overwritten}
use Rattle.text.proofs.Copying.{length_written, written_then}
use Rattle.sections.specs.Sections.{deck_columns, deck_rows, coefficient_count}
use Rattle.sections.proofs.Storage.{map_two, few_cells}
use Rattle.deck.proofs.tables.compact.Invariants.{Sofar}
use Rattle.deck.proofs.tables.compact.Goals as goal

put_is : (to n : ℕ) (u w : List ℤ) → length w ≡ n → put_mid to (to + n - to) u w ≡ overwritten u to w
put_is to n u w l = rw (Post-is to (to + n) u (omega arith), l)

module _ (T : List (List ℤ)) (n i to : ℕ) (o u : List ℤ) (f : Sofar T n i to o u) where
  more : (w : List ℤ) → i < length T → length T ≤ deck_rows → n ≤ deck_columns → length o ≡ coefficient_count
      → length (get_or T i []) ≡ deck_columns → w ≡ take n (get_or T i []) → Sofar T n (i + 1) (to + n) o (put_mid to (to + n - to) u w)
  more w h k m s l e =
      let r = get_or T i [] in
      let v = flat (map (take n) (take i T)) in
      let lw : length w ≡ n = ap length e ∙ length-take-le n r (omega arith) in
      let g : flat (map (take n) (take (i + 1) T)) ≡ v ++ w =
      ap (λ (X : List (List ℤ)). flat (map (take n) X)) (take_more T i [] h)
      ∙ ap flat (map_two (take n) (take i T) (r ∷ []))
      ∙ flat_append (map (take n) (take i T)) (take n r ∷ [])
      ∙ ap (λ (x : List ℤ). v ++ x) (append-nil (take n r) ∙ sym e) in
      let p : to + n ≡ (i + 1) * n = grind (arith, f.place) in
      let b = few_cells n (i + 1) m (omega arith) in
      let q : to ≡ 0 + length v = omega (arith, f.many) in
      record {
        place = p;
        size = ap length (put_is to n u w lw) ∙ length_written u to w (omega (arith, f.size)) ∙ f.size;
        many = ap length g ∙ length-append v w ∙ omega (arith, f.many);
        wrote = put_is to n u w lw ∙ (rw (f.wrote, q) (written_then o 0 v w (omega arith))) ∙ ap (overwritten o 0) (sym g);
      }

pub loop-row-preserved : goal.loop-row-preserved
loop-row-preserved c =
    let x = c.args in
    let l = c.loop-row in
    more x.rows.now x.n l.row-index l.to x.out.now l.out l.invariant c.copy_from_slice.new.self c.loop-row-test.true c.requires.1 c.requires.0
    c.requires.2 (c.told-rows l.row-index c.loop-row-test.true) (grind (arith, common_steps))
