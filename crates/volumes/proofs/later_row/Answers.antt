-- `volumes::later_row` meets its contract. Assumes nothing.
use Rattle.std.proofs.Common.{rules, arith, ◌≡◌, ◌<◌, ◌+◌, ℕ, ℤ, pos, ◌-ℤ◌, Bool, true, false, List, length, get_or, set, length-set, eqb, to_z, of_z}
use Rattle.std.proofs.Common.{w64, refl, sym, ap, ◌∙◌}
use Rattle.std.proofs.Math.Seq.{get_or-set_same, get_or-set_other, ext_get_or}
use Rattle.std.specs.Int.{from_bool}
use borrow.Author.Tests.{eqb-true, eqb-false}
use Rattle.whole.specs.Lists.{entry}
use Rattle.volumes.specs.VolumesRead.{less}
use Rattle.volumes.proofs.Ones.{length_less, entry_less}
use Rattle.volumes.proofs.later_row.Goals as goal

kept : (u v : List ℤ) (j : ℕ) (x : ℤ) → j < length u → ((k : ℕ) → k < j → entry k u ≡ entry k v) → x ≡ entry j v
    → (k : ℕ) → k < j + 1 → entry k (set u j x) ≡ entry k v
kept u v j x l f e k h = go (eqb k j) refl
  where
    go : (t : Bool) → eqb k j ≡ t → entry k (set u j x) ≡ entry k v
    go true q =
        let z = eqb-true k j q in
        ap (λ (i : ℕ). entry i (set u j x)) z ∙ get_or-set_same u j x (pos 0) l ∙ e ∙ ap (λ (i : ℕ). entry i v) (sym z)
    go false q =
        let z = eqb-false k j q in
        get_or-set_other u j k x (pos 0) z ∙ f k (omega arith)

small : (x y : Bool) → to_z w64 (of_z w64 (pos (from_bool x) -ℤ pos (from_bool y))) ≡ pos (from_bool x) -ℤ pos (from_bool y)
small true true = refl
small true false = refl
small false true = refl
small false false = refl

pub loop-j-preserved : goal.loop-j-preserved
loop-j-preserved c =
    let l = c.loop-j in
    let u = c.args.first.now in
    let v = c.args.later.now in
    let x : to_z w64 (of_z w64 c.from.result) ≡ c.from.result = search rules in
    let y : to_z w64 (of_z w64 c.from-in-loop-j.result) ≡ c.from-in-loop-j.result = search rules in
    let e : to_z w64 (of_z w64 (to_z w64 (of_z w64 c.from.result) -ℤ to_z w64 (of_z w64 c.from-in-loop-j.result))) ≡ entry l.j (less u v) =
    rw (x, y, c.from.ensures, c.from-in-loop-j.ensures)
    (small (get_or u l.j false) (get_or v l.j false) ∙ sym (entry_less u v l.j (omega (arith, c.told-first)) (omega (arith, c.told-later)))) in
    (length-set l.row l.j _ ∙ l.invariant.0, kept l.row (less u v) l.j _ (omega (arith, l.invariant.0)) l.invariant.1 e)

pub returns : goal.returns
returns c =
    let u = c.args.first.now in
    let v = c.args.later.now in
    let n = length_less u v (c.told-first ∙ sym c.told-later) in
    let w = c.loop-j.invariant in
    ext_get_or (pos 0) c.loop-j.row (less u v) (w.0 ∙ sym (n ∙ c.told-first))
    (λ k h. w.1 k (omega (arith, w.0)))
