-- How large a join is that is made.
--   unshared_none    before the first pair no column of the second is shared
--   unshared_set     a pair shares one more
--   unshared_pairs   so all pairs share as many as they are; a pair is two numbers
--   join_counts      n is the first's n and the second's, less the pairs; m is the first's m and the second's
-- Assumes nothing.
use mathlib.Core.Path.{◌≡◌, refl, sym, ◌∙◌, ap}
use mathlib.Core.List.{List, [], ◌∷◌}
use Prim.Native.Nat.{ℕ, zero, suc, ◌+◌, ◌*◌, ◌-◌, ◌<◌, ◌%◌}
use native.Mathlib.Omega.{arith}
use borrow.Author.Tests.{eqb-true}
use lib.ListN.{length, get_or, set, length-set, length-replicate}
use mathlib.Core.Bool.{cond}
use Rattle.std.specs.Prelude.{Option, Some, None, is_none}
use Rattle.std.proofs.lemmas.List.Sums.{sum_by-set}
use Rattle.std.specs.Prelude.{Ok}
use Rattle.pairing.specs.Parts.{Part}
use Rattle.pairing.specs.Pairs.{Bounds, bounds_of, unpaired, matched, pair_up}
use Rattle.pairing.proofs.Walking.{free_columns}
use Rattle.joined.specs.Columns.{unshared}
use Rattle.joined.specs.Joined.{joined}
use Rattle.joined.proofs.Passing.{part_fits}
use Rattle.joined.proofs.Filling.{unshared_alone}
use Rattle.joining.specs.Join.{partners}
use Rattle.joining.specs.Shares.{JoinCounts}
use Rattle.joining.proofs.Made.{Makes, MadeOf, join_makes}
use Rattle.joining.proofs.Meeting.{free_unset, passed_pair, passes}

unshared_none : (n : ℕ) → unshared (unpaired n) ≡ n
unshared_none zero = refl
unshared_none (suc n) = unshared_alone (unpaired n) ∙ ap suc (unshared_none n)

unshared_set : (R : List (Option ℕ)) (j i : ℕ) → j < length R → get_or R j None ≡ None → unshared R ≡ suc (unshared (set R j (Some i)))
unshared_set R j i h z =
    let f : Option ℕ → ℕ = λ q. cond (is_none q) 1 0 in omega (arith, sum_by-set f R j (Some i) None h, ap f z)

unshared_pairs : (X Y : Bounds) (ps : List ℕ) (R S : List (Option ℕ)) → length R ≡ length Y.lower → length ps % 2 ≡ 0
    → pair_up X Y ps R ≡ matched (Ok tt) S → unshared S * 2 + length ps ≡ unshared R * 2
unfolding pair_up
unshared_pairs X Y [] R S l v e = let p : unshared R ≡ unshared S = λ i. unshared (e i).partners in omega (arith, p)
unshared_pairs X Y (a ∷ []) R S l v e = absurd (omega (arith, v))
unshared_pairs X Y (a ∷ b ∷ ps) R S l v e =
    let t = passed_pair X Y R a b ps S e in
    let c = free_columns (length X.lower) (length Y.lower) R a b t.0 in
    let z : get_or R (b - 1) None ≡ None = free_unset (length X.lower) (length Y.lower) R a b t.0 in
    omega (
      arith,
      unshared_pairs X Y ps (set R (b - 1) (Some (a - 1))) S (length-set R (b - 1) (Some (a - 1)) ∙ l) (omega (arith, v)) t.1,
      unshared_set R (b - 1) (a - 1) (omega (arith, l, c.2, c.3)) z,
    )

pub join_counts : JoinCounts
unfolding joined
join_counts P Q ps B s e =
    let d : MadeOf P Q ps B s = join_makes P Q ps B s e in
    let k : Makes P Q ps B = d.makes in
    let n : s.columns ≡ P.columns + unshared (partners P Q ps) = ap (λ (J : Part). J.columns) d.left in
    let u : unshared (partners P Q ps) * 2 + length ps ≡ unshared (unpaired Q.columns) * 2 =
    unshared_pairs (bounds_of P) (bounds_of Q) ps (unpaired Q.columns) (partners P Q ps)
    (length-replicate Q.columns None ∙ sym (part_fits Q k.second).lower_long) (eqb-true (length ps % 2) 0 k.even) (passes P Q ps B s e) in
    (omega (arith, n, u, unshared_none Q.columns), ap (λ (J : Part). J.rows) d.left)
