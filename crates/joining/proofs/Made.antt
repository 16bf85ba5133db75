-- What a join has that is not refused.
--   pairs_found         the partners that the pairs leave are ready, where none is refused
--   room_fits           the joined sizes and the lent lists fit, where neither is a cause
--   Makes P Q ps B      the parts pass, the list of pairs is even and leaves partners that are ready, and the joined sizes and the lent lists fit
--   cause_makes         so it is where no cause is named
--   MadeOf P Q ps B s   so it is, and what is left is the joined problem, of the sizes s
--   join_makes          so it is of a join that is made
-- Assumes nothing.
use mathlib.Core.Path.{◌≡◌, refl, sym}
use mathlib.Core.Bool.{true}
use mathlib.Core.List.{List}
use Prim.Native.Nat.{ℕ, ◌%◌}
use lib.Dec.{eqb}
use lib.ListN.{length}
use Rattle.whole.proofs.Never.{never}
use Rattle.problem.specs.Limits.{max_columns, max_rows}
use Rattle.problem.specs.Checks.{sizes_fit, or_next}
use Rattle.problem.specs.declared.Problem.{Problem}
use Rattle.problem.specs.declared.Refusal.TheVariants.{Size, Length}
use Rattle.problem.specs.Checks.{Check}
use Rattle.std.specs.Prelude.{Ok, Err}
use Rattle.pairing.specs.declared.Sizes.{Sizes}
use Rattle.pairing.specs.Parts.{Lists, Part, part_of, lists_fit, part_cause}
use Rattle.pairing.specs.Pairs.{matched}
use Rattle.pairing.proofs.Partners.{Partners, passed_next, pairs_ready}
use Rattle.joined.specs.Joined.{joined}
use Rattle.joined.proofs.Passing.{PartPasses, part_passes, part_fits}
use Rattle.joining.specs.Join.{Joining, on_passed, pairing, partners, joined_sizes, room_cause, join_cause, left_by, join, outcome}

-- ---- the checks
on_passed_lem : (c next : Check) → on_passed c next ≡ Ok tt → (c ≡ Ok tt) × (next ≡ Ok tt)
on_passed_lem (Ok u) next e = (refl, e)
on_passed_lem (Err why) next e = never (cc)

pub pairs_found : (P Q : Part) (ps : List ℕ) → PartPasses P → PartPasses Q → (pairing P Q ps).found ≡ Ok tt → Partners P Q (partners P Q ps)
unfolding pairing
pairs_found P Q ps p q e =
    pairs_ready P Q (part_fits P p).lower_long (part_fits Q q).lower_long ps (partners P Q ps) (λ i. matched (e i) (partners P Q ps))

pub room_fits : (p : Problem) (B : Lists) → room_cause p B ≡ Ok tt → (sizes_fit max_columns max_rows p ≡ true) × (lists_fit p B ≡ true)
room_fits p B e =
    let a = passed_next (sizes_fit max_columns max_rows p) Size (or_next (lists_fit p B) Length (Ok tt)) e in
    (a.0, (passed_next (lists_fit p B) Length (Ok tt) a.1).0)

-- ---- the join
pub record Makes (P Q : Part) (ps : List ℕ) (B : Lists) : Type 0 where
  pub first : PartPasses P
  pub second : PartPasses Q
  pub even : eqb (length ps % 2) 0 ≡ true
  pub found : (pairing P Q ps).found ≡ Ok tt
  pub ready : Partners P Q (partners P Q ps)
  pub sizes : sizes_fit max_columns max_rows (joined_sizes P Q (partners P Q ps)) ≡ true
  pub lent : lists_fit (joined_sizes P Q (partners P Q ps)) B ≡ true

pub cause_makes : (P Q : Part) (ps : List ℕ) (B : Lists) → join_cause P Q ps B ≡ Ok tt → Makes P Q ps B
unfolding join_cause
cause_makes P Q ps B e =
    let a = on_passed_lem (part_cause P) _ e in
    let b = on_passed_lem (part_cause Q) _ a.1 in
    let c = passed_next (eqb (length ps % 2) 0) Length _ b.1 in
    let d = on_passed_lem (pairing P Q ps).found _ c.1 in
    let r = room_fits (joined_sizes P Q (partners P Q ps)) B d.1 in
    let p : PartPasses P = part_passes P a.0 in
    let q : PartPasses Q = part_passes Q b.0 in
    record {
      first = p;
      second = q;
      even = c.0;
      found = d.0;
      ready = pairs_found P Q ps p q d.0;
      sizes = r.0;
      lent = r.1;
    }

pub record MadeOf (P Q : Part) (ps : List ℕ) (B : Lists) (s : Sizes) : Type 0 where
  pub makes : Makes P Q ps B
  pub left : outcome P Q ps B s ≡ joined P Q (partners P Q ps)

pub join_makes : (P Q : Part) (ps : List ℕ) (B : Lists) (s : Sizes) → (join P Q ps B).answer ≡ Ok s → MadeOf P Q ps B s
unfolding join
join_makes P Q ps B s = go (join_cause P Q ps B) refl
  where
    J : Part
    J = joined P Q (partners P Q ps)

    sizes_of : Joining → Sizes
    sizes_of (Err why) = record { columns = 0; rows = 0 }
    sizes_of (Ok z) = z

    go : (c : Check) → join_cause P Q ps B ≡ c → (left_by c J B).answer ≡ Ok s → MadeOf P Q ps B s
    go (Err why) e h = never (cc)
    go (Ok u) e h = record {
      makes = cause_makes P Q ps B e;
      left = λ i. part_of (sizes_of (sym h i)) (left_by (e i) J B).lists;
    }
