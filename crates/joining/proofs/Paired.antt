-- A join whose parts pass: what its parts have, and what is left once the pairs are looked at.
--   part_long, part_few   the lengths of a part's lists, and its sizes
--   pairing_of         the pairs, looked at from an array of partners that are none
--   partners_of        the partners that they leave, where none is refused
--   none_below         the places of the second's columns are places of the joined ones
--   join_rest          what is left of the joined problem is what is left of the join
-- Assumes nothing.
use mathlib.Core.Path.{◌≡◌, refl, sym, ◌∙◌, ap, subst}
use mathlib.Core.Bool.{true}
use mathlib.Core.List.{List}
use Prim.Native.Nat.{ℕ, ◌+◌, ◌%◌, ◌≤◌}
use lib.Dec.{eqb}
use lib.ListN.{length, take, replicate}
use Rattle.std.specs.Prelude.{Option, None, Ok, Err}
use Rattle.whole.proofs.Lists.{take_replicate}
use Rattle.problem.specs.Limits.{max_columns, max_rows}
use Rattle.problem.specs.Checks.{Check}
use Rattle.pairing.specs.declared.Sizes.{Sizes}
use Rattle.pairing.specs.Parts.{Lists, Part, part_of, part_cause}
use Rattle.pairing.specs.Pairs.{bounds_of, matched, pair_up}
use Rattle.pairing.proofs.Partners.{Partners}
use Rattle.joined.specs.Columns.{places, joined_count}
use Rattle.joined.specs.Filling.{AllBelow}
use Rattle.joined.proofs.Passing.{PartFits, part_passes, part_fits}
use Rattle.joined.proofs.SpreadRows.{places_below}
use Rattle.joining.specs.Join.{pairing, partners, joined_sizes, room_cause, left, left_by, join}
use Rattle.joining.specs.Filled.{Long, filled, left_paired}
use Rattle.joining.proofs.Causes.{join_refused, join_made, past_pairs}
use Rattle.joining.proofs.Made.{cause_makes, pairs_found}
use Rattle.joining.proofs.Filled.{lists_filled}

-- ---- one part
part_has : (s : Sizes) (l : Lists) → part_cause (part_of s l) ≡ Ok tt → PartFits (part_of s l)
part_has s l e = part_fits (part_of s l) (part_passes (part_of s l) e)

pub part_long : (s : Sizes) (l : Lists) → part_cause (part_of s l) ≡ Ok tt → Long s.columns s.rows l
part_long s l e =
    let f : PartFits (part_of s l) = part_has s l e in
    record {
      coefficients = f.coefficients_long;
      rights = f.rights_long;
      lower = f.lower_long;
      upper = f.upper_long;
      low = f.low_long;
      high = f.high_long;
      given = f.given_long;
      ideals = f.ideals_long;
    }

pub part_few : (s : Sizes) (l : Lists) → part_cause (part_of s l) ≡ Ok tt → (s.columns ≤ max_columns) × (s.rows ≤ max_rows)
part_few s l e = let f : PartFits (part_of s l) = part_has s l e in (f.few_columns, f.few_rows)

-- ---- the pairs
pub pairing_of : (P Q : Part) (ps : List ℕ) {r : Check} {R : List (Option ℕ)} → Q.columns ≤ max_columns
    → matched r R ≡ pair_up (bounds_of P) (bounds_of Q) ps (take Q.columns (replicate 48 None)) → pairing P Q ps ≡ matched r R
unfolding pairing
pairing_of P Q ps h e = sym (e ∙ ap (pair_up (bounds_of P) (bounds_of Q) ps) (take_replicate Q.columns 48 None h))

module _ (P Q : Part) (ps : List ℕ) (p : part_cause P ≡ Ok tt) (q : part_cause Q ≡ Ok tt) {R : List (Option ℕ)}
    (e : pairing P Q ps ≡ matched (Ok tt) R) where
  found : (pairing P Q ps).found ≡ Ok tt
  found = λ i. (e i).found

  same : partners P Q ps ≡ R
  same = λ i. (e i).partners

  pub partners_of : Partners P Q R
  partners_of = subst (Partners P Q) same (pairs_found P Q ps (part_passes P p) (part_passes Q q) found)

  pub none_below : AllBelow (joined_count P R) (places P R)
  none_below = (places_below P Q R partners_of).0

  pub join_rest : (B : Lists) → eqb (length ps % 2) 0 ≡ true → left_paired P Q R B ≡ join P Q ps B
  join_rest B l = ap (λ (S : List (Option ℕ)). left_paired P Q S B) (sym same) ∙ go (room_cause (joined_sizes P Q (partners P Q ps)) B) refl
    where
      J : Part
      J = filled P Q (partners P Q ps) B

      go : (c : Check) → room_cause (joined_sizes P Q (partners P Q ps)) B ≡ c → left_by c J B ≡ join P Q ps B
      go (Err why) h = join_refused P Q ps B refl (past_pairs P Q ps B p q l found ∙ h)
      go (Ok u) h =
          let k = past_pairs P Q ps B p q l found ∙ h in
          ap (left (Ok (record { columns = joined_count P (partners P Q ps); rows = P.rows + Q.rows })))
          (lists_filled P Q ps B (cause_makes P Q ps B k))
          ∙ join_made P Q ps B k
