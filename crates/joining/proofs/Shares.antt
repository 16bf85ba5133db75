-- What a join that is made promises.
--   part_causes    the causes that turn a part back are those of a call's problem, where the call's own buffers and its limit are right
--   join_shares    "A list satisfies the joined rows and bounds exactly when its two shares satisfy their own."
--   join_fits      the joined problem is ready for a call
-- Assumes nothing.
use mathlib.Core.Path.{◌≡◌, sym, ◌∙◌, ap, subst}
use Prim.Native.Nat.{ℕ}
use Rattle.problem.specs.Checks.{lent_fit, limit_fits, or_next, first_cause}
use Rattle.problem.specs.declared.Lent.{Lent}
use Rattle.problem.specs.declared.Refusal.TheVariants.{Length, Limit}
use Rattle.std.specs.Prelude.{Ok}
use Rattle.pairing.specs.Parts.{Part, sized, as_posed, part_cause}
use Rattle.joined.specs.Joined.{joined}
use Rattle.joined.proofs.Passing.{PartPasses, room_right}
use Rattle.joined.proofs.Shares.{joined_shares}
use Rattle.joined.proofs.Fitting.{joined_passes}
use Rattle.joining.specs.Join.{partners, outcome}
use Rattle.joining.specs.Shares.{PartCauses, JoinShares, JoinFits}
use Rattle.joining.proofs.Made.{Makes, MadeOf, join_makes}

pub part_causes : PartCauses
unfolding first_cause part_cause
part_causes P limit L e f = rw (e, f, room_right (sized P.columns P.rows 0))

-- a part that passes, as a call takes it
passes_call : (P : Part) → PartPasses P → (limit : ℕ) (L : Lent)
    → first_cause (as_posed P limit) L
    ≡ or_next (lent_fit (sized P.columns P.rows limit) L) Length (or_next (limit_fits (sized P.columns P.rows limit)) Limit (Ok tt))
unfolding first_cause
passes_call P f limit L = rw (f.sizes, f.row_lengths, f.column_lengths, f.ideal_lengths, f.rows, f.bounds, f.goals)

pub join_shares : JoinShares
unfolding joined
join_shares P Q ps B s e x l =
    let d : MadeOf P Q ps B s = join_makes P Q ps B s e in
    let k : Makes P Q ps B = d.makes in
    rw d.left (joined_shares P Q (partners P Q ps) k.first k.second k.ready x (l ∙ ap (λ (J : Part). J.columns) d.left))

pub join_fits : JoinFits
join_fits P Q ps B s e =
    let d : MadeOf P Q ps B s = join_makes P Q ps B s e in
    let k : Makes P Q ps B = d.makes in
    passes_call (outcome P Q ps B s)
    (subst PartPasses (sym d.left) (joined_passes P Q (partners P Q ps) k.first k.second k.ready k.sizes))
