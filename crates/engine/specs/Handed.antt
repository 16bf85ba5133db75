-- Document 02, (ii), of the ideals that are handed in: "Any number may be handed in as an ideal: it is used only without a goal, and brought into the
-- bounds."
--   ButIdeals P Q    P and Q are one problem but for what their two lists of ideals hold
--   brought_in lo hi w   what is handed in, brought into the bounds; nothing stays nothing, since "unset" is no number
--   SameUse P Q      at each column without a goal it comes to the same for both
--   IdealsUsed       then whole assignments do the same
--   Unread P Q       Continue and the preview do the same for both
--   IdealsUnread     so it is with whatever ideals
-- The theorems are `ideals_used` and `ideals_unread`, in proofs/Handed.
-- Assumes nothing.
use Rattle.std.specs.Prelude.{◌≡◌, true, List, ℕ, ℤ, length, Some, None}
use Rattle.whole.specs.Lists.{entry}
use Rattle.whole.specs.Tests.{is_zero}
use Rattle.problem.specs.Checks.{Posed}
use Rattle.goals.specs.Wishes.{Wish, into}
use Rattle.engine.specs.Assign.{Buffers, assign, continue}
use Rattle.engine.specs.Demand.{handed_in}
use Rattle.engine.specs.Preview.{preview}

pub record ButIdeals (P Q : Posed) : Type 0 where
  pub problem : P.problem ≡ Q.problem
  pub coefficients : P.coefficients ≡ Q.coefficients
  pub rights : P.rights ≡ Q.rights
  pub lower : P.lower ≡ Q.lower
  pub upper : P.upper ≡ Q.upper
  pub low : P.low ≡ Q.low
  pub high : P.high ≡ Q.high
  pub given_long : length P.given ≡ length Q.given
  pub ideals_long : length P.ideals ≡ length Q.ideals

-- ---- "it is used only without a goal, and brought into the bounds"
abbrev pub brought_in : ℤ → ℤ → Wish → Wish
brought_in lo hi None = None
brought_in lo hi (Some x) = Some (into lo hi x)

abbrev pub SameUse : Posed → Posed → Type 0
SameUse P Q =
    (j : ℕ) → is_zero (entry j P.low) ≡ true
    → brought_in (entry j P.lower) (entry j P.upper) (handed_in P j) ≡ brought_in (entry j Q.lower) (entry j Q.upper) (handed_in Q j)

abbrev pub IdealsUsed : Type 0
IdealsUsed = (P Q : Posed) → ButIdeals P Q → SameUse P Q → (B : Buffers) → assign P B ≡ assign Q B

-- ---- they take no seat
pub record Unread (P Q : Posed) : Type 0 where
  pub continues : (B : Buffers) → continue P B ≡ continue Q B
  pub previews : (v : List ℤ) (B : Buffers) → preview P v B ≡ preview Q v B

abbrev pub IdealsUnread : Type 0
IdealsUnread = (P Q : Posed) → ButIdeals P Q → Unread P Q
