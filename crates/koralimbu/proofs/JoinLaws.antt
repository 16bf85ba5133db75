-- What the proof of the call that joins two parts cites.
--   lists_same     lists of the same numbers are the same
--   returned_in    what is returned with lists of the same numbers
-- Assumes nothing.
use mathlib.Core.Path.{◌≡◌, ◌∙◌, ap}
use mathlib.Core.List.{List}
use Prim.Native.Nat.{ℕ}
use lib.IntN.{ℤ}
use Rattle.pairing.specs.Parts.{Lists, lists}
use Rattle.koralimbu.specs.Joins.{JoinCalled, join_returned}

pub lists_same : {a b l h m g i d a' b' l' h' m' g' i' d' : List ℤ} → a ≡ a' → b ≡ b' → l ≡ l' → h ≡ h' → m ≡ m' → g ≡ g' → i ≡ i' → d ≡ d'
    → lists a b l h m g i d ≡ lists a' b' l' h' m' g' i' d'
lists_same p q r s t u v w = λ k. lists (p k) (q k) (r k) (s k) (t k) (u k) (v k) (w k)

pub returned_in : {k : ℕ} {z : List ℕ} {L M : Lists} {d : JoinCalled} → join_returned k M z ≡ d → L ≡ M → join_returned k L z ≡ d
returned_in {k} {z} e l = ap (λ (B : Lists). join_returned k B z) l ∙ e
