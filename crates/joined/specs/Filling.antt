-- The joined problem's lists as they are filled, number by number: what the loops in src/ carry out.
--   Gives P f                   what a call of two numbers may give by P is what f makes of them
--   taken f q a x               the number at a column's place by its partner q: x of an unshared one; of a shared one f a x
--   absorb_into f l R S C       the second's numbers C, with the partners R, taken at the places S into the list l
--   taken_ideal q g a x         so of ideals, where g is the first's mark
--   absorb_ideals g l R S D C   the second's ideals C and their marks D taken at the places S into the ideals l and their marks g
--   TakesRows n w P             P allows a call on a row of n numbers to be filled and a row of w numbers
--   LaysRows n w P f            what such a call may leave by P is what f makes of the row
--   AllBelow n S                every place of S lies before n
-- Assumes nothing.
use denote.Ref.{Bor, MutBor}
use Rattle.std.specs.Prelude.{◌≡◌, cond, List, [], ◌∷◌, ℕ, ◌<◌, ℤ, length, get_or, set, FitsSigned, Option, Some, None}
use Rattle.std.specs.Int.{w64}
use Rattle.whole.specs.Lists.{entry}
use Rattle.whole.specs.Tests.{is_zero}
use Rattle.joined.specs.Columns.{set_first}

-- a call's arguments and its result are numbers of 64 bits
abbrev pub Gives : (ℤ → ℤ → ℤ → Type 0) → (ℤ → ℤ → ℤ) → Type 0
Gives P f = (a b r : ℤ) → FitsSigned w64 a → FitsSigned w64 b → P a b r → r ≡ f a b

abbrev pub taken : (ℤ → ℤ → ℤ) → Option ℕ → ℤ → ℤ → ℤ
taken f None a x = x
taken f (Some i) a x = f a x

unfoldable pub absorb_into : (ℤ → ℤ → ℤ) → List ℤ → List (Option ℕ) → List ℕ → List ℤ → List ℤ
absorb_into f l [] S C = l
absorb_into f l (q ∷ R) [] C = l
absorb_into f l (q ∷ R) (p ∷ S) [] = l
absorb_into f l (q ∷ R) (p ∷ S) (x ∷ C) = absorb_into f (set l p (taken f q (entry p l) x)) R S C

abbrev pub taken_ideal : Option ℕ → ℤ → ℤ → ℤ → ℤ
taken_ideal None g a x = x
taken_ideal (Some i) g a x = cond (is_zero g) x a

unfoldable pub absorb_ideals : List ℤ → List ℤ → List (Option ℕ) → List ℕ → List ℤ → List ℤ → List ℤ
absorb_ideals g l [] S D C = l
absorb_ideals g l (q ∷ R) [] D C = l
absorb_ideals g l (q ∷ R) (p ∷ S) [] C = l
absorb_ideals g l (q ∷ R) (p ∷ S) (y ∷ D) [] = l
absorb_ideals g l (q ∷ R) (p ∷ S) (y ∷ D) (x ∷ C) =
    absorb_ideals (set g p (taken set_first q (entry p g) y)) (set l p (taken_ideal q (entry p g) (entry p l) x)) R S D C

-- of a call that lays a row into another: what it may take, and what it may leave
abbrev pub TakesRows : ℕ → ℕ → (MutBor (List ℤ) → Bor (List ℤ) → Type 0) → Type 0
TakesRows n w P = (out : MutBor (List ℤ)) (row : Bor (List ℤ)) → length out.now ≡ n → length row.now ≡ w → P out row

abbrev pub LaysRows : ℕ → ℕ → (MutBor (List ℤ) → Bor (List ℤ) → Unit {0} → MutBor (List ℤ) → Type 0) → (List ℤ → List ℤ) → Type 0
LaysRows n w P f = (out : MutBor (List ℤ)) (row : Bor (List ℤ)) (after : MutBor (List ℤ)) → length out.now ≡ n → length row.now ≡ w
    → P out row tt after → after.now ≡ f row.now

pub record AllBelow (n : ℕ) (S : List ℕ) : Type 0 where
  pub below : (j : ℕ) → j < length S → get_or S j 0 < n
