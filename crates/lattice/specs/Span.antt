-- The integer row span of a table, and the elementary row steps.
--   All Q T             every element of the list T, a row of a table mostly, has the property Q
--   Len n r             r has n numbers
--   Span T v            some whole multiples of T's rows, added to v, give zeros: v lies in the row span of T
--   Same n T U          T and U span the same lists of n numbers
--   Independent n T     of n columns: only 0 times a row lies in the span of the rows below it
--   T ~ U               U comes from T by elementary row steps: exchange of neighbours, negation, adding a multiple of a row to the next one
-- Assumes nothing.
use Rattle.std.specs.Prelude.{◌≡◌, ◌↔◌, List, [], ◌∷◌, ℕ, length, ℤ, pos}
use Rattle.whole.specs.Lists.{zeros}
use Rattle.lattice.specs.Rows.{plus, neg, Zero}

abbrev pub All : {A : Type 0} → (A → Type 0) → List A → Type 0
All Q [] = Unit {0}
All Q (r ∷ T) = Q r × All Q T

abbrev pub Len : ℕ → List ℤ → Type 0
Len n r = length r ≡ n

abbrev pub Span : List (List ℤ) → List ℤ → Type 0
Span [] v = Zero v
Span (r ∷ T) v = (c : ℤ) × Span T (plus c r v)

pub record Same (n : ℕ) (T U : List (List ℤ)) : Type 0 where
  pub both : (v : List ℤ) → length v ≡ n → Span T v ↔ Span U v

abbrev pub Independent : ℕ → List (List ℤ) → Type 0
Independent n [] = Unit {0}
Independent n (r ∷ T) = ((c : ℤ) → Span T (plus c r (zeros n)) → c ≡ pos 0) × Independent n T

infixl 20 ◌then◌
infix 4 ◌~◌
pub data ◌~◌ : List (List ℤ) → List (List ℤ) → Type 0 where
  same : {T : List (List ℤ)} → T ~ T
  ◌then◌ : {T U W : List (List ℤ)} → T ~ U → U ~ W → T ~ W
  under : {T U : List (List ℤ)} (r : List ℤ) → T ~ U → (r ∷ T) ~ (r ∷ U)
  swap : {T : List (List ℤ)} (r s : List ℤ) → (r ∷ s ∷ T) ~ (s ∷ r ∷ T)
  sign : {T : List (List ℤ)} (r : List ℤ) → (r ∷ T) ~ (neg r ∷ T)
  add : {T : List (List ℤ)} (q : ℤ) (r s : List ℤ) → (r ∷ s ∷ T) ~ (r ∷ plus q r s ∷ T)
