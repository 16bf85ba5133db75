-- Laws of `every` for a loop that counts i up to n and leaves at the first place where the test f fails.
--   SoFar n f i   what the loop knows before place i: f holds at the places passed
--   starts        it knows that at 0
--   goes_on       and at i + 1, where f holds at i
--   ends          past the last place f holds at every one
--   fails         where f fails at i, it does not
--   every_at      where f holds at every place, it holds at each
--   every_all     and the other way round
--   every_not     where f fails at some place, it does not hold at every one
--   every_list    a test of a list's numbers holds at every place where it holds of each
--   every_same    tests that agree below n hold at every one of its places alike
-- Assumes nothing.
use mathlib.Core.Path.{◌≡◌, refl, sym, ◌∙◌, ap, ap₂, subst}
use mathlib.Core.List.{List, [], ◌∷◌}
use lib.ListN.{length, get_or}
use Rattle.std.specs.List.{list_all}
use mathlib.Core.Bool.{Bool, true, false, ◌&&◌, and-false, and-true, and_assoc, true≢false}
use mathlib.Core.Logic.{⊎_elim}
use Prim.Native.Nat.{ℕ, zero, suc, ◌+◌, ◌≤◌, ◌<◌}
use native.Mathlib.Nat.{le_antisymm, eq-or-lt_of_le, le_of_suc-le-suc, not-suc-le-zero}
use native.Mathlib.Numerals.{add-one}
use native.Mathlib.Omega.{arith}
use Rattle.whole.specs.Tests.{every}

pub record SoFar (n : ℕ) (f : ℕ → Bool) (i : ℕ) : Type 0 where
  pub within : i ≤ n
  pub held : every i f ≡ true

pub starts : (n : ℕ) (f : ℕ → Bool) → SoFar n f 0
unfolding every
starts n f = record { within = omega arith; held = refl }

one_more : (i : ℕ) (f : ℕ → Bool) → every i f ≡ true → f i ≡ true → every (i + 1) f ≡ true
unfolding every
one_more i f a b = rw (add-one, a, b)

pub goes_on : {n : ℕ} {f : ℕ → Bool} {i : ℕ} → SoFar n f i → i < n → f i ≡ true → SoFar n f (i + 1)
goes_on {n} {f} {i} s l e = record { within = omega arith; held = one_more i f s.held e }

pub ends : {n : ℕ} {f : ℕ → Bool} {i : ℕ} → SoFar n f i → n ≤ i → every n f ≡ true
ends {n} {f} {i} s l = subst (λ (k : ℕ). every k f ≡ true) (le_antisymm s.within l) s.held

pub every_not : (n : ℕ) (f : ℕ → Bool) (i : ℕ) → i < n → f i ≡ false → every n f ≡ false
unfolding every
every_not zero f i l e = absurd (not-suc-le-zero l)
every_not (suc n) f i l e =
    ⊎_elim
    (λ p. rw (← p, e) (and-false (every i f)))
    (λ p. rw (every_not n f i p e))
    (eq-or-lt_of_le (le_of_suc-le-suc l))

pub fails : {n : ℕ} {f : ℕ → Bool} {i : ℕ} → SoFar n f i → i < n → f i ≡ false → every n f ≡ false
fails {n} {f} {i} s l e = every_not n f i l e

pub every_at : (n : ℕ) (f : ℕ → Bool) (i : ℕ) → every n f ≡ true → i < n → f i ≡ true
every_at n f i e l = go (f i) refl
  where
    go : (t : Bool) → f i ≡ t → f i ≡ true
    go true h = h
    go false h = absurd (true≢false (sym e ∙ every_not n f i l h))

pub every_all : (n : ℕ) (f : ℕ → Bool) → ((i : ℕ) → i < n → f i ≡ true) → every n f ≡ true
unfolding every
every_all zero f h = refl
every_all (suc n) f h = ap₂ ◌&&◌ (every_all n f (λ i l. h i (omega arith))) (h n (omega arith))

pub every_same : (n : ℕ) (f g : ℕ → Bool) → ((i : ℕ) → i < n → f i ≡ g i) → every n f ≡ every n g
unfolding every
every_same zero f g h = refl
every_same (suc n) f g h = ap₂ ◌&&◌ (every_same n f g (λ i l. h i (omega arith))) (h n (omega arith))

-- the first place apart
every_front : (n : ℕ) (f : ℕ → Bool) → every (suc n) f ≡ f 0 && every n (λ i. f (suc i))
unfolding every
every_front zero f = sym (and-true (f 0))
every_front (suc n) f = ap (λ b. b && f (suc n)) (every_front n f) ∙ and_assoc (f 0) (every n (λ i. f (suc i))) (f (suc n))

pub every_list : {X : Type 0} (f : X → Bool) (d : X) (l : List X) → every (length l) (λ i. f (get_or l i d)) ≡ list_all f l
unfolding every
every_list f d [] = refl
every_list f d (x ∷ xs) = every_front (length xs) (λ i. f (get_or (x ∷ xs) i d)) ∙ ap (λ b. f x && b) (every_list f d xs)
