-- Laws of lists of whole numbers.
--   take_replicate                        the first of a number repeated
--   take_zeros, drop_zeros, entry_zeros   the first of n zeros, those behind them, and each
--   set_behind                            a number stored in the second of two lists end to end
-- Assumes nothing.
use mathlib.Core.Path.{◌≡◌, refl, ◌∙◌, ap}
use mathlib.Core.List.{List, [], ◌∷◌, ◌++◌}
use Prim.Native.Nat.{ℕ, zero, suc, ◌+◌, ◌-◌, ◌≤◌}
use native.Mathlib.Nat.{zero-add}
use native.Mathlib.Omega.{arith}
use lib.IntN.{ℤ, pos}
use lib.ListN.{length, take, drop, set, replicate}
use Rattle.whole.specs.Lists.{entry, zeros}

pub take_replicate : {A : Type 0} (k n : ℕ) (a : A) → k ≤ n → take k (replicate n a) ≡ replicate k a
take_replicate zero n a h = refl
take_replicate (suc k) zero a h = absurd (omega arith)
take_replicate (suc k) (suc n) a h = ap (λ (r : List _). a ∷ r) (take_replicate k n a (omega arith))

pub take_zeros : (k n : ℕ) → k ≤ n → take k (zeros n) ≡ zeros k
take_zeros k n h = take_replicate k n (pos 0) h

pub drop_zeros : (k n : ℕ) → drop k (zeros n) ≡ zeros (n - k)
drop_zeros zero n = ap zeros {x = n} {y = n - 0} (omega arith)
drop_zeros (suc k) zero = ap zeros {x = 0} {y = 0 - suc k} (omega arith)
drop_zeros (suc k) (suc n) = drop_zeros k n ∙ ap zeros {x = n - k} {y = suc n - suc k} (omega arith)

pub entry_zeros : (i n : ℕ) → entry i (zeros n) ≡ pos 0
entry_zeros i zero = refl
entry_zeros zero (suc n) = refl
entry_zeros (suc i) (suc n) = entry_zeros i n

pub set_behind : (a b : List ℤ) (n i : ℕ) (x : ℤ) → n ≡ length a + i → set (a ++ b) n x ≡ a ++ set b i x
set_behind [] b n i x e = ap (λ (k : ℕ). set b k x) (e ∙ zero-add i)
set_behind (y ∷ a) b zero i x e = absurd (omega arith)
set_behind (y ∷ a) b (suc n) i x e = ap (λ (l : List ℤ). y ∷ l) (set_behind a b n i x (omega arith))
