-- Laws of what holds of every member of a list.
--   all_places              from the places; at a place it is lattice's `all_at`
--   all_set, all_zeros      of a list with a member set; of zeros
--   all_chop, all_flat      of a list cut into rows; of rows put end to end
-- Assumes nothing.
use mathlib.Core.List.{List, [], ◌∷◌}
use Prim.Native.Nat.{ℕ, zero, suc, ◌<◌}
use native.Mathlib.Omega.{arith}
use lib.IntN.{ℤ, pos}
use lib.ListN.{length, get_or, set, take, drop}
use Rattle.whole.specs.Lists.{zeros}
use Rattle.lattice.specs.Rows.{flat, chop}
use Rattle.lattice.specs.Span.{All}
use Rattle.lattice.proofs.Span.{all_append}

pub all_places : {A : Type 0} (Q : A → Type 0) (l : List A) (d : A) → ((j : ℕ) → j < length l → Q (get_or l j d)) → All Q l
all_places Q [] d f = tt
all_places Q (x ∷ l) d f = (f 0 (omega arith), all_places Q l d (λ j h. f (suc j) (omega arith)))

pub all_set : {A : Type 0} (Q : A → Type 0) (l : List A) (i : ℕ) (x : A) → All Q l → Q x → All Q (set l i x)
all_set Q [] i x e q = tt
all_set Q (y ∷ l) zero x e q = (q, e.1)
all_set Q (y ∷ l) (suc i) x e q = (e.0, all_set Q l i x e.1 q)

pub all_zeros : (Q : ℤ → Type 0) (n : ℕ) → Q (pos 0) → All Q (zeros n)
all_zeros Q zero q = tt
all_zeros Q (suc n) q = (q, all_zeros Q n q)

-- ---- rows
all_take : {A : Type 0} (Q : A → Type 0) (n : ℕ) (l : List A) → All Q l → All Q (take n l)
all_take Q zero l e = tt
all_take Q (suc n) [] e = tt
all_take Q (suc n) (x ∷ l) e = (e.0, all_take Q n l e.1)

all_drop : {A : Type 0} (Q : A → Type 0) (n : ℕ) (l : List A) → All Q l → All Q (drop n l)
all_drop Q zero l e = e
all_drop Q (suc n) [] e = tt
all_drop Q (suc n) (x ∷ l) e = all_drop Q n l e.1

pub all_chop : (Q : ℤ → Type 0) (k w : ℕ) (l : List ℤ) → All Q l → All (All Q) (chop k w l)
all_chop Q zero w l e = tt
all_chop Q (suc k) w l e = (all_take Q w l e, all_chop Q k w (drop w l) (all_drop Q w l e))

pub all_flat : (Q : ℤ → Type 0) (A : List (List ℤ)) → All (All Q) A → All Q (flat A)
all_flat Q [] e = tt
all_flat Q (r ∷ A) e = (all_append Q r (flat A)).1 (e.0, all_flat Q A e.1)
