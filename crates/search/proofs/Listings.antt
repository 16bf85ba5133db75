-- Which moves are listed: those of one vector, and of two in rising order, each with a sign.
--   Single r o       o is one of r vectors, with a sign
--   Double r o       o is two of them in rising order, each with a sign
--   listed_single, listed_pair   such moves are listed
--   listed_cases     and no others
-- Assumes nothing.
use mathlib.Core.Path.{◌≡◌, refl, sym, subst}
use mathlib.Core.Logic.{◌⊎◌, inl, inr, ⊎_elim}
use mathlib.Core.List.{List, [], ◌∷◌, ◌++◌}
use Prim.Native.Nat.{ℕ, zero, suc, ◌+◌, ◌<◌, ◌≤◌}
use native.Mathlib.Nat.{eq-or-lt_of_le}
use native.Mathlib.Omega.{arith}
use lib.IntN.{ℤ, pos, negsuc}
use Rattle.settling.specs.declared.Move.{Move}
use Rattle.settling.specs.Moves.{single, pair, sign_pairs, singles, pairs_with, pairs, moves}
use Rattle.settling.specs.Verdicts.{Listed}
use Rattle.search.specs.Numbers.{IsSign}

pub record Single (r : ℕ) (o : Move) : Type 0 where
  pub s : ℕ
  pub a : ℤ
  pub inside : s < r
  pub sign : IsSign a
  pub is : o ≡ single s a

pub record Double (r : ℕ) (o : Move) : Type 0 where
  pub s : ℕ
  pub a : ℤ
  pub t : ℕ
  pub b : ℤ
  pub rising : s < t
  pub inside : t < r
  pub sign_a : IsSign a
  pub sign_b : IsSign b
  pub is : o ≡ pair s a t b

-- ---- two lists one after the other
listed_front : (o : Move) (R S : List Move) → Listed o R → Listed o (R ++ S)
listed_front o [] S h = absurd h
listed_front o (u ∷ R) S (inl e) = inl e
listed_front o (u ∷ R) S (inr h) = inr (listed_front o R S h)

listed_back : (o : Move) (R S : List Move) → Listed o S → Listed o (R ++ S)
listed_back o [] S h = h
listed_back o (u ∷ R) S h = inr (listed_back o R S h)

listed_either : {Q : Type 0} (o : Move) (R S : List Move) → (Listed o R → Q) → (Listed o S → Q) → Listed o (R ++ S) → Q
listed_either o [] S f g h = g h
listed_either o (u ∷ R) S f g (inl e) = f (inl e)
listed_either o (u ∷ R) S f g (inr h) = listed_either o R S (λ k. f (inr k)) g h

-- ---- the moves that are listed
in_singles : (k u s : ℕ) (a : ℤ) → u ≤ s → s < u + k → IsSign a → Listed (single s a) (singles k u)
unfolding singles
in_singles zero u s a l h g = absurd (omega arith)
in_singles (suc k) u s a l h g = ⊎_elim here (λ m. inr (inr (in_singles k (suc u) s a m (omega arith) g))) (eq-or-lt_of_le l)
  where
    here : u ≡ s → Listed (single s a) (singles (suc k) u)
    here e = ⊎_elim (λ p. inl (λ i. single (sym e i) (p i))) (λ p. inr (inl (λ i. single (sym e i) (p i)))) g

signs_listed : (s : ℕ) (a : ℤ) (t : ℕ) (b : ℤ) → IsSign a → IsSign b → Listed (pair s a t b) (sign_pairs s t)
signs_listed s a t b (inl p) (inl q) = inl (λ i. pair s (p i) t (q i))
signs_listed s a t b (inl p) (inr q) = inr (inl (λ i. pair s (p i) t (q i)))
signs_listed s a t b (inr p) (inl q) = inr (inr (inl (λ i. pair s (p i) t (q i))))
signs_listed s a t b (inr p) (inr q) = inr (inr (inr (inl (λ i. pair s (p i) t (q i)))))

in_with : (k s u : ℕ) (a : ℤ) (t : ℕ) (b : ℤ) → u ≤ t → t < u + k → IsSign a → IsSign b → Listed (pair s a t b) (pairs_with k s u)
unfolding pairs_with
in_with zero s u a t b l h f g = absurd (omega arith)
in_with (suc k) s u a t b l h f g =
    ⊎_elim
    (λ e. subst (λ (x : ℕ). Listed (pair s a t b) (sign_pairs s x ++ pairs_with k s (suc x))) (sym e)
    (listed_front (pair s a t b) (sign_pairs s t) (pairs_with k s (suc t)) (signs_listed s a t b f g)))
    (λ m. listed_back (pair s a t b) (sign_pairs s u) (pairs_with k s (suc u)) (in_with k s (suc u) a t b m (omega arith) f g))
    (eq-or-lt_of_le l)

in_pairs : (k u s : ℕ) (a : ℤ) (t : ℕ) (b : ℤ) → u ≤ s → s < t → t < u + k → IsSign a → IsSign b → Listed (pair s a t b) (pairs k u)
unfolding pairs
in_pairs zero u s a t b l m h f g = absurd (omega arith)
in_pairs (suc k) u s a t b l m h f g =
    ⊎_elim
    (λ e. subst (λ (x : ℕ). Listed (pair s a t b) (pairs_with k x (suc x) ++ pairs k (suc x))) (sym e)
    (listed_front (pair s a t b) (pairs_with k s (suc s)) (pairs k (suc s)) (in_with k s (suc s) a t b (omega arith) (omega arith) f g)))
    (λ n. listed_back (pair s a t b) (pairs_with k u (suc u)) (pairs k (suc u)) (in_pairs k (suc u) s a t b n m (omega arith) f g))
    (eq-or-lt_of_le l)

pub listed_single : (r s : ℕ) (a : ℤ) → s < r → IsSign a → Listed (single s a) (moves r)
unfolding moves
listed_single r s a h g = listed_front (single s a) (singles r 0) (pairs r 0) (in_singles r 0 s a (omega arith) (omega arith) g)

pub listed_pair : (r s : ℕ) (a : ℤ) (t : ℕ) (b : ℤ) → s < t → t < r → IsSign a → IsSign b → Listed (pair s a t b) (moves r)
unfolding moves
listed_pair r s a t b l h f g =
    listed_back (pair s a t b) (singles r 0) (pairs r 0) (in_pairs r 0 s a t b (omega arith) l (omega arith) f g)

-- ---- and no others
of_singles : (k u r : ℕ) (o : Move) → u + k ≤ r → Listed o (singles k u) → Single r o
unfolding singles
of_singles zero u r o h l = absurd l
of_singles (suc k) u r o h (inl e) = record { s = u; a = pos 1; inside = omega arith; sign = inl refl; is = e }
of_singles (suc k) u r o h (inr (inl e)) = record { s = u; a = negsuc 0; inside = omega arith; sign = inr refl; is = e }
of_singles (suc k) u r o h (inr (inr l)) = of_singles k (suc u) r o (omega arith) l

of_signs : (s t r : ℕ) (o : Move) → s < t → t < r → Listed o (sign_pairs s t) → Double r o
of_signs s t r o h m l = go l
  where
    made : (a b : ℤ) → IsSign a → IsSign b → o ≡ pair s a t b → Double r o
    made a b f g e = record { s = s; a = a; t = t; b = b; rising = h; inside = m; sign_a = f; sign_b = g; is = e }

    go : Listed o (sign_pairs s t) → Double r o
    go (inl e) = made (pos 1) (pos 1) (inl refl) (inl refl) e
    go (inr (inl e)) = made (pos 1) (negsuc 0) (inl refl) (inr refl) e
    go (inr (inr (inl e))) = made (negsuc 0) (pos 1) (inr refl) (inl refl) e
    go (inr (inr (inr (inl e)))) = made (negsuc 0) (negsuc 0) (inr refl) (inr refl) e
    go (inr (inr (inr (inr e)))) = absurd e

of_with : (k s u r : ℕ) (o : Move) → s < u → u + k ≤ r → Listed o (pairs_with k s u) → Double r o
unfolding pairs_with
of_with zero s u r o h m l = absurd l
of_with (suc k) s u r o h m l =
    listed_either o (sign_pairs s u) (pairs_with k s (suc u))
    (of_signs s u r o h (omega arith)) (of_with k s (suc u) r o (omega arith) (omega arith)) l

of_pairs : (k u r : ℕ) (o : Move) → u + k ≤ r → Listed o (pairs k u) → Double r o
unfolding pairs
of_pairs zero u r o h l = absurd l
of_pairs (suc k) u r o h l =
    listed_either o (pairs_with k u (suc u)) (pairs k (suc u))
    (of_with k u (suc u) r o (omega arith) (omega arith)) (of_pairs k (suc u) r o (omega arith)) l

pub listed_cases : (r : ℕ) (o : Move) → Listed o (moves r) → Single r o ⊎ Double r o
unfolding moves
listed_cases r o l =
    listed_either o (singles r 0) (pairs r 0)
    (λ h. inl (of_singles r 0 r o (omega arith) h)) (λ h. inr (of_pairs r 0 r o (omega arith) h)) l
