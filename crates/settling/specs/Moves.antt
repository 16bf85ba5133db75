-- Document 01, "Moves and settling": the moves over a basis N1 to Nr, which are counted from 0 here.
--   Move            a Ns + b Nt, with a and b of +1 or −1; a single vector has b = 0 (declared in src/)
--   single, pair    the moves of one vector and of two
--   moves r         "Moves in order: +N1, −N1, +N2 and on; then the pairs s < t in rising (s, t), each as ++, +−, −+, −−."
--   singles, pairs k s   of the vectors s and on, k of them; pairs_with k s t, the pairs of s and of those; sign_pairs s t, the four of s and t
--   vector N s      vector s of the basis N, or none
--   change N o j    what the move o adds to column j
--   changes N o j   it changes column j
--   moved N o v     the values after the move
-- Assumes nothing.
use Rattle.std.specs.Prelude.{Bool, not, List, [], ◌∷◌, ◌++◌, ℕ, zero, suc, ℤ, pos, negsuc, ◌+ℤ◌, ◌*ℤ◌, get_or}
use Rattle.whole.specs.Lists.{entry}
use Rattle.whole.specs.Tests.{is_zero}
use Rattle.lattice.specs.Rows.{plus}
use Rattle.settling.specs.declared.Move.{Move}

abbrev pub single : ℕ → ℤ → Move
single s a = record { s = s; a = a; t = s; b = pos 0 }

abbrev pub pair : ℕ → ℤ → ℕ → ℤ → Move
pair s a t b = record { s = s; a = a; t = t; b = b }

unfoldable pub singles : ℕ → ℕ → List Move
singles zero s = []
singles (suc k) s = (single s (pos 1) ∷ single s (negsuc 0) ∷ []) ++ singles k (suc s)

abbrev pub sign_pairs : ℕ → ℕ → List Move
sign_pairs s t = pair s (pos 1) t (pos 1) ∷ pair s (pos 1) t (negsuc 0) ∷ pair s (negsuc 0) t (pos 1) ∷ pair s (negsuc 0) t (negsuc 0) ∷ []

unfoldable pub pairs_with : ℕ → ℕ → ℕ → List Move
pairs_with zero s t = []
pairs_with (suc k) s t = sign_pairs s t ++ pairs_with k s (suc t)

unfoldable pub pairs : ℕ → ℕ → List Move
pairs zero s = []
pairs (suc k) s = pairs_with k s (suc s) ++ pairs k (suc s)

unfoldable pub moves : ℕ → List Move
moves r = singles r 0 ++ pairs r 0

abbrev pub vector : List (List ℤ) → ℕ → List ℤ
vector N s = get_or N s []

abbrev pub change : List (List ℤ) → Move → ℕ → ℤ
change N o j = o.a *ℤ entry j (vector N o.s) +ℤ o.b *ℤ entry j (vector N o.t)

abbrev pub changes : List (List ℤ) → Move → ℕ → Bool
changes N o j = not (is_zero (change N o j))

unfoldable pub moved : List (List ℤ) → Move → List ℤ → List ℤ
moved N o v = plus o.b (vector N o.t) (plus o.a (vector N o.s) v)
