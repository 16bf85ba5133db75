-- Sets of columns or of vectors, each kept as one number.
--   has w j                 place j is in the set w: binary digit j of w is 1, counted from the lowest
--   first_of w, rest_of w   the least place of a set, and the set without it
--   Taken w s v             the place s is taken out of the word w, its least, and v is left
--   Steps w r v             where a set is gone through, r is its next place, or none once it is empty, and v is left
--   touches N s j           vector s of the basis N changes column j
--   Indexed B S H           S has each vector's set of the columns that it changes, H each column's set of the vectors that change it
--   Held w s l m            m is the list l of sets with the place s added at each place of the set w
--   Blank l                 a list of empty sets
-- Assumes nothing.
use Rattle.std.specs.Prelude.{◌≡◌, Bool, not, ◌&&◌, ◌||◌, List, length, get_or, Option, Some, None}
use Rattle.std.specs.Prelude.{ℕ, zero, suc, ◌-◌, ◌/◌, ◌%◌, ◌^◌, ◌<◌, ltb, eqb, ℤ}
use Rattle.std.specs.Int.Count.{count_trailing_zeros}
use Rattle.whole.specs.Lists.{entry}
use Rattle.whole.specs.Tests.{is_zero}
use Rattle.problem.specs.Limits.{max_columns}
use Rattle.settling.specs.declared.Basis.{Basis}
use Rattle.settling.specs.Moves.{vector}
use Rattle.settling.specs.Views.{vectors}

unfoldable pub has : ℕ → ℕ → Bool
has w zero = eqb (w % 2) 1
has w (suc j) = has (w / 2) j

abbrev pub first_of : ℕ → ℕ
first_of w = count_trailing_zeros 64 w

abbrev pub rest_of : ℕ → ℕ
rest_of w = w - 2 ^ first_of w

pub record Taken (w s v : ℕ) : Type 0 where
  pub word : w < 2 ^ 64
  pub some : 0 < w
  pub first : s ≡ first_of w
  pub rest : v ≡ rest_of w

abbrev pub Steps : ℕ → Option ℕ → ℕ → Type 0
Steps w None v = w ≡ 0
Steps w (Some s) v = Taken w s v

abbrev pub touches : List (List ℤ) → ℕ → ℕ → Bool
touches N s j = not (is_zero (entry j (vector N s)))

pub record Indexed (B : Basis) (supports holders : List ℕ) : Type 0 where
  pub supports_long : length supports ≡ max_columns
  pub holders_long : length holders ≡ max_columns
  pub support : (s : ℕ) → s < B.vectors → (j : ℕ) → has (get_or supports s 0) j ≡ ltb j B.columns && touches (vectors B) s j
  pub holder : (j : ℕ) → j < B.columns → (s : ℕ) → has (get_or holders j 0) s ≡ ltb s B.vectors && touches (vectors B) s j

pub record Held (w s : ℕ) (l m : List ℕ) : Type 0 where
  pub long : length m ≡ length l
  pub each : (j t : ℕ) → has (get_or m j 0) t ≡ has (get_or l j 0) t || (has w j && eqb t s)

pub record Blank (l : List ℕ) : Type 0 where
  pub long : length l ≡ max_columns
  pub none : (j : ℕ) → get_or l j 0 ≡ 0
