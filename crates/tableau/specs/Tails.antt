-- What the functions on the rows from row k on ask and what they leave. A tail is those rows in one list.
--   Tail k w c t         t is k rows of w numbers within ±M, each 0 before column c
--   Picked k w c t j     row j of t is gathering's choice at column c
--   lower_first w j t    t with its first row in the place of row j too
--   brought w j t        t with its first row and row j swapped
--   lifted_row w c j t   row j, negated if its entry is negative
--   Lifted               the row that is brought to the top, and the tail then
--   Gathers              what a function that gathers, and stops at a number beyond ±M, answers and leaves
--   Counts k r           what a function that counts k rounds answers, r, where it meets no number beyond ±M
--   round_of, gathering_of   a round, and gathering, of a tail; gathering_rounds_of, its rounds
-- Assumes nothing.
use Rattle.std.specs.Prelude.{◌≡◌, List, ◌∷◌, ◌++◌, ℕ, ◌+◌, ◌*◌, ◌-◌, ◌<◌, ℤ, length, take, drop, Result, Ok, Err}
use Rattle.whole.specs.Lists.{entry}
use Rattle.lattice.specs.Rows.{ZeroTo, flat, chop}
use Rattle.lattice.specs.Span.{All}
use Rattle.tableau.specs.Elimination.{Gathered, signed, round}
use Rattle.tableau.specs.Gathering.{Chosen, gathering, gathering_rounds}
use Rattle.tableau.specs.RowSteps.{Stops}
use Rattle.tableau.specs.Within.{Within}
use Rattle.tableau.specs.declared.Beyond.{Beyond}

pub record Tail (k w c : ℕ) (t : List ℤ) : Type 0 where
  pub wide : length t ≡ k * w
  pub column : c < w
  pub small : Within t
  pub front : All (ZeroTo c) (chop k w t)

pub record Picked (k w c : ℕ) (t : List ℤ) (j : ℕ) : Type 0 where
  pub some : 0 < k
  pub size : ℕ
  pub is : Chosen w c (take w t) (chop (k - 1) w (drop w t)) j size

abbrev pub lower_first : ℕ → ℕ → List ℤ → List ℤ
lower_first w j t = take (j * w) t ++ (take w t ++ drop (j * w + w) t)

abbrev pub brought : ℕ → ℕ → List ℤ → List ℤ
brought w j t = take w (drop (j * w) t) ++ drop w (lower_first w j t)

abbrev pub lifted_row : ℕ → ℕ → ℕ → List ℤ → List ℤ
lifted_row w c j t = signed (entry c (take w (drop (j * w) t))) (take w (drop (j * w) t))

-- the pivot r and the tail u after row j is taken out, its place filled, and brought to the top
pub record Lifted (c j w : ℕ) (t r u : List ℤ) : Type 0 where
  pub pivot : r ≡ lifted_row w c j t
  pub tail : u ≡ r ++ drop w (lower_first w j t)

-- what a function answers, r, and leaves in the tail, t, and in the pivot, p: where no number beyond ±M is met, what is gathered
abbrev pub Gathers : {A : Type 0} → Gathered → Result A Beyond → List ℤ → List ℤ → Type 0
Gathers g r t p = Stops g.over ((t ≡ flat (g.pivot ∷ g.below)) × (p ≡ g.pivot)) r

abbrev pub Counts : ℕ → Result ℕ Beyond → Type 0
Counts k (Ok n) = n ≡ k
Counts k (Err e) = Unit {0}

abbrev pub round_of : ℕ → ℕ → ℕ → List ℤ → Gathered
round_of k w c t = round c (take w t) (chop (k - 1) w (drop w t))

abbrev pub gathering_of : ℕ → ℕ → ℕ → List ℤ → Gathered
gathering_of k w c t = gathering c (take w t) (chop (k - 1) w (drop w t))

abbrev pub gathering_rounds_of : ℕ → ℕ → ℕ → List ℤ → ℕ
gathering_rounds_of k w c t = gathering_rounds c (take w t) (chop (k - 1) w (drop w t))
