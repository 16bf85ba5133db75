-- Document 02, (ii): the reader's ideals clause by clause, of columns and rows, with no search over them.
--   SharedRow S j h   "a nonzero coefficient in some row with it": such a row of the columns j and h
--   Neighbour S j h   h is one of "all intervals with a goal that have a nonzero coefficient in some row with it", with j
--   Plain S j         "such an interval": j is one, without a goal
--   Apart c l         "each counted once": the columns of the list l are c or later, and each is later than the one before
--   Among h l         h is one of them
--   remainder S l x   what is left of the sum of their ideals once x is taken away for each
--   Mean S j x        x is "the mean, rounded down, of the ideals of all" neighbours of j
--   HandsMean S j     the reader hands in that mean for column j
--   ReaderRule S j    what the reader hands in for column j
--   ReadersRule       so it is for every column of whatever a text states
-- The theorem is `readers_rule`, in proofs/Rule.
-- Assumes nothing.
use Rattle.std.specs.Prelude.{◌≡◌, ◌↔◌, ◌⊎◌, List, [], ◌∷◌, map, ℕ, suc, ◌<◌, ◌≤◌, ℤ, pos, neg_ℤ, ◌+ℤ◌, ◌*ℤ◌, length, ◌≤ℤ◌, ◌<ℤ◌, None, Some}
use Rattle.neighbours.specs.Neighbours.{Stated, ideal_of, total, neighbour_wish}

pub record SharedRow (S : Stated) (j h : ℕ) : Type 0 where
  pub row : ℕ
  pub inside : row < S.rows
  pub first : S.coefficient row j ≡ pos 0 → ⊥
  pub second : S.coefficient row h ≡ pos 0 → ⊥

pub record Neighbour (S : Stated) (j h : ℕ) : Type 0 where
  pub interval : h < S.intervals
  pub goal : S.low h ≡ pos 0 → ⊥
  pub shared : SharedRow S j h

pub record Plain (S : Stated) (j : ℕ) : Type 0 where
  pub interval : j < S.intervals
  pub goal : S.low j ≡ pos 0

-- ---- "each counted once"
abbrev pub Apart : ℕ → List ℕ → Type 0
Apart c [] = Unit {0}
Apart c (h ∷ l) = (c ≤ h) × Apart (suc h) l

abbrev pub Among : ℕ → List ℕ → Type 0
Among h [] = ⊥
Among h (k ∷ l) = (h ≡ k) ⊎ Among h l

-- ---- "the mean, rounded down"
abbrev pub remainder : Stated → List ℕ → ℤ → ℤ
remainder S l x = total (map (ideal_of S) l) +ℤ neg_ℤ x *ℤ pos (length l)

pub record Mean (S : Stated) (j : ℕ) (x : ℤ) : Type 0 where
  pub neighbours : List ℕ
  pub all : (h : ℕ) → Neighbour S j h ↔ Among h neighbours
  pub once : Apart 0 neighbours
  -- what is left is not below 0, and less than there are neighbours
  pub low : pos 0 ≤ℤ remainder S neighbours x
  pub high : remainder S neighbours x <ℤ pos (length neighbours)

pub record HandsMean (S : Stated) (j : ℕ) : Type 0 where
  pub number : ℤ
  pub is : neighbour_wish S j ≡ Some number
  pub mean : Mean S j number

-- ---- the rule
pub record ReaderRule (S : Stated) (j : ℕ) : Type 0 where
  -- "the reader gives such an interval an ideal: the mean .."
  pub mean : Plain S j → (h : ℕ) → Neighbour S j h → HandsMean S j
  -- "It is unset if there are none"
  pub none : ((h : ℕ) → Neighbour S j h → ⊥) → neighbour_wish S j ≡ None
  -- "and for slacks"; nor is one given where there is a goal
  pub other : (Plain S j → ⊥) → neighbour_wish S j ≡ None

abbrev pub ReadersRule : Type 0
ReadersRule = (S : Stated) (j : ℕ) → ReaderRule S j
