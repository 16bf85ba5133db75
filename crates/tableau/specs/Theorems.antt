-- The theorems on the tableau and the right side, over unbounded whole numbers.
--   Eliminated n T F    F is what elimination leaves of a table T of n columns: a Hermite form with the table's span
--   GatheringEnds       the rounds of a column end
--   EliminationForm     elimination keeps the row span and leaves a Hermite form
--   FormUnique          a span has one Hermite form
--   ReducedUnique       a coset has one reduced list
--   EliminationUnique   elimination of two tables leaves the same exactly when they span the same lists
--   ReachedTells        what generator rows and a right side find tells the set of lists that they reach
--   ReachedSame         two of them find the same exactly when they reach the same lists
--   ProblemForm         a problem's tableau comes into its Hermite form
--   ProblemCount, -Wide it has a row of m + n numbers for each column
--   ProblemRising       the form's leads rise
--   ProblemBasis        each vector of the basis has n numbers and a lead above 0
--   BasisRising         and their leads rise
--   SolveTells          what a problem finds tells the set of lists that satisfy its rows
--   SolveSome           these lists are the starting list and the whole combinations of the basis added to it
--   SolveNone           there is no such list exactly when "none" is found
--   SolveSame           two problems find the same exactly when the same lists satisfy their rows
--   ColumnRounds        the rounds of a column are at most the bit length of its first pivot
--   EliminationRounds   those of a table within ±M at most 31 for each row, where no subtraction leaves a number beyond ±M
--   FormRounds          those of a problem's tableau at most 31 for each column of the problem, under the same conditions
--   QuotientUnchanged   elimination leaves the same table, whichever quotient gathering takes of those that leave less than the pivot
-- The terms: Span, Same, Independent (lattice, Span); Echelon, Led, Rising, Hermite, Reduced (lattice, Hermite); Describes (lattice, Coset);
-- Satisfies (lattice, Sums); Generators, Reaches, Tells, Sized (Generators); Chosen, Alone, Shrinks (Gathering). Each is proved in
-- proofs/Theorems, under its name in small letters, as `gathering_ends`.
-- Assumes nothing.
use Rattle.std.specs.Prelude.{◌≡◌, ◌↔◌, Bool, false, List, ℕ, ◌+◌, ◌*◌, ◌<◌, ◌≤◌, ℤ, length}
use Rattle.lattice.specs.Rows.{minus}
use Rattle.lattice.specs.Sums.{Satisfies}
use Rattle.lattice.specs.Span.{All, Len, Span, Same, Independent}
use Rattle.lattice.specs.Hermite.{Echelon, width, rows, Led, Rising, Reduced, Hermite}
use Rattle.tableau.specs.Table.{tableau}
use Rattle.tableau.specs.Elimination.{at, choose, gather, eliminate_by, eliminate}
use Rattle.tableau.specs.RoundCount.{column_rounds, first_bits, rounds, form_rounds}
use Rattle.tableau.specs.Within.{Within}
use Rattle.tableau.specs.RightSide.{basis, none, some, right_side, form, solve}
use Rattle.tableau.specs.Generators.{Generators, Reaches, Tells, Sized}
use Rattle.tableau.specs.Gathering.{Chosen, Alone, Shrinks}

pub record Eliminated (n : ℕ) (T F : List (List ℤ)) : Type 0 where
  pub form : Echelon
  pub wide : width form ≡ n
  pub hermite : Hermite form
  pub is : F ≡ rows form
  pub keeps : Same n T F

-- ---- elimination
-- As many rounds as the first magnitude chosen leave the pivot's entry above 0 and every lower entry 0. More rounds leave the same, and the same
-- mark.
abbrev pub GatheringEnds : Type 0
GatheringEnds =
    (n c : ℕ) (b : List ℤ) (B : List (List ℤ)) (j p : ℕ) → Chosen n c b B j p → (f : ℕ) → p ≤ f
    → Alone c (gather p c (at j p) b B).pivot (gather p c (at j p) b B).below × (gather f c (at j p) b B ≡ gather p c (at j p) b B)

-- Of independent rows of n numbers, elimination leaves the rows of a Hermite form of n columns (`form`, `wide`, `hermite`, `is`), and these span the
-- same lists of n numbers as the table did (`keeps`). That it ends is `GatheringEnds`: every other step is once for each row or column.
abbrev pub EliminationForm : Type 0
EliminationForm =
    (n : ℕ) (T : List (List ℤ)) → All (Len n) T → Independent n T → Eliminated n T (eliminate n T).table

-- ---- uniqueness
-- Two Hermite forms of one span are the same.
abbrev pub FormUnique : Type 0
FormUnique =
    (H K : Echelon) → width H ≡ width K → Hermite H → Hermite K → Same (width H) (rows H) (rows K) → H ≡ K

-- Two lists reduced by a form that differ by a list of its span, two of one coset, are the same.
abbrev pub ReducedUnique : Type 0
ReducedUnique =
    (H : Echelon) (u v : List ℤ) → length u ≡ width H → length v ≡ width H → Hermite H → Reduced H u → Reduced H v
    → Span (rows H) (minus u v) → u ≡ v

-- Of two tables with independent rows elimination leaves the same table exactly when they span the same lists.
abbrev pub EliminationUnique : Type 0
EliminationUnique =
    (n : ℕ) (T U : List (List ℤ)) → All (Len n) T → Independent n T → All (Len n) U → Independent n U
    → Same n T U ↔ ((eliminate n T).table ≡ (eliminate n U).table)

-- ---- generator rows, of any problem or none
-- From generator rows and a right side "none" is found where no list is reached. Otherwise the basis found is in Hermite form, the starting list is
-- reduced by it, and the lists reached are the starting list and the whole combinations of the basis added to it. The mark changes nothing.
abbrev pub ReachedTells : Type 0
ReachedTells =
    (n m : ℕ) (T : List (List ℤ)) (over : Bool) (v : List ℤ) → Generators n m T v
    → Tells n (Reaches n m T v) (right_side m (eliminate (m + n) T).table over v).found

-- Two generator tables with right sides, with heads of m and of m' columns, find the same exactly when they reach the same lists of n numbers. What
-- is found in any other way is the same too, if it tells the same set (proofs/FoundLaws, `tells_unique`).
abbrev pub ReachedSame : Type 0
ReachedSame =
    (n m m' : ℕ) (T T' : List (List ℤ)) (over over' : Bool) (v v' : List ℤ) → Generators n m T v → Generators n m' T' v'
    → ((x : List ℤ) → Reaches n m T v x ↔ Reaches n m' T' v' x)
    ↔ ((right_side m (eliminate (m + n) T).table over v).found ≡ (right_side m' (eliminate (m' + n) T').table over' v').found)

-- A problem's tableau has independent rows, so that its form is a Hermite form
abbrev pub ProblemForm : Type 0
ProblemForm =
    (n : ℕ) (A : List (List ℤ)) → Eliminated (length A + n) (tableau n A) (form n A).table

abbrev pub ProblemCount : Type 0
ProblemCount =
    (n : ℕ) (A : List (List ℤ)) → length (form n A).table ≡ n

abbrev pub ProblemWide : Type 0
ProblemWide =
    (n : ℕ) (A : List (List ℤ)) → All (Len (length A + n)) (form n A).table

abbrev pub ProblemRising : Type 0
ProblemRising =
    (n : ℕ) (A : List (List ℤ)) → Rising 0 (form n A).table

abbrev pub ProblemBasis : Type 0
ProblemBasis =
    (n : ℕ) (A : List (List ℤ)) → All (Led n) (basis (length A) (form n A).table)

abbrev pub BasisRising : Type 0
BasisRising =
    (n : ℕ) (A : List (List ℤ)) → Rising 0 (basis (length A) (form n A).table)

-- ---- a problem
-- The same for a problem: what is found tells the set of lists that satisfy its rows.
abbrev pub SolveTells : Type 0
SolveTells =
    (n : ℕ) (A : List (List ℤ)) (b : List ℤ) → Sized n A b → Tells n (Satisfies n A b) (solve n A b).found

-- A list of n numbers satisfies the rows exactly when it is the starting list and a whole combination of the basis added to it.
abbrev pub SolveSome : Type 0
SolveSome =
    (n : ℕ) (A : List (List ℤ)) (b : List ℤ) → Sized n A b → (start : List ℤ) (N : List (List ℤ)) → (solve n A b).found ≡ some start N
    → (x : List ℤ) → length x ≡ n → Satisfies n A b x ↔ Span N (minus x start)

-- "None" is found exactly when no list satisfies the rows.
abbrev pub SolveNone : Type 0
SolveNone =
    (n : ℕ) (A : List (List ℤ)) (b : List ℤ) → Sized n A b → ((solve n A b).found ≡ none) ↔ ((x : List ℤ) → Satisfies n A b x → ⊥)

-- The same lists satisfy the rows of two problems of n columns exactly when the same is found for them: "none", or the same starting list and basis.
-- Their matrices, their tableaus and their numbers of rows may differ.
abbrev pub SolveSame : Type 0
SolveSame =
    (n : ℕ) (A A' : List (List ℤ)) (b b' : List ℤ) → Sized n A b → Sized n A' b'
    → ((x : List ℤ) → Satisfies n A b x ↔ Satisfies n A' b' x) ↔ ((solve n A b).found ≡ (solve n A' b').found)

-- ---- the rounds of elimination, document 02, (vii)
-- "for each table column they are at most the bit length of its first pivot": of the rows B from row k on, each of n numbers, at column c.
abbrev pub ColumnRounds : Type 0
ColumnRounds =
    (n c : ℕ) (B : List (List ℤ)) → c < n → All (Len n) B → column_rounds c B (choose c B) ≤ first_bits (choose c B)

-- "so at most 31 × n in all": a pivot within ±M has at most 31 digits, and each column that is not passed over uses up one of the table's rows.
abbrev pub EliminationRounds : Type 0
EliminationRounds =
    (w : ℕ) (T : List (List ℤ)) → All (Len w) T → All Within T → (eliminate w T).over ≡ false → rounds w T ≤ 31 * length T

-- The same of a problem of n columns: its tableau has n rows. What a call returns of it, 0 with a refusal, is in crate engine, Ceiling.
abbrev pub FormRounds : Type 0
FormRounds =
    (n : ℕ) (A : List (List ℤ)) → All Within A → (form n A).over ≡ false → form_rounds n A ≤ 31 * n

-- "Forms and starting lists are unchanged": of two quotients that leave less than the pivot, as the nearest and the rounded-down one do, both lead to
-- the one Hermite form of the table's span. What that says of a problem is in RoundedDown.
abbrev pub QuotientUnchanged : Type 0
QuotientUnchanged =
    (q q' : ℤ → ℤ → ℤ) → Shrinks q → Shrinks q' → (n : ℕ) (T : List (List ℤ)) → All (Len n) T → Independent n T
    → (eliminate_by q n T).table ≡ (eliminate_by q' n T).table
