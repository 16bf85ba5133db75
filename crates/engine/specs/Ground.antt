-- What Continue and the preview do before the one settles a list and the other looks at its next step.
--   Grounded              the rounds of the tableau, or what is refused, and what the tableau then holds; `grounded` makes one of the two
--   laid_ground P v L t   of the list v, with the lengths L of the lent buffers and with t in the tableau: the first refusal that holds, of 1 to 6,
--                         then 10, then 7, or none; ground_fit, past the checks; on_first, by what they find
--   Groundable ..         what it needs: buffers of those lengths, and a table with room for all columns
--   Packs r P l           where nothing is refused, the list l begins with the columns of P, packed
-- Assumes nothing.
use Rattle.std.specs.Prelude.{◌≡◌, cond, List, ℕ, ℤ, length, take, Result, Ok, Err}
use Rattle.whole.specs.Lists.{zeros}
use Rattle.lattice.specs.Rows.{flat}
use Rattle.problem.specs.Limits.{max_columns}
use Rattle.problem.specs.Checks.{Posed, Check, first_cause}
use Rattle.problem.specs.declared.Lent.{Lent}
use Rattle.problem.specs.declared.Refusal.{Refusal}
use Rattle.problem.specs.declared.Refusal.TheVariants.{Elimination, Standing}
use Rattle.settling.specs.declared.Column.{Column}
use Rattle.settling.specs.Columns.{packed}
use Rattle.engine.specs.Assign.{n, columns, stands, formed, rounds_of}

pub record Grounded : Type 0 where
  pub rounds : Result ℕ Refusal
  pub tableau : List ℤ

abbrev pub grounded : Result ℕ Refusal → List ℤ → Grounded
grounded rounds tableau = record { rounds = rounds; tableau = tableau }

abbrev pub on_first : Check → List ℤ → Grounded → Grounded
on_first (Ok u) t g = g
on_first (Err why) t g = grounded (Err why) t

abbrev pub ground_fit : Posed → List ℤ → List ℤ → Grounded
ground_fit P v t =
    cond (stands P v) (cond (formed P).over (grounded (Err Elimination) (zeros (length t)))
    (grounded (Ok (rounds_of P)) (flat (formed P).table)))
    (grounded (Err Standing) t)

unfoldable pub laid_ground : Posed → List ℤ → Lent → List ℤ → Grounded
laid_ground P v L t = on_first (first_cause P L) t (ground_fit P v t)

pub record Groundable (P : Posed) (v : List ℤ) (L : Lent) (t : List ℤ) (c : List Column) : Type 0 where
  pub tableau : length t ≡ L.tableau
  pub list : L.values ≡ n P → length v ≡ n P
  pub table : length c ≡ max_columns

pub record Packs (r : Result ℕ Refusal) (P : Posed) (l : List Column) : Type 0 where
  pub is : (k : ℕ) → r ≡ Ok k → take (n P) l ≡ packed (columns P)
