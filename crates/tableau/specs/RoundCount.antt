-- Document 02, (vii): "Each choice of a smallest entry is a round. The rounds are counted and returned". They are counted along the same steps.
--   gather_rounds f c z b B   the rounds of `gather f c z b B`. A look that finds only 0 chooses nothing and is none; a lone entry is chosen once
--   column_rounds c B z       those of column c, with the choice z among the rows B from row k on
--   rounds_from d c A B       those of d columns from c on
--   rounds w T                those of `eliminate w T`
--   form_rounds n A           those of the form of n columns and the matrix A
--   first_bits z              "the bit length of its first pivot", of a column whose first choice is z; 0 where the column is passed over
-- Assumes nothing.
use Rattle.std.specs.Prelude.{List, [], ◌∷◌, ℕ, zero, suc, ◌+◌, ℤ, length}
use Rattle.whole.specs.BitLength.{bit_length}
use Rattle.tableau.specs.Table.{tableau}
use Rattle.tableau.specs.Elimination.{Choice, none, at, choose, Gathered, round, Passed, pass_column}

unfoldable pub gather_rounds : ℕ → ℕ → Choice → List ℤ → List (List ℤ) → ℕ
gather_rounds zero c z b B = 0
gather_rounds (suc f) c none b B = 0
gather_rounds (suc f) c (at j p) b B =
    let x : Gathered = round c b B in
    suc (gather_rounds f c (choose c x.below) x.pivot x.below)

unfoldable pub column_rounds : ℕ → List (List ℤ) → Choice → ℕ
column_rounds c B none = 0
column_rounds c [] (at j p) = 0
column_rounds c (b ∷ B) (at j p) = gather_rounds p c (at j p) b B

unfoldable pub rounds_from : ℕ → ℕ → List (List ℤ) → List (List ℤ) → ℕ
rounds_from zero c A B = 0
rounds_from (suc d) c A B =
    let x : Passed = pass_column c A B (choose c B) in
    column_rounds c B (choose c B) + rounds_from d (suc c) x.above x.below

unfoldable pub rounds : ℕ → List (List ℤ) → ℕ
rounds w T = rounds_from w 0 [] T

unfoldable pub form_rounds : ℕ → List (List ℤ) → ℕ
form_rounds n A = rounds (length A + n) (tableau n A)

abbrev pub first_bits : Choice → ℕ
first_bits none = 0
first_bits (at j p) = bit_length p
