-- A move at a place of the ranking as one number, so that better is smaller.
--   IsSign a           +1 or −1
--   first_pair         the number of the first pair; singles lie below it
--   span               how far the numbers of one place lie from those of the next
--   mark a             1 for a sign below 0, else 0
--   number_of o        the number of the move o, which rises in document 01's order of moves
--   number_at k o      the same at place k
--   sign_of m          the sign of a mark
--   pair_of d          the pair that is d after the first one
--   move_of n          the move of a number
--   step_in L z        the step that the number z stands for, along the ranking L; a place behind the ranking is none
--   DominatedBy imp L z o   the candidate o is no better than z: at each place of L whose column it improves its number is z or more
--   ImprovingNumber imp L r z   z is the number of a move over r vectors, at a place of L whose column it improves
--   ImprovingOrNone imp L r z   z is such a number, or the least one behind the ranking
-- Assumes nothing.
use Rattle.std.specs.Prelude.{◌≡◌, ◌⊎◌, Bool, true, cond, List, ℕ, ◌+◌, ◌-◌, ◌*◌, ◌/◌, ◌%◌, ◌<◌, ◌≤◌, ltb, eqb, ℤ, pos, negsuc, length, get_or}
use Rattle.std.specs.Prelude.{Option, Some, None}
use Rattle.std.specs.Int.Signed.{lt_z}
use Rattle.whole.specs.Tests.{is_zero}
use Rattle.problem.specs.Limits.{max_columns}
use Rattle.settling.specs.declared.Move.{Move}
use Rattle.settling.specs.declared.Step.{Step}
use Rattle.settling.specs.Moves.{single, pair, moves}
use Rattle.settling.specs.Steps.{step}
use Rattle.settling.specs.Verdicts.{Listed}

abbrev pub IsSign : ℤ → Type 0
IsSign a = (a ≡ pos 1) ⊎ (a ≡ negsuc 0)

abbrev pub first_pair : ℕ
first_pair = 2 * max_columns

-- a power of 2 above first_pair + 4 * max_columns * max_columns
abbrev pub span : ℕ
span = 16384

abbrev pub mark : ℤ → ℕ
mark a = cond (lt_z a (pos 0)) 1 0

unfoldable pub number_of : Move → ℕ
number_of o =
    cond (is_zero o.b) (2 * o.s + mark o.a)
    (first_pair + (4 * (max_columns * o.s + o.t) + (2 * mark o.a + mark o.b)))

abbrev pub number_at : ℕ → Move → ℕ
number_at k o = k * span + number_of o

abbrev pub sign_of : ℕ → ℤ
sign_of m = cond (eqb m 0) (pos 1) (negsuc 0)

abbrev pub pair_of : ℕ → Move
pair_of d = pair (d / 4 / max_columns) (sign_of (d / 2 % 2)) (d / 4 % max_columns) (sign_of (d % 2))

unfoldable pub move_of : ℕ → Move
move_of n = cond (ltb n first_pair) (single (n / 2) (sign_of (n % 2))) (pair_of (n - first_pair))

unfoldable pub step_in : List ℕ → ℕ → Option Step
step_in L z = cond (ltb (z / span) (length L)) (Some (step (get_or L (z / span) 0) (move_of (z % span)))) None

pub record DominatedBy (imp : Move → ℕ → Bool) (L : List ℕ) (z : ℕ) (o : Move) : Type 0 where
  pub each : (x : ℕ) → x < length L → imp o (get_or L x 0) ≡ true → z ≤ number_at x o

pub record ImprovingNumber (imp : Move → ℕ → Bool) (L : List ℕ) (r z : ℕ) : Type 0 where
  pub place : ℕ
  pub move : Move
  pub inside : place < length L
  pub listed : Listed move (moves r)
  pub good : imp move (get_or L place 0) ≡ true
  pub is : z ≡ number_at place move

abbrev pub ImprovingOrNone : (Move → ℕ → Bool) → List ℕ → ℕ → ℕ → Type 0
ImprovingOrNone imp L r z = (z ≡ length L * span) ⊎ ImprovingNumber imp L r z
