-- The preview as C calls it: what it returns and what it leaves in each lent buffer.
--   seen_number x       the refusal's number; 0 where there is none
--   part_number p       1 the bounds part, 2 the goals part
--   sign_number z       1 plus, 2 minus; 0 where there is no vector
--   vector_number s z   the vector s, which z is the sign of, counted from 1; 0 where there is none
--   step_of x k         the preview_length numbers that tell of x and its k rounds: the part, the column, counted from 1, the vectors of the move
--                       with their signs, 0s where no move improves, and with a refusal; then the rounds
--   preview_told x      what is returned and left of a preview that has shown x; in the buffers the interval list is the list after
--   preview_called P v B r   that of P and the standing list v, by the length of the report r
--   SmallStep x         column and vectors of a step are such as a problem can have
-- Assumes nothing.
use Rattle.std.specs.Prelude.{◌≡◌, cond, List, [], ◌∷◌, ℕ, zero, suc, ◌<◌, eqb, ℤ, pos, negsuc, length, Some, None, Result, Ok, Err}
use Rattle.problem.specs.Answers.{refusal_number}
use Rattle.problem.specs.Checks.{Posed}
use Rattle.problem.specs.Limits.{max_columns}
use Rattle.problem.specs.declared.Refusal.{Refusal}
use Rattle.settling.specs.declared.Part.{Part}
use Rattle.settling.specs.declared.Part.TheVariants.{Bounds, Goals}
use Rattle.engine.specs.Assign.{Buffers, buffers}
use Rattle.engine.specs.Preview.{Seen, Shown, preview}
use Rattle.engine.specs.declared.preview.Next.{Next}
use Rattle.engine.specs.declared.preview.Sight.{Sight}
use Rattle.koralimbu.specs.Calls.{Called, returned, untold}

abbrev pub seen_number : Seen → ℕ
seen_number (Ok step) = 0
seen_number (Err why) = refusal_number why

abbrev pub part_number : Part → ℕ
part_number Bounds = 1
part_number Goals = 2

abbrev pub sign_number : ℤ → ℕ
sign_number (pos zero) = 0
sign_number (pos (suc k)) = 1
sign_number (negsuc k) = 2

abbrev pub vector_number : ℕ → ℤ → ℕ
vector_number s (pos zero) = 0
vector_number s (pos (suc k)) = suc s
vector_number s (negsuc k) = suc s

abbrev pub preview_length : ℕ
preview_length = 7

abbrev pub step_of : Seen → ℕ → List ℕ
step_of (Ok (Some x)) k =
    part_number x.part ∷ suc x.column
    ∷ vector_number x.o.s x.o.a ∷ sign_number x.o.a ∷ vector_number x.o.t x.o.b ∷ sign_number x.o.b ∷ k ∷ []
step_of (Ok None) k = 0 ∷ 0 ∷ 0 ∷ 0 ∷ 0 ∷ 0 ∷ k ∷ []
step_of (Err why) k = 0 ∷ 0 ∷ 0 ∷ 0 ∷ 0 ∷ 0 ∷ k ∷ []

abbrev pub preview_told : Shown → Called
preview_told x = returned (seen_number x.seen) (buffers x.tableau x.after x.strides) (step_of x.seen x.rounds)

unfoldable pub preview_called : Posed → List ℤ → Buffers → List ℕ → Called
preview_called P v B r = cond (eqb (length r) preview_length) (preview_told (preview P v B)) (untold B r)

-- so that they fit the report's numbers
pub record SmallStep (x : Result Sight Refusal) : Type 0 where
  pub column : (s : Sight) (k : Next) → x ≡ Ok s → s.next ≡ Some k → k.column < max_columns
  pub first : (s : Sight) (k : Next) → x ≡ Ok s → s.next ≡ Some k → k.o.s < max_columns
  pub second : (s : Sight) (k : Next) → x ≡ Ok s → s.next ≡ Some k → k.o.t < max_columns
