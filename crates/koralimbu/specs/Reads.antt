-- The reader as C calls it: what it returns and what it leaves in each lent buffer.
--   reading_number r    0 for a text that is read, or the refusal's number
--   sizes_of r          the sizes_length numbers that tell of r: n, m, and how many of the n columns are intervals; 0s with a refusal
--   ReadCalled          what the call returns, and what the buffers that it fills and the sizes then hold; `read_returned` makes one of the three
--   read_told d         of a reader that has done d: the number, the eight buffers of a problem, and the sizes
--   read_untold B z     where the sizes z have a wrong length: refusal 2, "nothing changed"
--   read_called s B z   either, by the length of z; s is the text
-- Assumes nothing.
use Rattle.std.specs.Prelude.{cond, List, [], ◌∷◌, ℕ, eqb, length, Ok, Err}
use Rattle.problem.specs.Answers.{refusal_number}
use Rattle.problem.specs.declared.Refusal.TheVariants.{Length}
use Rattle.deck.specs.Reader.{DeckBuffers, Reading, ReadDone, read}

abbrev pub reading_number : Reading → ℕ
reading_number (Ok shape) = 0
reading_number (Err why) = refusal_number why

abbrev pub sizes_length : ℕ
sizes_length = 3

abbrev pub sizes_of : Reading → List ℕ
sizes_of (Ok shape) = shape.columns ∷ shape.rows ∷ shape.intervals ∷ []
sizes_of (Err why) = 0 ∷ 0 ∷ 0 ∷ []

pub record ReadCalled : Type 0 where
  pub number : ℕ
  pub buffers : DeckBuffers
  pub sizes : List ℕ

abbrev pub read_returned : ℕ → DeckBuffers → List ℕ → ReadCalled
read_returned number buffers sizes = record { number = number; buffers = buffers; sizes = sizes }

abbrev pub read_told : ReadDone → ReadCalled
read_told d = read_returned (reading_number d.reading) d.buffers (sizes_of d.reading)

abbrev pub read_untold : DeckBuffers → List ℕ → ReadCalled
read_untold B z = read_returned (refusal_number Length) B z

unfoldable pub read_called : List ℕ → DeckBuffers → List ℕ → ReadCalled
read_called s B z = cond (eqb (length z) sizes_length) (read_told (read s B)) (read_untold B z)
