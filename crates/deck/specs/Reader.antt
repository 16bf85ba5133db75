-- Document 01, "Continue, text, listing": the reader. "The reader fills buffers of the largest size, 48 numbers each and 2,304 coefficients, n to a
-- row without gaps; the rest becomes 0. A wrong length is refusal 2, before the text is looked at; then a text over 32,768 bytes is 11."
--   DeckBuffers    the lent buffers; `deck_buffers` makes one of eight lists, `held` of those that a call is lent
--   Reading        what is returned: n, m and the count of intervals, or the refusal
--   ReadDone       what is returned, and what the buffers then hold; `read_done` makes one of both. A refused text leaves them as they were
--   lengths_fit    the lengths of the buffers are those of the largest
--   filled P       the buffers that hold the problem P
--   shape_of d     n, m and the count of intervals of the deck d
--   read s B       the reader on the text s: turned_back, or accepted; on_deck, by the deck that it states
-- Assumes nothing.
use Rattle.std.specs.Prelude.{◌≡◌, Bool, cond, ◌&&◌, List, ℕ, eqb, ℤ, length, Result, Ok, Err}
use Rattle.problem.specs.Checks.{Posed}
use Rattle.problem.specs.declared.Refusal.{Refusal}
use Rattle.problem.specs.declared.Refusal.TheVariants.{Length}
use Rattle.problem.specs.declared.ListsMut as Lent
use Rattle.deck.specs.declared.Shape.{Shape}
use Rattle.sections.specs.Rules.{Outcome}
use Rattle.sections.specs.Sections.{deck_columns, deck_rows, coefficient_count}
use Rattle.sections.specs.StatedColumns.{padded}
use Rattle.deck.specs.Posing.{Deck, read_deck, all_lines, columns_of, posed}

pub record DeckBuffers : Type 0 where
  pub coefficients : List ℤ
  pub rights : List ℤ
  pub lower : List ℤ
  pub upper : List ℤ
  pub low : List ℤ
  pub high : List ℤ
  pub given : List ℤ
  pub ideals : List ℤ

abbrev pub deck_buffers : List ℤ → List ℤ → List ℤ → List ℤ → List ℤ → List ℤ → List ℤ → List ℤ → DeckBuffers
deck_buffers coefficients rights lower upper low high given ideals = record {
  coefficients = coefficients;
  rights = rights;
  lower = lower;
  upper = upper;
  low = low;
  high = high;
  given = given;
  ideals = ideals;
}

abbrev pub held : Lent.ListsMut → DeckBuffers
held l = deck_buffers l.coefficients.now l.rights.now l.lower.now l.upper.now l.low.now l.high.now l.given.now l.ideals.now

abbrev pub Reading : Type 0
Reading = Result Shape Refusal

pub record ReadDone : Type 0 where
  pub reading : Reading
  pub buffers : DeckBuffers

abbrev pub read_done : Reading → DeckBuffers → ReadDone
read_done r B = record { reading = r; buffers = B }

abbrev pub lengths_fit : DeckBuffers → Bool
lengths_fit B =
    eqb (length B.coefficients) coefficient_count
    && (eqb (length B.rights) deck_rows
    && (eqb (length B.lower) deck_columns && (eqb (length B.upper) deck_columns
    && (eqb (length B.low) deck_columns && (eqb (length B.high) deck_columns
    && (eqb (length B.given) deck_columns && eqb (length B.ideals) deck_columns))))))

abbrev pub filled : Posed → DeckBuffers
filled P = record {
  coefficients = padded (coefficient_count) P.coefficients;
  rights = padded deck_rows P.rights;
  lower = padded deck_columns P.lower;
  upper = padded deck_columns P.upper;
  low = padded deck_columns P.low;
  high = padded deck_columns P.high;
  given = padded deck_columns P.given;
  ideals = padded deck_columns P.ideals;
}

abbrev pub turned_back : Refusal → DeckBuffers → ReadDone
turned_back why B = read_done (Err why) B

abbrev pub shape_of : Deck → Shape
shape_of d = record { columns = length (columns_of d); rows = length (all_lines d); intervals = length d.intervals }

-- the buffers hold no step limit, so that any serves here
abbrev pub accepted : Deck → ReadDone
accepted d = read_done (Ok (shape_of d)) (filled (posed 0 d))

abbrev pub on_deck : Outcome Deck → DeckBuffers → ReadDone
on_deck (Ok (d, at)) B = accepted d
on_deck (Err why) B = turned_back why B

unfoldable pub read : List ℕ → DeckBuffers → ReadDone
read s B = cond (lengths_fit B) (on_deck (read_deck s) B) (turned_back Length B)
