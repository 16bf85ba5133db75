-- Document 01, "Continue, text, listing": "The listing program reads the text from standard input, uses limit 10,000 and prints" the listing.
--   program_limit     the step limit
--   zero_buffers P    buffers of just the lengths that a problem needs, all 0, as the program lends them
--   printed s         the bytes that the program prints for the text s
--   print_into o s    what a call returns and leaves that puts these bytes at the front of the lent buffer o
--   list_into o P     the same of the listing of an assignment
--   lent_by l, parts_of p B   the reader's buffers, as the lists l lend them, and of the buffers B the parts that the problem p has
--   listing_room      the bytes of the program's buffer for a listing
--   longest_listing   no listing has more: a first line of at most 20 bytes, as `OUTSIDE 10000 10000` and byte 10 are, and 48 lines of at most 26, as
--                     `48 -2147483647 2147483647` and byte 10 are
--   ListedWhole s     the listing of s has room there, so that a call leaves all of it at the front of the buffer and never returns that there is
--                     none
-- Assumes nothing.
use Rattle.std.specs.Prelude.{◌≡◌, List, [], ◌++◌, ℕ, ◌+◌, ◌*◌, ◌≤◌, length, take, drop, replicate, Ok, Err}
use Rattle.whole.specs.Lists.{zeros}
use Rattle.problem.specs.Limits.{max_columns}
use Rattle.problem.specs.Checks.{Posed}
use Rattle.problem.specs.declared.Lists.{Lists}
use Rattle.problem.specs.declared.Problem.{Problem}
use Rattle.engine.specs.Assign.{Buffers, Done, posed_by, n, m, assign}
use Rattle.sections.specs.Rules.{Outcome}
use Rattle.deck.specs.Posing.{Deck, read_deck, posed}
use Rattle.deck.specs.Reader.{DeckBuffers, deck_buffers}
use Rattle.report.specs.Listing.{listing, ListingDone, listing_done, placed_in}

abbrev pub program_limit : ℕ
program_limit = 10000

abbrev pub zero_buffers : Posed → Buffers
zero_buffers P = record { tableau = zeros (n P * (m P + n P)); values = zeros (n P); strides = replicate (n P) 0 }

abbrev pub listed : Done → List ℕ
listed d = listing d.answer d.values d.strides

abbrev pub on_deck : Outcome Deck → List ℕ
on_deck (Ok (d, at)) = listed (assign (posed program_limit d) (zero_buffers (posed program_limit d)))
on_deck (Err why) = listing (Err why) [] []

unfoldable pub printed : List ℕ → List ℕ
printed s = on_deck (read_deck s)

unfoldable pub print_into : List ℕ → List ℕ → ListingDone
print_into o s = placed_in o (printed s)

-- ---- of the reader's buffers the parts that the problem p has
abbrev pub lent_by : Lists → DeckBuffers
lent_by l = deck_buffers l.coefficients.now l.rights.now l.lower.now l.upper.now l.low.now l.high.now l.given.now l.ideals.now

abbrev pub parts_of : Problem → DeckBuffers → Posed
parts_of p B =
    posed_by p (take (p.rows * p.columns) B.coefficients) (take p.rows B.rights) (take p.columns B.lower) (take p.columns B.upper)
    (take p.columns B.low) (take p.columns B.high) (take p.columns B.given) (take p.columns B.ideals)

unfoldable pub list_into : List ℕ → Posed → ListingDone
list_into o P = placed_in o (listed (assign P (zero_buffers P)))

-- ---- every text is listed
abbrev pub listing_room : ℕ
listing_room = 4096

abbrev pub longest_listing : ℕ
longest_listing = 20 + max_columns * 26

-- "The listing program reads the text .. and prints": of every text, whatever it holds
pub record ListedWhole (s : List ℕ) : Type 0 where
  pub short : length (printed s) ≤ longest_listing
  pub whole :
      (o : List ℕ) → listing_room ≤ length o
      → print_into o s ≡ listing_done (Ok (length (printed s))) (printed s ++ drop (length (printed s)) o)
