-- Document 01, "Continue, text, listing": the listing's bytes. It "prints FITTED, OUTSIDE, SPENT, NONE or REFUSED. After the first three come both
-- counts, then a line for each column: column, value, stride. NONE stands alone (refusal 8). REFUSED is followed by the number. Fields are parted by
-- one space; each line ends with byte 10."
--   FITTED, OUTSIDE, SPENT, NONE, REFUSED   the words; field, after one space; line_end
--   verdict w k             the first line of a verdict's word with its counts, which counts_of makes
--   refusal k               the line of the refusal that has the number k; numbered, REFUSED with it
--   headline a              the first line
--   line c v d              a column's line; lines_from, those of the columns behind the first; lines_of, how many are listed
--   listing a v d           the listing of the answer a, with the values v and the strides d where it is a verdict
--   Written                 what is returned: how many bytes were written, or why none is: Uneven, the lists are not of one length, or NoRoom, the
--                           buffer has no room
--   ListingDone             what is returned, and what the lent buffer then holds; `listing_done` makes one of both
--   placed_in o w           the call that puts w at the front of the lent buffer o, where it fits
--   write_listing o a v d   the call on the lent buffer o, which then holds the listing's bytes, and then what stood there
-- Assumes nothing.
use Rattle.std.specs.Prelude.{cond, List, [], ◌∷◌, ◌++◌, ℕ, ◌+◌, leb, eqb, ℤ, length, drop, Result, Ok, Err}
use Rattle.text.specs.Decimals.{natural, integer}
use Rattle.problem.specs.Answers.{Answer, refusal_number}
use Rattle.problem.specs.declared.Counts.{Counts}
use Rattle.problem.specs.declared.Refusal.TheVariants.{NoWholeNumbers}
use Rattle.problem.specs.declared.Verdict.TheVariants.{Fitted, Outside, Spent}
use Rattle.report.specs.declared.WriteError.{WriteError}
use Rattle.report.specs.declared.WriteError.TheVariants.{Uneven, NoRoom}

-- "FITTED", "OUTSIDE", "SPENT", "NONE", "REFUSED"
abbrev pub FITTED : List ℕ
FITTED = 70 ∷ 73 ∷ 84 ∷ 84 ∷ 69 ∷ 68 ∷ []

abbrev pub OUTSIDE : List ℕ
OUTSIDE = 79 ∷ 85 ∷ 84 ∷ 83 ∷ 73 ∷ 68 ∷ 69 ∷ []

abbrev pub SPENT : List ℕ
SPENT = 83 ∷ 80 ∷ 69 ∷ 78 ∷ 84 ∷ []

abbrev pub NONE : List ℕ
NONE = 78 ∷ 79 ∷ 78 ∷ 69 ∷ []

abbrev pub REFUSED : List ℕ
REFUSED = 82 ∷ 69 ∷ 70 ∷ 85 ∷ 83 ∷ 69 ∷ 68 ∷ []

-- a field after one space, and the end of a line
abbrev pub field : List ℕ → List ℕ
field w = 32 ∷ w

abbrev pub line_end : List ℕ
line_end = 10 ∷ []

abbrev pub verdict : List ℕ → Counts → List ℕ
verdict word k = word ++ (field (natural k.bounds) ++ (field (natural k.goals) ++ line_end))

abbrev pub counts_of : ℕ → ℕ → Counts
counts_of bounds goals = record { bounds = bounds; goals = goals }

abbrev pub line : ℕ → ℤ → ℕ → List ℕ
line c v d = natural c ++ (field (integer v) ++ (field (natural d) ++ line_end))

-- the lines of the columns after the first i; columns are listed from 1
unfoldable pub lines_from : ℕ → List ℤ → List ℕ → List ℕ
lines_from i [] ds = []
lines_from i (v ∷ vs) [] = []
lines_from i (v ∷ vs) (d ∷ ds) = line (i + 1) v d ++ lines_from (i + 1) vs ds

-- the line of a refusal's number: "NONE stands alone (refusal 8). REFUSED is followed by the number."
abbrev pub numbered : ℕ → List ℕ
numbered k = REFUSED ++ (field (natural k) ++ line_end)

abbrev pub refusal : ℕ → List ℕ
refusal k = cond (eqb k (refusal_number NoWholeNumbers)) (NONE ++ line_end) (numbered k)

abbrev pub headline : Answer → List ℕ
headline (Ok (Fitted k)) = verdict FITTED k
headline (Ok (Outside k)) = verdict OUTSIDE k
headline (Ok (Spent k)) = verdict SPENT k
headline (Err why) = refusal (refusal_number why)

unfoldable pub listing : Answer → List ℤ → List ℕ → List ℕ
listing (Ok (Fitted k)) v d = verdict FITTED k ++ lines_from 0 v d
listing (Ok (Outside k)) v d = verdict OUTSIDE k ++ lines_from 0 v d
listing (Ok (Spent k)) v d = verdict SPENT k ++ lines_from 0 v d
listing (Err why) v d = refusal (refusal_number why)

-- of n columns, how many are listed: all with a verdict, none with a refusal
abbrev pub lines_of : Answer → ℕ → ℕ
lines_of (Ok verdict) n = n
lines_of (Err why) n = 0

-- what is returned: how many bytes were written, or why none is
abbrev pub Written : Type 0
Written = Result ℕ WriteError

pub record ListingDone : Type 0 where
  pub written : Written
  pub out : List ℕ

abbrev pub listing_done : Written → List ℕ → ListingDone
listing_done w o = record { written = w; out = o }

-- the bytes of w, where they fit into o
abbrev pub placed_in : List ℕ → List ℕ → ListingDone
placed_in o w = cond (leb (length w) (length o)) (listing_done (Ok (length w)) (w ++ drop (length w) o)) (listing_done (Err NoRoom) o)

unfoldable pub write_listing : List ℕ → Answer → List ℤ → List ℕ → ListingDone
write_listing o a v d = cond (eqb (lines_of a (length d)) (lines_of a (length v))) (placed_in o (listing a v d)) (listing_done (Err Uneven) o)
