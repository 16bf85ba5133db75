-- Document 02, (vi): "From two problems and a list of pairs (column of the first, column of the second) make one".
--   on_passed c next      the refusal that the check c finds, else the next check
--   pairing P Q ps        what is found of the pairs, and the partners that they leave; partners P Q ps, these
--   joined_sizes P Q R    the joined problem's sizes, as a problem's numbers
--   room_cause p B        1 and 2 of the joined problem p and the lent lists B
--   join_cause P Q ps B   the first cause that turns a join back, in the order of the request; B are the lent lists
--   Joining               what a join answers: the sizes of the problem that it makes, or a refusal
--   Left                  what a join answers, and what is left in the lent lists; `left` makes one
--   left_by c J B         what is left of the joined problem J and the lent lists B, by what the check c finds
--   join P Q ps B         the whole: with a refusal "buffers as before"
--   outcome P Q ps B s    where a join is made, of the sizes s, the problem that it leaves
-- Assumes nothing.
use Rattle.std.specs.Prelude.{List, ℕ, ◌+◌, ◌%◌, eqb, length, Option, Result, Ok, Err}
use Rattle.problem.specs.Limits.{max_columns, max_rows}
use Rattle.problem.specs.Checks.{Check, sizes_fit, or_next}
use Rattle.problem.specs.declared.Problem.{Problem}
use Rattle.problem.specs.declared.Refusal.{Refusal}
use Rattle.problem.specs.declared.Refusal.TheVariants.{Size, Length}
use Rattle.pairing.specs.declared.Sizes.{Sizes}
use Rattle.pairing.specs.Parts.{Lists, Part, part_of, sized, lists_fit, part_cause}
use Rattle.pairing.specs.Pairs.{Matched, bounds_of, unpaired, pair_up}
use Rattle.joined.specs.Columns.{joined_count}
use Rattle.joined.specs.Joined.{joined}

abbrev pub on_passed : Check → Check → Check
on_passed (Ok u) next = next
on_passed (Err why) next = Err why

unfoldable pub pairing : Part → Part → List ℕ → Matched
pairing P Q ps = pair_up (bounds_of P) (bounds_of Q) ps (unpaired Q.columns)

abbrev pub partners : Part → Part → List ℕ → List (Option ℕ)
partners P Q ps = (pairing P Q ps).partners

abbrev pub joined_sizes : Part → Part → List (Option ℕ) → Problem
joined_sizes P Q R = sized (joined_count P R) (P.rows + Q.rows) 0

-- "1 for a joined size beyond 48, and last 2 for the joined problem's buffers"
abbrev pub room_cause : Problem → Lists → Check
room_cause p B = or_next (sizes_fit max_columns max_rows p) Size (or_next (lists_fit p B) Length (Ok tt))

-- "both after 1 to 5 of the first part, then the second's, then 2 for a pair list of odd length, and in pair order"; then `room_cause`
unfoldable pub join_cause : Part → Part → List ℕ → Lists → Check
join_cause P Q ps B =
    on_passed (part_cause P)
    (on_passed (part_cause Q)
    (or_next (eqb (length ps % 2) 0) Length
    (on_passed (pairing P Q ps).found
    (room_cause (joined_sizes P Q (partners P Q ps)) B))))

abbrev pub Joining : Type 0
Joining = Result Sizes Refusal

pub record Left : Type 0 where
  pub answer : Joining
  pub lists : Lists

abbrev pub left : Joining → Lists → Left
left answer lists = record { answer = answer; lists = lists }

abbrev pub left_by : Check → Part → Lists → Left
left_by (Ok u) J B = left (Ok (record { columns = J.columns; rows = J.rows })) J.lists
left_by (Err why) J B = left (Err why) B

unfoldable pub join : Part → Part → List ℕ → Lists → Left
join P Q ps B = left_by (join_cause P Q ps B) (joined P Q (partners P Q ps)) B

abbrev pub outcome : Part → Part → List ℕ → Lists → Sizes → Part
outcome P Q ps B s = part_of s (join P Q ps B).lists
