-- A join as C calls it: what it returns and what it leaves in each lent buffer.
--   part_sizes n m     a part's sizes as one value
--   joining_number a   0 for a join that is made, or the refusal's number
--   joined_of a        the joined_length numbers that tell of a: n and m of the joined problem; 0s with a refusal
--   JoinCalled         what the call returns, and what the joined problem's lists and the sizes then hold; `join_returned` makes one of the three
--   join_told d        of a join that has left d
--   join_untold B z    where the sizes z have a wrong length: refusal 2, and nothing is changed
--   join_called P Q ps B z   either, by the length of z; P and Q are the parts, ps the pairs, B the lent lists
-- Assumes nothing.
use Rattle.std.specs.Prelude.{cond, List, [], ◌∷◌, ℕ, eqb, length, Ok, Err}
use Rattle.problem.specs.Answers.{refusal_number}
use Rattle.problem.specs.declared.Refusal.TheVariants.{Length}
use Rattle.pairing.specs.declared.Sizes.{Sizes}
use Rattle.pairing.specs.Parts.{Lists, Part}
use Rattle.joining.specs.Join.{Joining, Left, join}

abbrev pub part_sizes : ℕ → ℕ → Sizes
part_sizes n m = record { columns = n; rows = m }

abbrev pub joining_number : Joining → ℕ
joining_number (Err why) = refusal_number why
joining_number (Ok s) = 0

abbrev pub joined_length : ℕ
joined_length = 2

abbrev pub joined_of : Joining → List ℕ
joined_of (Err why) = 0 ∷ 0 ∷ []
joined_of (Ok s) = s.columns ∷ s.rows ∷ []

pub record JoinCalled : Type 0 where
  pub number : ℕ
  pub lists : Lists
  pub sizes : List ℕ

abbrev pub join_returned : ℕ → Lists → List ℕ → JoinCalled
join_returned number lists sizes = record { number = number; lists = lists; sizes = sizes }

abbrev pub join_told : Left → JoinCalled
join_told d = join_returned (joining_number d.answer) d.lists (joined_of d.answer)

abbrev pub join_untold : Lists → List ℕ → JoinCalled
join_untold B z = join_returned (refusal_number Length) B z

unfoldable pub join_called : Part → Part → List ℕ → Lists → List ℕ → JoinCalled
join_called P Q ps B z = cond (eqb (length z) joined_length) (join_told (join P Q ps B)) (join_untold B z)
