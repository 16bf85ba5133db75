-- The eight lists of a joined problem as the code fills them.
--   Long n m l       how long the lists of n columns and m rows are
--   behind P B h     what stands in a lent list, of those that h takes, behind the first's numbers
--   filling P Q B m R S   the eight lists of m joined columns, with the partners R and the places S, where B are the lent lists
--   filled P Q R B   the joined problem with the partners R, its lists as the code fills them
--   left_paired P Q R B   what is left of it, once the pairs have passed: of its own causes, `room_cause`, none may hold
-- Assumes nothing.
use Rattle.std.specs.Prelude.{◌≡◌, List, ◌++◌, map, ℕ, ◌+◌, ◌*◌, ◌-◌, ℤ, length, drop, Option}
use Rattle.lattice.specs.Rows.{flat}
use Rattle.pairing.specs.Pairs.{larger, smaller}
use Rattle.pairing.specs.Parts.{Lists, Part, lists, matrix}
use Rattle.joined.specs.Columns.{goal_of, set_first, places, joined_count}
use Rattle.joined.specs.Joined.{padded, spread}
use Rattle.joined.specs.Filling.{absorb_into, absorb_ideals}
use Rattle.joining.specs.Join.{joined_sizes, room_cause, Left, left_by}

pub record Long (n m : ℕ) (l : Lists) : Type 0 where
  pub coefficients : length l.coefficients ≡ m * n
  pub rights : length l.rights ≡ m
  pub lower : length l.lower ≡ n
  pub upper : length l.upper ≡ n
  pub low : length l.low ≡ n
  pub high : length l.high ≡ n
  pub given : length l.given ≡ n
  pub ideals : length l.ideals ≡ n

abbrev pub behind : Part → Lists → (Lists → List ℤ) → List ℤ
behind P B h = drop (length (h P.lists)) (h B)

abbrev pub filling : Part → Part → Lists → ℕ → List (Option ℕ) → List ℕ → Lists
filling P Q B m R S =
    lists (flat (map (padded (m - P.columns)) (matrix P) ++ map (spread m S) (matrix Q)))
    (P.lists.rights ++ Q.lists.rights)
    (absorb_into larger (P.lists.lower ++ behind P B (λ l. l.lower)) R S Q.lists.lower)
    (absorb_into smaller (P.lists.upper ++ behind P B (λ l. l.upper)) R S Q.lists.upper)
    (absorb_into (goal_of smaller) (P.lists.low ++ behind P B (λ l. l.low)) R S Q.lists.low)
    (absorb_into (goal_of larger) (P.lists.high ++ behind P B (λ l. l.high)) R S Q.lists.high)
    (absorb_into set_first (P.lists.given ++ behind P B (λ l. l.given)) R S Q.lists.given)
    (absorb_ideals (P.lists.given ++ behind P B (λ l. l.given)) (P.lists.ideals ++ behind P B (λ l. l.ideals)) R S Q.lists.given
    Q.lists.ideals)

abbrev pub filled : Part → Part → List (Option ℕ) → Lists → Part
filled P Q R B = record {
  columns = joined_count P R;
  rows = P.rows + Q.rows;
  lists = filling P Q B (joined_count P R) R (places P R);
}

abbrev pub left_paired : Part → Part → List (Option ℕ) → Lists → Left
left_paired P Q R B = left_by (room_cause (joined_sizes P Q R) B) (filled P Q R B) B
