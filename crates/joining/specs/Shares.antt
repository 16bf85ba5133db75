-- What a join promises.
--   PartCauses            the causes that turn a part back are those of a call's problem, where the call's own buffers and its limit are right
--   JoinShares            "A list satisfies the joined rows and bounds exactly when its two shares satisfy their own."
--   JoinFits              the joined problem is ready for a call: of the causes 1 to 6 none is left but 2 for the call's own buffers, and 6
--   first_of, second_of   the columns of pair k, each counted from 1 in its part; the pairs of ps are those with k * 2 + 1 < length ps
--   Alone ps j            the column j of the second part, counted from 0, stands in no pair
--   JoinWithin            the columns of a pair are columns of their parts
--   JoinMeets             the two columns of a pair are one: both shares of a list have the same number there
--   JoinAlone             a column of the second has no partner exactly when it stands in no pair
--   JoinBehind            "the first's columns, then the second's unshared ones in order": the number of a column that stands in no pair comes
--                         behind those of the first's columns and of the unshared ones before it
--   JoinCounts            how large the joined problem is: n is the first's n and the second's, less the pairs; m is the first's m and the second's
--   FirstAlone ps i       the column i of the first part, counted from 0, stands in no pair
--   ColumnsOf P Q ps l    the lists l say of each column what the parts say of it: of a pair's, what `shared` makes of both; of one that stands in no
--                         pair, what its part says, at its place
--   JoinColumns           so it is of the joined problem's lists
-- The theorems are `part_causes`, `join_shares` and `join_fits`, in proofs/Shares, `join_within`, `join_meets`, `join_alone` and `join_behind`, in
-- proofs/Meeting, `join_counts`, in proofs/Counts, and `join_columns`, in proofs/SharedColumns.
-- Assumes nothing.
use Rattle.std.specs.Prelude.{◌≡◌, true, ◌↔◌, List, ℕ, ◌+◌, ◌*◌, ◌-◌, ◌<◌, ◌≤◌, ℤ, length, get_or, take, None}
use Rattle.whole.specs.Lists.{entry}
use Rattle.problem.specs.Checks.{lent_fit, limit_fits, or_next, first_cause}
use Rattle.problem.specs.declared.Problem.{Problem}
use Rattle.problem.specs.declared.Lent.{Lent}
use Rattle.problem.specs.declared.Refusal.TheVariants.{Length, Limit}
use Rattle.std.specs.Prelude.{Ok}
use Rattle.pairing.specs.declared.Sizes.{Sizes}
use Rattle.pairing.specs.Parts.{Lists, Part, column_in, sized, as_posed, part_cause, Fulfils}
use Rattle.joined.specs.Columns.{shared, places, unshared}
use Rattle.joined.specs.Joined.{first_share, second_share}
use Rattle.joining.specs.Join.{partners, join, outcome}

abbrev pub PartCauses : Type 0
PartCauses = (P : Part) (limit : ℕ) (L : Lent) → lent_fit (as_posed P limit).problem L ≡ true → limit_fits (as_posed P limit).problem ≡ true
    → first_cause (as_posed P limit) L ≡ part_cause P

abbrev pub JoinShares : Type 0
JoinShares = (P Q : Part) (ps : List ℕ) (B : Lists) (s : Sizes) → (join P Q ps B).answer ≡ Ok s
    → (x : List ℤ) → length x ≡ s.columns
    → Fulfils (outcome P Q ps B s) x ↔ (Fulfils P (first_share P x) × Fulfils Q (second_share (places P (partners P Q ps)) x))

abbrev pub JoinFits : Type 0
JoinFits = (P Q : Part) (ps : List ℕ) (B : Lists) (s : Sizes) → (join P Q ps B).answer ≡ Ok s
    → (limit : ℕ) (L : Lent) → let p : Problem = sized s.columns s.rows limit in
    first_cause (as_posed (outcome P Q ps B s) limit) L ≡ or_next (lent_fit p L) Length (or_next (limit_fits p) Limit (Ok tt))

-- ---- the pairs
abbrev pub first_of : List ℕ → ℕ → ℕ
first_of ps k = get_or ps (k * 2) 0

abbrev pub second_of : List ℕ → ℕ → ℕ
second_of ps k = get_or ps (k * 2 + 1) 0

abbrev pub Alone : List ℕ → ℕ → Type 0
Alone ps j = (k : ℕ) → k * 2 + 1 < length ps → second_of ps k ≡ j + 1 → ⊥

abbrev pub JoinWithin : Type 0
JoinWithin = (P Q : Part) (ps : List ℕ) (B : Lists) (s : Sizes) → (join P Q ps B).answer ≡ Ok s
    → (k : ℕ) → k * 2 + 1 < length ps
    → (1 ≤ first_of ps k) × (first_of ps k ≤ P.columns) × (1 ≤ second_of ps k) × (second_of ps k ≤ Q.columns)

abbrev pub JoinMeets : Type 0
JoinMeets = (P Q : Part) (ps : List ℕ) (B : Lists) (s : Sizes) → (join P Q ps B).answer ≡ Ok s
    → (k : ℕ) → k * 2 + 1 < length ps → (x : List ℤ)
    → entry (second_of ps k - 1) (second_share (places P (partners P Q ps)) x) ≡ entry (first_of ps k - 1) (first_share P x)

abbrev pub JoinAlone : Type 0
JoinAlone = (P Q : Part) (ps : List ℕ) (B : Lists) (s : Sizes) → (join P Q ps B).answer ≡ Ok s
    → (j : ℕ) → j < Q.columns → (get_or (partners P Q ps) j None ≡ None) ↔ Alone ps j

abbrev pub JoinBehind : Type 0
JoinBehind = (P Q : Part) (ps : List ℕ) (B : Lists) (s : Sizes) → (join P Q ps B).answer ≡ Ok s
    → (j : ℕ) → j < Q.columns → Alone ps j → (x : List ℤ)
    → entry j (second_share (places P (partners P Q ps)) x) ≡ entry (P.columns + unshared (take j (partners P Q ps))) x

-- a pair is two numbers of ps
abbrev pub JoinCounts : Type 0
JoinCounts = (P Q : Part) (ps : List ℕ) (B : Lists) (s : Sizes) → (join P Q ps B).answer ≡ Ok s
    → (s.columns * 2 + length ps ≡ (P.columns + Q.columns) * 2) × (s.rows ≡ P.rows + Q.rows)

-- ---- the columns
abbrev pub FirstAlone : List ℕ → ℕ → Type 0
FirstAlone ps i = (k : ℕ) → k * 2 + 1 < length ps → first_of ps k ≡ i + 1 → ⊥

pub record ColumnsOf (P Q : Part) (ps : List ℕ) (l : Lists) : Type 0 where
  pub pair : (k : ℕ) → k * 2 + 1 < length ps
      → column_in l (first_of ps k - 1) ≡ shared (column_in P.lists (first_of ps k - 1)) (column_in Q.lists (second_of ps k - 1))
  pub first : (i : ℕ) → i < P.columns → FirstAlone ps i → column_in l i ≡ column_in P.lists i
  pub second : (j : ℕ) → j < Q.columns → Alone ps j
      → column_in l (P.columns + unshared (take j (partners P Q ps))) ≡ column_in Q.lists j

abbrev pub JoinColumns : Type 0
JoinColumns = (P Q : Part) (ps : List ℕ) (B : Lists) (s : Sizes) → (join P Q ps B).answer ≡ Ok s → ColumnsOf P Q ps (outcome P Q ps B s).lists
