-- Texts from before document 02 changed them. (iii): "Older texts gain a closing 0." (v): "an interval's line in the text has four numbers", and
-- "Older cases have both equal."
--   one_goal_interval, -Intervals, -Section   an interval by its line as it was, so many of them, and their section
--   older_deck s      the deck of a text as it was before (iii): two sections, and nothing behind them
--   one_goal_deck s   the deck of a text as it was before (v): three sections, and nothing behind them
--   GainsZero s w     the text w has the numbers of the text s and then a 0, however they are parted
--   twice_from k ts   the tokens ts, which begin with k lines, with the goal of each line written twice
--   goals_twice ts    the tokens ts of a text, with each goal written twice
--   GoalsTwice s w    the text w has the numbers of the text s, each goal written twice, however they are parted
--   IsRead w d        the text w is read as the deck d
--   OneGoalTexts      so it is for every text that was read before (v) and has each goal written twice, as long as it is not too long; in its problem
--                     the low and the high goals are one list
--   OlderTexts        and for every text that was read before (iii), has gained a 0 and has each goal written twice; its rows are its lines alone
-- The theorems are `one_goal_texts` and `older_texts`, in proofs/Older.
-- Assumes nothing.
use Rattle.std.specs.Prelude.{◌≡◌, List, [], ◌∷◌, ◌++◌, ℕ, zero, suc, ◌≤◌, pos, nat_abs, length, Some, None, Ok}
use Rattle.text.specs.Tokens.{Token, tokens}
use Rattle.problem.specs.Limits.{max_bound}
use Rattle.problem.specs.declared.Refusal.TheVariants.{Size, Bound, Goal}
use Rattle.sections.specs.Rules.{Outcome, then, within, closed}
use Rattle.sections.specs.Sections.{deck_columns, max_text, spanning, upper_from, top_goal, row_section}
use Rattle.sections.specs.declared.Interval.{Interval}
use Rattle.volumes.specs.Volumes.{volume_section}
use Rattle.deck.specs.Posing.{Deck, read_deck, all_lines, lows, highs}

-- ---- texts as they were

-- "for each its lower, upper and goal"; "Older cases have both equal."
abbrev pub one_goal_interval : List ℕ → ℕ → Outcome Interval
one_goal_interval s at =
    then (spanning s max_bound Bound at) (λ lower at.
    then (upper_from s lower at) (λ upper at.
    then (within s (pos 0) (top_goal lower) Goal at) (λ goal at.
    Ok (record { lower = lower; upper = upper; low = goal; high = goal }, at))))

-- k intervals, after those done
unfoldable pub one_goal_intervals : List ℕ → ℕ → List Interval → ℕ → Outcome (List Interval)
one_goal_intervals s zero done at = Ok (done, at)
one_goal_intervals s (suc k) done at = then (one_goal_interval s at) (λ i at. one_goal_intervals s k (done ++ (i ∷ [])) at)

abbrev pub one_goal_section : List ℕ → ℕ → Outcome (List Interval)
one_goal_section s at = then (within s (pos 1) (pos deck_columns) Size at) (λ n at. one_goal_intervals s (nat_abs n) [] at)

-- before "A third section follows the rows"
abbrev pub older_deck : List ℕ → Outcome Deck
older_deck s =
    then (one_goal_section s 0) (λ is at.
    then (row_section s (length is) at) (λ ls at.
    closed s (record { intervals = is; lines = ls; volumes = [] }) at))

-- before "an interval's line in the text has four numbers"
abbrev pub one_goal_deck : List ℕ → Outcome Deck
one_goal_deck s =
    then (one_goal_section s 0) (λ is at.
    then (row_section s (length is) at) (λ ls at.
    then (volume_section s (length is) (length ls) at) (λ vs at.
    closed s (record { intervals = is; lines = ls; volumes = vs }) at)))

-- ---- how they are brought up to date

-- "gain a closing 0"
abbrev pub GainsZero : List ℕ → List ℕ → Type 0
GainsZero s w = tokens w ≡ tokens s ++ (Some (pos 0) ∷ [])

-- "both equal": each line's goal stands once more behind it; what is too short for a line stays
unfoldable pub twice_from : ℕ → List Token → List Token
twice_from zero ts = ts
twice_from (suc k) [] = []
twice_from (suc k) (lower ∷ []) = lower ∷ []
twice_from (suc k) (lower ∷ (upper ∷ [])) = lower ∷ (upper ∷ [])
twice_from (suc k) (lower ∷ (upper ∷ (goal ∷ ts))) = lower ∷ (upper ∷ (goal ∷ (goal ∷ twice_from k ts)))

-- "the count of intervals, then for each" its line
abbrev pub goals_twice : List Token → List Token
goals_twice [] = []
goals_twice (Some n ∷ ts) = Some n ∷ twice_from (nat_abs n) ts
goals_twice (None ∷ ts) = None ∷ ts

abbrev pub GoalsTwice : List ℕ → List ℕ → Type 0
GoalsTwice s w = tokens w ≡ goals_twice (tokens s)

-- ---- how they are read
abbrev pub IsRead : List ℕ → Deck → Type 0
IsRead w d = (end : ℕ) × (read_deck w ≡ Ok (d, end))

abbrev pub OneGoalTexts : Type 0
OneGoalTexts =
    (s w : List ℕ) (d : Deck) (at : ℕ) → one_goal_deck s ≡ Ok (d, at) → GoalsTwice s w → length w ≤ max_text
    → IsRead w d × (lows d ≡ highs d)

abbrev pub OlderTexts : Type 0
OlderTexts =
    (s v w : List ℕ) (d : Deck) (at : ℕ) → older_deck s ≡ Ok (d, at) → GainsZero s v → GoalsTwice v w → length w ≤ max_text
    → IsRead w d × (lows d ≡ highs d) × (all_lines d ≡ d.lines)
