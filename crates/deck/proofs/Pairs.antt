-- The goals of a deck's columns.
--   Fit L, fit_append   no pair of goals in the columns L breaks its rule; columns end to end
--   slacks_fit          those of the y's do not
--   text_goals_fit      nor those of a text that is read
--   Twice i             both goals of a column are the same
--   lists_same          columns with the same goals have one list of both
--   section_twice       so it is in a section with one goal a line
--   deck_twice          and of its deck
-- Assumes nothing.
use mathlib.Core.Path.{◌≡◌, refl, ap₂, subst}
use mathlib.Core.Bool.{true}
use mathlib.Core.List.{List, [], ◌∷◌, ◌++◌, map}
use Prim.Native.Nat.{ℕ, zero, suc}
use lib.IntN.{pos, nat_abs}
use lib.ListN.{length}
use Rattle.whole.specs.Lists.{entry}
use Rattle.whole.proofs.Counted.{every_all}
use Rattle.lattice.specs.Span.{All}
use Rattle.lattice.proofs.Span.{all_append, all_end}
use Rattle.problem.specs.Checks.{goal_fits}
use Rattle.problem.specs.Kinds.{Slack, none, slack, slack_of}
use Rattle.problem.specs.Limits.{max_bound}
use Rattle.problem.specs.declared.Refusal.TheVariants.{Size, Bound, Goal}
use Rattle.std.proofs.Common.{Ok}
use Rattle.sections.specs.Rules.{within}
use Rattle.sections.specs.Sections.{deck_columns, spanning, upper_from, top_goal, Line}
use Rattle.sections.specs.StatedColumns.{slack_column, slack_columns, lower_of, low_of, high_of}
use Rattle.sections.specs.declared.Interval.{Interval}
use Rattle.sections.proofs.Numbers.{same_ok, then_ok}
use Rattle.deck.specs.Posing.{Deck, all_lines, lowers, lows, highs, TextGoalsFit}
use Rattle.deck.specs.Older.{one_goal_interval, one_goal_intervals, one_goal_section}
use Rattle.deck.proofs.Whole.{in_limits, deck_within}

-- ---- no pair breaks its rule
abbrev Fit : List Interval → Type 0
Fit L = (j : ℕ) → goal_fits (entry j (map lower_of L)) (entry j (map low_of L)) (entry j (map high_of L)) ≡ true

fit_append : (is ys : List Interval) → Fit is → Fit ys → Fit (is ++ ys)
fit_append [] ys f g j = g j
fit_append (i ∷ is) ys f g zero = f 0
fit_append (i ∷ is) ys f g (suc j) = fit_append is ys (λ n. f (suc n)) g j

slack_fit : (y : Slack) → Fit (slack_column y)
slack_fit none j = refl
slack_fit (slack c lo) zero = refl
slack_fit (slack c lo) (suc j) = refl

slacks_fit : (ls : List Line) → Fit (slack_columns ls)
unfolding slack_columns
slacks_fit [] = slack_fit none
slacks_fit (l ∷ ls) = fit_append (slack_column (slack_of l.row.kind)) (slack_columns ls) (slack_fit (slack_of l.row.kind)) (slacks_fit ls)

pub text_goals_fit : TextGoalsFit
text_goals_fit s d at h =
    let w = deck_within s d at (in_limits s d at h) in
    every_all (length (lowers d)) _ (λ j _. fit_append d.intervals (slack_columns (all_lines d)) (λ n. (w.each n).goals_fit_lem)
    (slacks_fit (all_lines d)) j)

-- ---- both goals the same
abbrev Twice : Interval → Type 0
Twice i = i.low ≡ i.high

lists_same : (L : List Interval) → All Twice L → map low_of L ≡ map high_of L
lists_same [] a = refl
lists_same (i ∷ L) a = ap₂ ◌∷◌ a.0 (lists_same L a.1)

slack_twice : (y : Slack) → All Twice (slack_column y)
slack_twice none = tt
slack_twice (slack c lo) = (refl, tt)

slacks_twice : (ls : List Line) → All Twice (slack_columns ls)
unfolding slack_columns
slacks_twice [] = tt
slacks_twice (l ∷ ls) =
    (all_append Twice (slack_column (slack_of l.row.kind)) (slack_columns ls)).1 (slack_twice (slack_of l.row.kind), slacks_twice ls)

line_twice : (s : List ℕ) (at e : ℕ) (i : Interval) → one_goal_interval s at ≡ Ok (i, e) → Twice i
line_twice s at e i h =
    let a = then_ok (spanning s max_bound Bound at) _ i e h in
    let b = then_ok (upper_from s a.what a.at) _ i e a.second in
    let c =
    then_ok (within s (pos 0) (top_goal a.what) Goal b.at)
    (λ goal at. Ok (record { lower = a.what; upper = b.what; low = goal; high = goal }, at)) i e b.second in
    subst Twice {x = record { lower = a.what; upper = b.what; low = c.what; high = c.what }} (same_ok c.second) refl

lines_twice : (s : List ℕ) (k : ℕ) (done : List Interval) (at e : ℕ) (is : List Interval) → All Twice done
    → one_goal_intervals s k done at ≡ Ok (is, e) → All Twice is
unfolding one_goal_intervals
lines_twice s zero done at e is a h = subst (All Twice) (same_ok h) a
lines_twice s (suc k) done at e is a h =
    let t = then_ok (one_goal_interval s at) (λ i at. one_goal_intervals s k (done ++ (i ∷ [])) at) is e h in
    let more = all_end Twice done t.what a (line_twice s at t.at t.what t.first) in
    lines_twice s k (done ++ (t.what ∷ [])) t.at e is more t.second

section_twice : (s : List ℕ) (at e : ℕ) (is : List Interval) → one_goal_section s at ≡ Ok (is, e) → All Twice is
section_twice s at e is h =
    let t = then_ok (within s (pos 1) (pos deck_columns) Size at) (λ n at. one_goal_intervals s (nat_abs n) [] at) is e h in
    lines_twice s (nat_abs t.what) [] t.at e is tt t.second

pub deck_twice : (s : List ℕ) (e : ℕ) (d : Deck) → one_goal_section s 0 ≡ Ok (d.intervals, e) → lows d ≡ highs d
deck_twice s e d h =
    lists_same (d.intervals ++ slack_columns (all_lines d))
    ((all_append Twice d.intervals (slack_columns (all_lines d))).1 (section_twice s 0 e d.intervals h, slacks_twice (all_lines d)))
