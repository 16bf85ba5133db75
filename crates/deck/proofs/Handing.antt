-- What is handed in for the columns of a deck.
--   stated_padded     buffers state what the lists at their front state
--   small_columns     the first columns are the intervals, which lie within the limits
--   given_padded, ideals_padded   for as many columns as a buffer holds: the marks and numbers of the deck's columns, and 0 behind them
-- Assumes nothing.
use mathlib.Core.Path.{◌≡◌, refl, sym, ◌∙◌, ap, subst}
use mathlib.Core.List.{List, ◌++◌, map}
use Prim.Native.Nat.{ℕ, ◌+◌, ◌-◌, ◌*◌, ◌<◌, ◌≤◌}
use native.Mathlib.Omega.{arith}
use lib.IntN.{ℤ, pos, nat_abs}
use lib.ListN.{length}
use Rattle.whole.specs.Lists.{zeros, entry}
use Rattle.std.proofs.Common.{None}
use Rattle.goals.specs.Wishes.{Wish, wish_mark, wish_number}
use Rattle.neighbours.specs.Neighbours.{Stated, stated_by, neighbour_wish, numbers_from, given_of, ideals_of}
use Rattle.neighbours.specs.Beside.{SmallColumns}
use Rattle.neighbours.proofs.Laws.{wish_past, numbers_length, numbers_past}
use Rattle.sections.specs.Sections.{deck_columns}
use Rattle.sections.specs.StatedColumns.{lower_of, upper_of, low_of, high_of, slack_columns, padded}
use Rattle.sections.specs.declared.Interval.{Interval}
use Rattle.sections.proofs.Limits.{Within}
use Rattle.deck.specs.Posing.{Deck, all_lines, lowers, uppers, lows, highs}
use Rattle.deck.proofs.Lists.{entry_padded, entry_front}

pub stated_padded : (n m k a b : ℕ) (c lo hi gs hs : List ℤ)
    → stated_by n m k (padded a c) (padded b lo) (padded b hi) (padded b gs) (padded b hs) ≡ stated_by n m k c lo hi gs hs
stated_padded n m k a b c lo hi gs hs =
    (λ i. record {
      rows = m;
      intervals = k;
      coefficient = λ r j. entry_padded a (r * n + j) c i;
      lower = λ j. entry_padded b j lo i;
      upper = λ j. entry_padded b j hi i;
      low = λ j. entry_padded b j gs i;
      high = λ j. entry_padded b j hs i;
    })

-- ---- the first columns
small_front : (f : Interval → ℤ) (most size : ℕ) (u v : List Interval) → ((j : ℕ) → nat_abs (entry j (map f u)) ≤ most)
    → (j : ℕ) → j < length u → nat_abs (entry j (padded size (map f (u ++ v)))) ≤ most
small_front f most size u v h j l =
    subst (λ (x : ℤ). nat_abs x ≤ most) (sym (entry_padded size j (map f (u ++ v)) ∙ entry_front f u v j l)) (h j)

pub small_columns : (size : ℕ) (d : Deck) → Within d.intervals
    → SmallColumns (length d.intervals) (padded size (lowers d)) (padded size (uppers d)) (padded size (lows d))
    (padded size (highs d))
small_columns size d w =
    let ys = slack_columns (all_lines d) in
    record {
      lower = small_front lower_of _ size d.intervals ys (λ j. (w.each j).lower_small);
      upper = small_front upper_of _ size d.intervals ys (λ j. (w.each j).upper_small);
      low = small_front low_of _ size d.intervals ys (λ j. (w.each j).low_small);
      high = small_front high_of _ size d.intervals ys (λ j. (w.each j).high_small);
    }

-- ---- nothing is handed in past the intervals
module _ (S : Stated) (n : ℕ) (h : S.intervals ≤ n) (k : n ≤ deck_columns) where
  handed_padded : (g : Wish → ℤ) → g None ≡ pos 0
      → numbers_from (λ j. g (neighbour_wish S j)) deck_columns 0 ≡ padded deck_columns (numbers_from (λ j. g (neighbour_wish S j)) n 0)
  handed_padded g e =
      let f : ℕ → ℤ = λ j. g (neighbour_wish S j) in
      numbers_past f n (deck_columns - n) deck_columns 0 (omega (arith, k)) (λ i l. ap g (wish_past S i (omega (arith, h, l))) ∙ e)
      ∙ ap (λ (r : ℕ). numbers_from f n 0 ++ zeros (deck_columns - r)) (sym (numbers_length f n 0))

  pub given_padded : given_of S deck_columns ≡ padded deck_columns (given_of S n)
  given_padded = handed_padded wish_mark refl

  pub ideals_padded : ideals_of S deck_columns ≡ padded deck_columns (ideals_of S n)
  ideals_padded = handed_padded wish_number refl
