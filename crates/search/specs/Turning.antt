-- What goes from one step to the next: the part of the last ranking, with its columns.
--   Ranking              the part, and a list that begins with the columns, with their count (declared in src/); `columns_in_order` the columns
--   Unranked x           what is kept before the first step
--   Turnable T v         the columns can be ranked in the bounds part, and in the goals part once it is reached
--   Arranged T v x       x has the columns of the last ranking, if that was of the goals part, which still goes on
--   Gathered T v x       x has the columns of its part, however arranged
--   RankedIn T v x       x is the ranking of the part that is reached
-- Assumes nothing.
use Rattle.std.specs.Prelude.{◌≡◌, List, ℕ, ◌≤◌, ℤ, length, take}
use Rattle.problem.specs.Limits.{max_columns}
use Rattle.settling.specs.declared.Column.{Column}
use Rattle.settling.specs.declared.Part.TheVariants.{Bounds, Goals}
use Rattle.settling.specs.Columns.{columns_in}
use Rattle.settling.specs.Steps.{part_of, ranked_at, ranking}
use Rattle.search.specs.declared.turns.Ranking.{Ranking}
use Rattle.search.specs.Ranked.{Rankable, Permuted}

abbrev pub columns_in_order : Ranking → List ℕ
columns_in_order x = take x.len x.order

pub record Unranked (x : Ranking) : Type 0 where
  pub part : x.part ≡ Bounds
  pub none : x.len ≡ 0
  pub long : length x.order ≡ max_columns

pub record Turnable (T : List Column) (v : List ℤ) : Type 0 where
  pub bounds : Rankable Bounds T v
  pub goals : part_of (columns_in (length v) T) v ≡ Goals → Rankable Goals T v

pub record Arranged (T : List Column) (v : List ℤ) (x : Ranking) : Type 0 where
  pub long : length x.order ≡ max_columns
  pub part : x.part ≡ Goals → part_of (columns_in (length v) T) v ≡ Goals
  pub few : x.part ≡ Goals → x.len ≤ length v
  pub columns : x.part ≡ Goals → Permuted (ranked_at Goals (columns_in (length v) T) v) (length v) (columns_in_order x)

pub record Gathered (T : List Column) (v : List ℤ) (x : Ranking) : Type 0 where
  pub long : length x.order ≡ max_columns
  pub few : x.len ≤ length v
  pub columns : Permuted (ranked_at x.part (columns_in (length v) T) v) (length v) (columns_in_order x)

pub record RankedIn (T : List Column) (v : List ℤ) (x : Ranking) : Type 0 where
  pub long : length x.order ≡ max_columns
  pub part : x.part ≡ part_of (columns_in (length v) T) v
  pub few : x.len ≤ length v
  pub columns : columns_in_order x ≡ ranking x.part (columns_in (length v) T) v
