-- The end of a whole assignment, from the starting list on, in the terms of the buffers: seating, then settling over the basis.
--   Finished             the answer, and what the interval list and the strides then hold; `finished_with` makes one of the three
--   settled_by k C N v   with the step limit k the list v settled over the basis N, which gives the strides too
--   finished k C N s v d   from the starting list s, with v and d in the lists before; `on_seat` by what seating finds
--   Finishable ..        what it needs, with the columns in the table c
-- Assumes nothing.
use Rattle.std.specs.Prelude.{◌≡◌, List, ℕ, ℤ, length, Ok, Err}
use Rattle.problem.specs.Answers.{Answer}
use Rattle.settling.specs.declared.Basis.{Basis}
use Rattle.settling.specs.declared.Column.{Column}
use Rattle.settling.specs.Columns.{Columns}
use Rattle.settling.specs.Seating.{Seated, seat}
use Rattle.settling.specs.Seats.{Seatable}
use Rattle.settling.specs.Settle.{settle}
use Rattle.settling.specs.Strides.{strides}

pub record Finished : Type 0 where
  pub answer : Answer
  pub values : List ℤ
  pub strides : List ℕ

abbrev pub finished_with : Answer → List ℤ → List ℕ → Finished
finished_with answer values strides = record { answer = answer; values = values; strides = strides }

abbrev pub settled_by : ℕ → Columns → List (List ℤ) → List ℤ → Finished
settled_by limit C N v = finished_with (Ok (settle limit C N v).verdict) (settle limit C N v).values (strides C.count N)

abbrev pub on_seat : ℕ → Columns → List (List ℤ) → List ℤ → List ℕ → Seated → Finished
on_seat limit C N v d (Err why) = finished_with (Err why) v d
on_seat limit C N v d (Ok u) = settled_by limit C N u

abbrev pub finished : ℕ → Columns → List (List ℤ) → List ℤ → List ℤ → List ℕ → Finished
finished limit C N s v d = on_seat limit C N v d (seat C N s)

pub record Finishable (B : Basis) (s : List ℤ) (c : List Column) (v : List ℤ) (d : List ℕ) : Type 0 where
  pub seatable : Seatable B s c
  pub values : length v ≡ B.columns
  pub strides : length d ≡ B.columns
