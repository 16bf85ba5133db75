-- What is kept between the steps of settling.
--   Workspace            the sets of the basis, the last ranking, the measures that it went by, and the notes (declared in src/)
--   Empty w              no sets, no ranking, and notes that name the first column
--   Indexing B w         the sets are those of the basis B, and the notes name columns
--   Fresh B w            and nothing is ranked yet
--   Standing B T v w     and the ranking still has its columns, if it is of the goals part
--   Turned B T v w       and the ranking is that of the part that is reached
-- Assumes nothing.
use Rattle.std.specs.Prelude.{◌≡◌, List, ℕ, ℤ, length}
use Rattle.problem.specs.Limits.{max_columns}
use Rattle.settling.specs.declared.Basis.{Basis}
use Rattle.settling.specs.declared.Column.{Column}
use Rattle.search.specs.declared.work.Workspace.{Workspace}
use Rattle.search.specs.Notes.{Noted}
use Rattle.search.specs.Sets.{Indexed, Blank}
use Rattle.search.specs.Turning.{Unranked, Arranged, RankedIn}

pub record Empty (w : Workspace) : Type 0 where
  pub supports : length w.supports ≡ max_columns
  pub holders : Blank w.holders
  pub ranking : Unranked w.ranking
  pub sizes : length w.sizes ≡ max_columns
  pub notes : (n : ℕ) → Noted n w.notes

pub record Indexing (B : Basis) (w : Workspace) : Type 0 where
  pub sets : Indexed B w.supports w.holders
  pub notes : Noted B.columns w.notes
  pub sizes : length w.sizes ≡ max_columns

pub record Fresh (B : Basis) (w : Workspace) : Type 0 where
  pub indexing : Indexing B w
  pub ranking : Unranked w.ranking

pub record Standing (B : Basis) (T : List Column) (v : List ℤ) (w : Workspace) : Type 0 where
  pub indexing : Indexing B w
  pub ranking : Arranged T v w.ranking

pub record Turned (B : Basis) (T : List Column) (v : List ℤ) (w : Workspace) : Type 0 where
  pub indexing : Indexing B w
  pub ranking : RankedIn T v w.ranking
