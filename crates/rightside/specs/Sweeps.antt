-- What taking the rows of a form from a list asks, answers and leaves.
--   Sweepable w k t        t holds k rows of w numbers within ±M, with leads above 0 that rise
--   swept_of k t v         the k rows in t taken from v
--   found_of p t b         the right side of the form in the list t, for the right sides b
--   Findable p v t b s     what that asks
-- Assumes nothing.
use Rattle.std.specs.Prelude.{◌≡◌, false, List, ◌++◌, ℕ, ◌+◌, ◌*◌, ℤ, length}
use Rattle.whole.specs.Lists.{zeros}
use Rattle.lattice.specs.Rows.{neg, chop}
use Rattle.lattice.specs.Span.{All}
use Rattle.lattice.specs.Hermite.{Rising}
use Rattle.problem.specs.declared.Problem.{Problem}
use Rattle.tableau.specs.Elimination.{Left}
use Rattle.tableau.specs.RightSide.{Solved, sweep, right_side}
use Rattle.tableau.specs.Within.{Within}
use Rattle.tableau.specs.RowSteps.{Leads}

pub record Sweepable (w k : ℕ) (t : List ℤ) : Type 0 where
  pub long : length t ≡ k * w
  pub leads : All Leads (chop k w t)
  pub rises : Rising 0 (chop k w t)
  pub small : Within t

abbrev pub swept_of : ℕ → List ℤ → List ℤ → Left
swept_of k t v = sweep (chop k (length v) t) v

abbrev pub found_of : Problem → List ℤ → List ℤ → Solved
found_of p t b = right_side p.rows (chop p.columns (p.rows + p.columns) t) false (neg b ++ zeros p.columns)

-- a list v of zeros to work in, the form in t, right sides b within ±M, and a buffer s for the starting list
pub record Findable (p : Problem) (v t b s : List ℤ) : Type 0 where
  pub zero : v ≡ zeros (p.rows + p.columns)
  pub form : Sweepable (p.rows + p.columns) p.columns t
  pub right : length b ≡ p.rows
  pub small : Within b
  pub start : length s ≡ p.columns
