-- What holds at each turn of `deck::tables::compact`: the first numbers of the rows so far are copied. Assumes nothing.
use Rattle.std.proofs.Common.{◌≡◌, ◌*◌, ℕ, ℤ, List, map, take, length}
use Rattle.lattice.specs.Rows.{flat}
use Rattle.text.specs.Overwriting.{overwritten}
use Rattle.sections.specs.Sections.{coefficient_count}
use Rattle.deck.proofs.tables.compact.Given as goal

pub record Sofar (T : List (List ℤ)) (n i to : ℕ) (o u : List ℤ) : Type 0 where
  pub place : to ≡ i * n
  pub size : length u ≡ coefficient_count
  pub many : length (flat (map (take n) (take i T))) ≡ to
  pub wrote : u ≡ overwritten o 0 (flat (map (take n) (take i T)))

abbrev pub invariant-loop-row : goal.invariant-loop-row
invariant-loop-row l = Sofar l.rows l.n l.row-index l.to l.initial.out l.out
