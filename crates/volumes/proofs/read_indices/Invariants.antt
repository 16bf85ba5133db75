-- What holds at each turn of `volumes::read_indices`: what is left to read, after the indices done, is what was to be read, and the marks are those
-- of the indices done. Assumes nothing.
use Rattle.std.proofs.Common.{◌≡◌, ℕ, ◌-◌, List, [], Bool}
use Rattle.sections.specs.Rules.{Outcome}
use Rattle.sections.specs.Sections.{deck_columns}
use Rattle.volumes.specs.Volumes.{SweepPath, indices}
use Rattle.volumes.specs.VolumesRead.{Named, marks_of}
use Rattle.volumes.proofs.read_indices.Given as goal

pub record Sofar (s : List ℕ) (o : Outcome SweepPath) (k count i p : ℕ) (u : List Bool) : Type 0 where
  pub done : SweepPath
  pub named : Named deck_columns done
  pub rest : indices s (k - i) count done p ≡ o
  pub marks : u ≡ marks_of done

abbrev pub invariant-loop : goal.invariant-loop
invariant-loop l = Sofar l.s (indices l.s l.k l.count [] l.fn.at) l.k l.count l.counter l.at l.marks
