-- `search::work::Workspace::new` meets its contract. Assumes nothing.
use mathlib.Core.Path.{refl}
use Rattle.search.proofs.Finding.{cleared, unnoted}
use Rattle.search.proofs.work.Workspace.new.Goals as goal

pub returns : goal.returns
returns c = record { supports = refl; holders = cleared; ranking = c.new.ensures; sizes = refl; notes = unnoted }
