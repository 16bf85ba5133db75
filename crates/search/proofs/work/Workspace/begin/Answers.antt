-- `search::work::Workspace::begin` meets its contract: it changes the sets alone. Assumes nothing.
use Rattle.search.proofs.work.Workspace.begin.Goals as goal

pub returns : goal.returns
returns c =
    let e = c.requires.0 in
    record {
      indexing = record { sets = c.find_sets.ensures; notes = e.notes c.args.basis.columns; sizes = e.sizes };
      ranking = e.ranking;
    }
