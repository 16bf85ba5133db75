-- `search::given::Search::passes_by` meets its contract: the cell with the change added is the column that is tested. Assumes nothing.
use Rattle.search.proofs.Testing.{moved_fits, moved_cell}
use Rattle.search.proofs.given.Search.passes_by.Goals as goal

pub overflow_add-moved : goal.overflow_add-moved
overflow_add-moved c =
    let a = c.args in
    moved_fits a.self.now a.o c.requires.0 a.q a.j c.cell_at-c.result c.change-e.result c.cell_at-c.ensures c.change-e.ensures.value

pub passes-requires : goal.passes-requires
passes-requires c =
    let a = c.args in (
      moved_cell a.self.now a.o c.requires.0 a.q a.j c.cell_at-c.result c.change-e.result c.cell_at-c.ensures c.change-e.ensures.value,
      c.requires.1,
    )
