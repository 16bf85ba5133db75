-- `tableau::form` meets its contract: the filled table is the problem's tableau. Assumes nothing.
use mathlib.Core.Path.{◌∙◌}
use Rattle.tableau.proofs.Forms.{table_within, form_value, form_left}
use Rattle.tableau.proofs.form.Goals as goal

pub eliminate-requires-clause-within : goal.eliminate-requires-clause-within
eliminate-requires-clause-within c = rw c.fill.ensures (table_within c.requires)

pub returns : goal.returns
returns c = record {
  value = c.eliminate.ensures.value ∙ form_value c.requires c.fill.ensures;
  t_after = c.eliminate.ensures.t_after ∙ form_left c.requires c.fill.ensures c.fill.auto.t;
}
