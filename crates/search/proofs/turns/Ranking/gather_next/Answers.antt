-- `search::turns::Ranking::gather_next` meets its contract: a column out of bounds tells the part; in the goals part the order has its columns
-- already. Assumes nothing.
use mathlib.Core.Path.{sym, ◌∙◌}
use native.Mathlib.Omega.{arith}
use Rattle.search.proofs.Turning.{gathered_goals, gathered_bounds, goals_measurable}
use Rattle.search.proofs.turns.Ranking.gather_next.Goals as goal

pub gather-requires-then-self-eq0 : goal.gather-requires-then-self-eq0
gather-requires-then-self-eq0 c =
    let a = c.args in
    let g = c.gather in (
      goals_measurable a.columns.now a.values.now c.requires.0
          (gathered_goals a.columns.now a.values.now g.new.self c.requires.1 g.ensures.0 g.ensures.1 (omega arith)),
      c.requires.1,
      g.ensures.1.long,
    )

pub returns-then-self-eq0 : goal.returns-then-self-eq0
returns-then-self-eq0 c =
    let a = c.args in
    let g = c.gather in
    let r = c.gather-then-self-eq0 in (
      r.ensures.0 ∙ sym (gathered_goals a.columns.now a.values.now g.new.self c.requires.1 g.ensures.0 g.ensures.1 (omega arith)),
      r.ensures.1,
    )

pub returns-else-self-eq0 : goal.returns-else-self-eq0
returns-else-self-eq0 c =
    let a = c.args in
    let g = c.gather in (
      g.ensures.0 ∙ sym (gathered_bounds a.columns.now a.values.now g.new.self c.requires.1 g.ensures.0 g.ensures.1 (omega arith)),
      g.ensures.1,
    )
