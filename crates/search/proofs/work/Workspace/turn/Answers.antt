-- `search::work::Workspace::turn` meets its contract: the part that is reached is ranked, and searched place by place. Assumes nothing.
use mathlib.Core.Path.{sym, ◌∙◌, ap, subst}
use native.Mathlib.Omega.{arith}
use Rattle.settling.specs.Columns.{columns_in}
use Rattle.settling.specs.Steps.{first_column, step_at}
use Rattle.settling.specs.Views.{vectors}
use Rattle.search.specs.Given.{InOrder}
use Rattle.search.proofs.Turning.{ready_turnable, ranked_part, ranked_few, ranked_allowed, ranked_order, turned}
use Rattle.search.proofs.work.Workspace.turn.Goals as goal

pub turn-requires : goal.turn-requires
turn-requires c =
    let r = c.requires.0 in
    let w = c.requires.1 in (
      ready_turnable r,
      omega (arith, r.few, r.values_long, w.indexing.sizes),
      omega (arith, r.few, r.values_long),
      w.ranking,
    )

pub columns-requires : goal.columns-requires
columns-requires c = ranked_few c.requires.0 c.turn.ensures

pub invariant_of-search : goal.invariant_of-search
invariant_of-search c =
    let r = c.requires.0 in
    let a = c.args in
    let q = c.turn.ensures in
    record {
      ready = r;
      allowed = ranked_allowed r q;
      ranked =
          subst (InOrder c.turn.new.self.part (columns_in a.basis.columns a.columns.now) a.values.now) (sym c.columns.ensures) (ranked_order r q);
      indexed = c.requires.1.indexing.sets;
    }

pub first_step-step-requires : goal.first_step-step-requires
first_step-step-requires c = c.requires.1.indexing.notes

pub returns : goal.returns
returns c =
    let r = c.requires.0 in
    let a = c.args in
    let q = c.turn.ensures in
    let f = first_column (step_at c.turn.new.self.part (columns_in a.basis.columns a.columns.now) (vectors a.basis) a.values.now) in
    let part = ranked_part r q in
    let step = c.first_step-step.ensures.0 ∙ ap f c.columns.ensures ∙ turned r q in (
      (λ i. record { part = part i; step = step i }),
      record {
        indexing = record {
          sets = c.requires.1.indexing.sets;
          notes = c.first_step-step.ensures.1;
          sizes = c.turn.auto.sizes ∙ c.requires.1.indexing.sizes;
        };
        ranking = q;
      },
    )
