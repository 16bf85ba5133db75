-- `search::given::Search::pair_fits` meets its contract: the sets of both vectors have the columns that they change. Assumes nothing.
use mathlib.Core.Path.{sym, ◌∙◌, ap, ap₂, subst}
use mathlib.Core.Bool.{◌||◌}
use native.Mathlib.Omega.{arith}
use Prim.Native.Nat.{ℕ}
use Rattle.whole.specs.Tests.{every}
use Rattle.settling.specs.declared.Measure.{Measure}
use Rattle.settling.specs.Sizes.{Crossable}
use Rattle.search.specs.Searches.{passing}
use Rattle.search.specs.Sets.{has}
use Rattle.search.proofs.Alone.{measured_room}
use Rattle.search.proofs.Finding.{set_lent}
use Rattle.search.proofs.Testing.{both_covered, none_blocks}
use Rattle.search.proofs.given.Search.pair_fits.Goals as goal

pub find_blocking-requires : goal.find_blocking-requires
find_blocking-requires c =
    let a = c.args in
    let S = a.self.now in
    let p = c.requires in
    let x = c.index-self-o in
    let y = c.index-self-o-2 in
    let e = set_lent S.supports.now a.o.s x.result (omega (arith, p.0.s, S.ready.few_vectors, S.indexed.supports_long)) in
    let f = set_lent S.supports.now a.o.t y.result (omega (arith, p.0.t, S.ready.few_vectors, S.indexed.supports_long)) in (
      p.0,
      subst Crossable (sym c.measure.ensures) (measured_room S a.i p.1),
      p.2,
      both_covered S a.o p.0 c.union-changed.result
          (λ j. c.union-changed.ensures j ∙ ap₂ (λ (v w : ℕ). has v j || has w j) e f),
    )

pub returns : goal.returns
returns c =
    let a = c.args in
    let S = a.self.now in
    none_blocks S.basis.columns (passing S a.o c.measure.result) c.find_blocking.result c.find_blocking.ensures c.is_none.result c.is_none.ensures
    ∙ ap (λ (q : Measure). every S.basis.columns (passing S a.o q)) c.measure.ensures
