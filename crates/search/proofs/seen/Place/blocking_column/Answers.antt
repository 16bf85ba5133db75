-- `search::seen::Place::blocking_column` meets its contract: the vector's set has the columns that it changes. Assumes nothing.
use mathlib.Core.Path.{sym, subst}
use native.Mathlib.Omega.{arith}
use lib.ListN.{get_or}
use Rattle.settling.specs.declared.Move.{Move}
use Rattle.settling.specs.Moves.{changes}
use Rattle.settling.specs.Views.{OfBasis}
use Rattle.search.specs.Probes.{Covered}
use Rattle.search.specs.Progress.{alone}
use Rattle.search.specs.Searches.{basis_of}
use Rattle.search.proofs.Alone.{alone_basis, here_room}
use Rattle.search.proofs.Finding.{set_lent}
use Rattle.search.proofs.Testing.{alone_covered}
use Rattle.search.proofs.seen.Place.blocking_column.Goals as goal

pub find_blocking-requires : goal.find_blocking-requires
find_blocking-requires c =
    let a = c.args in
    let S = a.self.now.search.now in
    let l = a.lead in
    let p = c.requires in
    let r = c.index-self-lead in
    let e = sym c.alone.ensures in
    let set = set_lent S.supports.now l.s r.result (omega (arith, p.0, S.ready.few_vectors, S.indexed.supports_long)) in (
      subst (OfBasis S.basis.vectors) e (alone_basis S.basis.vectors l.s l.sign p.0),
      here_room a.self.now,
      p.1,
      subst (λ (o : Move). Covered S.basis.columns (changes (basis_of S) o) (get_or S.supports.now l.s r.result)) e
          (subst (Covered S.basis.columns (changes (basis_of S) (alone l.s l.sign))) (sym set) (alone_covered S l.s l.sign p.0)),
    )
