-- `search::seen::Place::pairs_of` meets its contract: a vector that leaves the column noted as it is does not help. Assumes nothing.
use mathlib.Core.Path.{◌≡◌, ◌∙◌, ap}
use mathlib.Core.Bool.{◌&&◌}
use Prim.Native.Nat.{ℕ, ◌<◌}
use native.Mathlib.Omega.{arith}
use mathlib.Core.List.{List}
use lib.ListN.{get_or}
use Rattle.search.specs.Notes.{blocking_at}
use Rattle.search.specs.Sets.{has}
use Rattle.search.proofs.Finding.{set_lent}
use Rattle.search.proofs.Partners.{partners_others, partners_all}
use Rattle.search.proofs.seen.Place.pairs_of.Goals.{After-meet-partners}
use Rattle.search.proofs.seen.Place.pairs_of.Goals as goal

-- the vectors that change the column noted, of those that are left
module _ (c : After-meet-partners) where
  abbrev H : List ℕ
  H = c.args.self.now.search.now.holders.now

  inside : c.of-f.result < c.args.self.now.search.now.basis.columns
  inside = omega (arith, c.of-f.ensures, c.requires.0.blocked.inside)

  lent : get_or H c.of-f.result c.index-self-f.result ≡ get_or H c.of-f.result 0
  lent =
      let S = c.args.self.now.search.now in
      set_lent H c.of-f.result c.index-self-f.result (omega (arith, inside, S.ready.few, S.indexed.holders_long))

  met : (t : ℕ) → has c.meet-partners.result t
      ≡ has (get_or c.args.self.now.search.now.holders.now (blocking_at c.args.notes.now c.args.lead.s c.args.lead.sign) 0) t && has c.args.left t
  met t = c.meet-partners.ensures t ∙ ap (λ (w : ℕ). has w t && has c.args.left t) (lent ∙ ap (λ (f : ℕ). get_or H f 0) c.of-f.ensures)

pub bounds-notes-lead : goal.bounds-notes-lead
bounds-notes-lead c = let S = c.args.self.now.search.now in omega (arith, c.requires.0.inside, S.ready.few_vectors, c.requires.0.long)

pub bounds-self-f : goal.bounds-self-f
bounds-self-f c =
    let S = c.args.self.now.search.now in
    omega (arith, c.of-f.ensures, c.requires.0.blocked.inside, S.ready.few, S.indexed.holders_long)

pub pairs_with-requires : goal.pairs_with-requires
pairs_with-requires c =
    let p = c.requires in
    (p.0.inside, inside c, p.0.zero_before, partners_others _ p.0 p.1 (met c), p.2)

pub returns : goal.returns
returns c = (c.pairs_with.ensures.0, partners_all _ c.requires.0 c.requires.1 (met (goal.at.returns c).After-meet-partners) _ c.pairs_with.ensures.1)
