-- `search::given::Search::first_step` meets its contract: place by place the incumbent is the least number so far; what no move is better than is
-- the step.
-- Assumes nothing.
use mathlib.Core.Path.{◌≡◌, sym, ◌∙◌, ap}
use mathlib.Core.Logic.{inr}
use mathlib.Core.Bool.{true, ◌&&◌}
use Prim.Native.Nat.{ℕ, ◌-◌, ◌≤◌}
use native.Mathlib.Omega.{arith}
use lib.ListN.{length, get_or}
use Rattle.whole.proofs.Tests.{both_true}
use Rattle.search.specs.declared.given.Search.{Search}
use Rattle.search.specs.Sets.{has}
use Rattle.search.proofs.Finding.{set_lent}
use Rattle.search.proofs.Placing.{before_none, searched_past, searched_end, searched_on, searched_same, fresh_of, final_step}
use Rattle.search.proofs.Setting.{minus_has}
use Rattle.search.proofs.given.Search.first_step.Goals.{After-meet-fresh}
use Rattle.search.proofs.given.Search.first_step.Goals as goal

-- the vectors that are seen at the place are among those that were not seen
module _ (c : After-meet-fresh) where
  abbrev S : Search
  S = c.args.self.now

  abbrev i : ℕ
  i = get_or S.order.now c.loop-k.k 0

  lent : get_or S.holders.now i c.index-self-i.result ≡ get_or S.holders.now i 0
  lent =
      set_lent S.holders.now i c.index-self-i.result
      (omega (arith, S.ranked.below c.loop-k.k c.loop-k-test.true, S.ready.few, S.indexed.holders_long))

  met : (s : ℕ) → has c.meet-fresh.result s
      ≡ has (get_or c.args.self.now.holders.now (get_or c.args.self.now.order.now c.loop-k.k 0) 0) s && has c.loop-k.unseen s
  met s = c.meet-fresh.ensures s ∙ ap (λ (w : ℕ). has w s && has c.loop-k.unseen s) lent

  among : (s : ℕ) → has c.meet-fresh.result s ≡ true → has c.loop-k.unseen s ≡ true
  among s e = (both_true _ (has c.loop-k.unseen s) (sym (met s) ∙ e)).1

pub loop-k-init : goal.loop-k-init
loop-k-init c = (c.requires, inr (before_none c.args.self.now c.below-unseen.result c.below-unseen.ensures))

pub returns-then-z-k : goal.returns-then-z-k
returns-then-z-k c = (
  c.step_in.ensures ∙ final_step c.args.self.now _ (searched_past c.loop-k.invariant.1 c.if-z-k.true),
  c.loop-k.invariant.0,
)

pub bounds-self-i : goal.bounds-self-i
bounds-self-i c =
    let S = c.args.self.now in
    omega (arith, S.ranked.below c.loop-k.k c.loop-k-test.true, S.ready.few, S.indexed.holders_long)

pub search_place-z-requires : goal.search_place-z-requires
search_place-z-requires c =
    let q = searched_on c.loop-k.invariant.1 c.if-z-k.false in
    (c.loop-k.invariant.0, q, fresh_of _ q.unseen (met (goal.at.search_place-z-requires c).After-meet-fresh), c.if-z-k.false)

pub without-unseen-requires : goal.without-unseen-requires
without-unseen-requires c = among (goal.at.without-unseen-requires c).After-meet-fresh

pub loop-k-preserved : goal.loop-k-preserved
loop-k-preserved c =
    let u = c.loop-k.unseen in
    let w = c.meet-fresh.result in (
      c.search_place-z.ensures.1,
      searched_same c.args.self.now (u - w) c.without-unseen.result
          (λ s. c.without-unseen.ensures s ∙ sym (minus_has u w (among (goal.at.loop-k-preserved c).After-meet-fresh) s)) _ _
          c.search_place-z.ensures.0,
    )

pub returns : goal.returns
returns c =
    let S = c.args.self.now in
    let n : length S.order.now ≤ c.loop-k.k = omega arith in
    (c.step_in-2.ensures ∙ final_step S _ (searched_end c.loop-k.invariant.1 n), c.loop-k.invariant.0)
