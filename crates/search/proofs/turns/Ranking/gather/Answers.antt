-- `search::turns::Ranking::gather` meets its contract: the order holds the ranked columns below j. Assumes nothing.
use mathlib.Core.Path.{refl, sym, ◌∙◌, ap}
use mathlib.Core.Bool.{Bool, cond}
use mathlib.Core.List.{List, [], ◌∷◌, ◌++◌}
use Prim.Native.Nat.{ℕ, ◌+◌, ◌-◌, ◌<◌}
use native.Mathlib.Numerals.{add-one}
use native.Mathlib.Omega.{arith}
use lib.ListN.{length, take, set, length-set}
use lib.Seq.{take-set-le, take-suc-set}
use Rattle.settling.specs.Columns.{columns_in}
use Rattle.settling.specs.Steps.{is_ranked, ranked_at, rank_from}
use Rattle.settling.proofs.Rankings.{none_larger, rising_end, rising_more}
use Rattle.search.proofs.turns.Ranking.gather.Goals.{then-is_ranked, else-is_ranked}
use Rattle.search.proofs.turns.Ranking.gather.Goals as goal

pub loop-j-preserved : goal.loop-j-preserved
loop-j-preserved c =
    let j = c.loop-j.j in
    let L = c.loop-j.self.order in
    let len = c.loop-j.len in
    let i = c.loop-j.invariant in
    let n = length c.args.values.now in
    let R = ranked_at c.args.part (columns_in n c.args.columns.now) c.args.values.now in
    let X = take len L in
    let e = c.is_ranked.ensures ∙ ap (is_ranked c.args.part) c.cell_at.ensures in
    let room : len < length L = omega (arith, i.0, i.1, c.requires.1, c.requires.2, c.loop-j-test.true) in
    let all = sym (rising_more R n X j c.loop-j-test.true) ∙ i.2 in
    let rest = λ (Y : List ℕ). Y ++ rank_from R none_larger (n - (j + 1)) (j + 1) in
    elim c.if-is_ranked.branch [
      | then-is_ranked w ↦ rw w.len-is (
        omega (arith, i.0),
        length-set L len j ∙ i.1,
        ap rest (ap (λ (k : ℕ). take k (set L len j)) (add-one len) ∙ take-suc-set L len j room
            ∙ sym (ap (λ (t : Bool). cond t (X ++ (j ∷ [])) X) (sym e ∙ w.if-is_ranked.true)))
            ∙ all,
      )
      | else-is_ranked w ↦ rw w.len-is (
        omega (arith, i.0),
        length-set L len j ∙ i.1,
        ap rest (take-set-le len L len j (omega arith) ∙ sym (ap (λ (t : Bool). cond t (X ++ (j ∷ [])) X) (sym e ∙ w.if-is_ranked.false))) ∙ all,
      )
    ]

pub returns : goal.returns
returns c =
    let i = c.loop-j.invariant in
    let n = length c.args.values.now in
    let R = ranked_at c.args.part (columns_in n c.args.columns.now) c.args.values.now in
    let X = take c.loop-j.len c.loop-j.self.order in (
      refl,
      record {
        long = i.1 ∙ c.requires.2;
        few = omega (arith, i.0);
        columns = record { by = none_larger; is = sym (rising_end R n X c.loop-j.j c.loop-j-test.false) ∙ i.2 };
      },
    )
