-- `volumes::read_indices` meets its contract. Assumes nothing.
use Rattle.std.proofs.Common.{rules, arith, ◌≡◌, ◌<◌, ◌≤◌, ◌+◌, ◌-◌, ℕ, suc, ℤ, pos, nat_abs, Bool, true, false, List, [], ◌∷◌, ◌++◌, get_or, set}
use Rattle.std.proofs.Common.{to_z, of_z, w64, Ok, Err, refl, sym, ap, ◌∙◌}
use Rattle.std.proofs.lemmas.Int.{ints}
use Rattle.lattice.proofs.Span.{all_end}
use Rattle.problem.specs.declared.Refusal.{Refusal}
use Rattle.problem.specs.declared.Refusal.TheVariants.{Volume as WrongVolume}
use Rattle.sections.specs.Rules.{Outcome, within}
use Rattle.sections.specs.Sections.{deck_columns}
use Rattle.volumes.specs.Volumes.{SweepPath, is_on, index, indices}
use Rattle.volumes.specs.VolumesRead.{Names, marked, no_marks, as_marks}
use Rattle.volumes.proofs.Ones.{mark_on, marked_more}
use Rattle.volumes.proofs.Turns.{index_read, index_twice, index_no, indices_more, indices_stop, indices_end}
use Rattle.volumes.proofs.read_indices.Invariants.{Sofar}
use Rattle.volumes.proofs.read_indices.Goals as goal

module _ (s : List ℕ) (o : Outcome SweepPath) (k count i p : ℕ) (u : List Bool) (f : Sofar s o k count i p u) where
  module _ (v : ℤ) (e : ℕ) (h : i < k) (q : within s (pos 1) (pos count) WrongVolume p ≡ Ok (v, e)) where
    seen : 1 ≤ nat_abs v → nat_abs v ≤ deck_columns → get_or u (nat_abs v - 1) false ≡ is_on (nat_abs v) f.done
    seen a b =
        let z : suc (nat_abs v - 1) ≡ nat_abs v = omega arith in
        ap (λ (w : List Bool). get_or w (nat_abs v - 1) false) f.marks ∙ mark_on f.done deck_columns (nat_abs v - 1) f.named (omega arith)
        ∙ ap (λ (j : ℕ). is_on j f.done) z

    twice : 1 ≤ nat_abs v → nat_abs v ≤ deck_columns → get_or u (nat_abs v - 1) false ≡ true → o ≡ Err WrongVolume
    twice a b t =
        sym f.rest ∙ indices_stop s count f.done p 0 (k - i) WrongVolume (omega arith) (index_twice s count f.done p e v q (sym (seen a b) ∙ t))

    more : 1 ≤ nat_abs v → nat_abs v ≤ deck_columns → get_or u (nat_abs v - 1) false ≡ false
        → Sofar s o k count (i + 1) e (set u (nat_abs v - 1) true)
    more a b t =
        let j : k - (i + 1) ≡ k - i - 1 = omega arith in
        let n : index s count f.done p ≡ Ok (nat_abs v, e) = index_read s count f.done p e v q (sym (seen a b) ∙ t) in
        record {
          done = f.done ++ (nat_abs v ∷ []);
          named = all_end (Names deck_columns) f.done (nat_abs v) f.named (a, b);
          rest = rw j (sym (indices_more s count f.done p e (k - i) (nat_abs v) (omega arith) n) ∙ f.rest);
          marks = ap (λ (w : List Bool). set w (nat_abs v - 1) true) f.marks ∙ marked_more f.done (nat_abs v) no_marks;
        }

  stop : (why : Refusal) → i < k → within s (pos 1) (pos count) WrongVolume p ≡ Err why → o ≡ Err why
  stop why h q = sym f.rest ∙ indices_stop s count f.done p 0 (k - i) why (omega arith) (index_no s count f.done p 0 why q)

  end : k ≤ i → Ok (u, p) ≡ as_marks o
  end h =
      let z : k - i ≡ 0 = omega arith in
      let q : o ≡ Ok (f.done, p) = sym f.rest ∙ (rw z (indices_end s count f.done p 0)) in
      rw q (rw f.marks)

pub loop-init : goal.loop-init
unfolding no_marks marked
loop-init c =
    let z : c.args.k - 0 ≡ c.args.k = omega arith in
    record { done = []; named = tt; rest = rw z; marks = refl }

pub returns-in_err-index : goal.returns-in_err-index
returns-in_err-index c =
    let x = c.args in
    let h : to_z w64 x.count ≡ pos x.count = search rules in
    let q : indices x.s.now x.k x.count [] x.at ≡ Err c.in_err-index.field-0.0 =
    stop _ _ _ _ _ _ _ c.loop.invariant _ c.loop-test.true (rw h at (sym c.in_err-index.ensures.read)) in
    rw q (search rules)

pub returns-then-twice : goal.returns-then-twice
returns-then-twice c =
    let x = c.args in
    let h : to_z w64 x.count ≡ pos x.count = search rules in
    let v : ℤ = c.in_ok-index.index in
    let b : to_z w64 (of_z w64 v) ≡ v = search rules in
    let r = rw h at c.in_ok-index.ensures.range in
    let q : indices x.s.now x.k x.count [] x.at ≡ Err WrongVolume =
    twice _ _ _ _ _ _ _ c.loop.invariant v _ c.loop-test.true (rw h at (sym c.in_ok-index.ensures.read)) (omega (arith, ints, r))
    (omega (arith, ints, r, c.requires))
    (rw b at c.if-twice.true) in
    rw q

pub loop-preserved : goal.loop-preserved
loop-preserved c =
    let x = c.args in
    let h : to_z w64 x.count ≡ pos x.count = search rules in
    let v : ℤ = c.in_ok-index.index in
    let b : to_z w64 (of_z w64 v) ≡ v = search rules in
    let r = rw h at c.in_ok-index.ensures.range in
    rw b (more _ _ _ _ _ _ _ c.loop.invariant v _ c.loop-test.true (rw h at (sym c.in_ok-index.ensures.read)) (omega (arith, ints, r))
    (omega (arith, ints, r, c.requires))
    (rw b at c.if-twice.false))

pub returns : goal.returns
returns c = end _ _ _ _ _ _ _ c.loop.invariant c.loop-test.false
