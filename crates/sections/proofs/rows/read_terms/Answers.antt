-- `sections::rows::read_terms` meets its contract. Assumes nothing.
use Rattle.std.proofs.Common.{rules, arith, ◌≡◌, ◌<◌, ◌≤◌, ◌-◌, ◌+◌, ℕ, ℤ, List, [], ◌∷◌, ◌++◌, set, to_z, of_z, w64, Ok, Err, refl, sym, ap, ◌∙◌}
use Rattle.problem.specs.declared.Refusal.{Refusal}
use Rattle.sections.specs.declared.Term.{Term}
use Rattle.sections.specs.Rules.{Outcome}
use Rattle.sections.specs.Sections.{term, terms}
use Rattle.sections.proofs.Parts.{terms_more, terms_stop, terms_end}
use Rattle.sections.proofs.Storage.{placed_none, placed_more}
use Rattle.sections.proofs.rows.read_terms.Invariants.{Sofar}
use Rattle.sections.proofs.rows.read_terms.Goals as goal

module _ (s : List ℕ) (o : Outcome (List Term)) (k count : ℕ) (line₀ : List ℤ) (i p last : ℕ) (u : List ℤ)
    (f : Sofar s o k count line₀ i p last u) where
  more : (t : Term) (e : ℕ) → i < k → t.index ≤ count → term s last count p ≡ Ok (t, e)
      → Sofar s o k count line₀ (i + 1) e t.index (set u (t.index - 1) t.coefficient)
  more t e h l q =
      let j : k - (i + 1) ≡ k - i - 1 = omega arith in
      record {
        known = l;
        done = f.done ++ (t ∷ []);
        rest = rw j (sym (terms_more s last count f.done p e (k - i) t (omega arith) q) ∙ f.rest);
        line = ap (λ (v : List ℤ). set v (t.index - 1) t.coefficient) f.line ∙ placed_more f.done t line₀;
      }

  stop : (why : Refusal) → i < k → term s last count p ≡ Err why → o ≡ Err why
  stop why h q = sym f.rest ∙ terms_stop s last count f.done p 0 (k - i) why (omega arith) q

  end : k ≤ i → o ≡ Ok (f.done, p)
  end h = let z : k - i ≡ 0 = omega arith in sym f.rest ∙ (rw z (terms_end s last count f.done p 0))

pub loop-init : goal.loop-init
loop-init c =
    let x = c.args in
    let z : x.k - 0 ≡ x.k = omega arith in
    record { known = omega arith; done = []; rest = rw z; line = placed_none x.line.now }

pub returns-in_err-term : goal.returns-in_err-term
returns-in_err-term c =
    let x = c.args in
    let l = c.loop in
    let h : terms x.s.now x.k 0 x.count [] x.at ≡ Err c.in_err-term.field-0.0 =
    stop _ _ _ _ _ _ _ _ _ l.invariant _ c.loop-test.true (sym c.in_err-term.ensures.read) in
    search rules

pub loop-preserved : goal.loop-preserved
loop-preserved c =
    let l = c.loop in
    let t = c.in_ok-term.term in
    let b : to_z w64 (of_z w64 t.coefficient) ≡ t.coefficient = search rules in
    rw b (more _ _ _ _ _ _ _ _ _ l.invariant t _ c.loop-test.true c.in_ok-term.ensures.range.1 (sym c.in_ok-term.ensures.read))

pub returns : goal.returns
returns c =
    let f = c.loop.invariant in
    record { what = f.done; end = c.loop.at; read = end _ _ _ _ _ _ _ _ _ f c.loop-test.false; rest = (refl, f.line) }
