-- `sections::intervals::scan_intervals` meets its contract. Assumes nothing.
use Rattle.std.proofs.Common.{rules, arith, ◌≡◌, ◌<◌, ◌≤◌, ◌-◌, ◌+◌, ℕ, ℤ, pos, nat_abs, List, [], ◌∷◌, ◌++◌, set, length, to_z, of_z, w64, Ok, Err}
use Rattle.std.proofs.Common.{refl, sym, ap, ◌∙◌}
use Rattle.std.proofs.lemmas.Int.{ints}
use Rattle.problem.specs.declared.Refusal.{Refusal}
use Rattle.problem.specs.declared.Refusal.TheVariants.{Size}
use Rattle.sections.specs.declared.Interval.{Interval}
use Rattle.sections.specs.Rules.{Outcome, within}
use Rattle.sections.specs.Sections.{deck_columns, interval, interval_section}
use Rattle.sections.specs.StatedColumns.{no_interval, blank_tables}
use Rattle.sections.specs.SectionsRead.{cursor, intervals_left}
use Rattle.sections.proofs.Parts.{intervals_more, intervals_stop, intervals_end, intervals_count}
use Rattle.sections.proofs.Storage.{length_snoc, padded_none, padded_more}
use Rattle.sections.proofs.intervals.scan_intervals.Invariants.{Sofar}
use Rattle.sections.proofs.intervals.scan_intervals.Goals as goal

start : (s : List ℕ) (at : ℕ) (v : ℤ) (e : ℕ) (k : List Interval) → within s (pos 1) (pos deck_columns) Size at ≡ Ok (v, e)
    → nat_abs v ≤ deck_columns → k ≡ blank_tables.columns → Sofar s (interval_section s at) (nat_abs v) 0 e k
unfolding blank_tables
start s at v e k h m a = let z : nat_abs v - 0 ≡ nat_abs v = omega arith in record {
  most = m;
  done = [];
  count = refl;
  rest = rw z (sym (intervals_count s at e v h));
  columns = a ∙ padded_none no_interval deck_columns;
}

module _ (s : List ℕ) (o : Outcome (List Interval)) (n i p : ℕ) (k : List Interval) (f : Sofar s o n i p k) where
  more : (e : ℕ) (v : Interval) → i < n → interval s p ≡ Ok (v, e) → Sofar s o n (i + 1) e (set k i v)
  more e v h q =
      let d : n - (i + 1) ≡ n - i - 1 = omega arith in
      record {
        most = f.most;
        done = f.done ++ (v ∷ []);
        count = length_snoc f.done v i f.count;
        rest = rw d (sym (intervals_more s f.done p e (n - i) v (omega arith) q) ∙ f.rest);
        columns = padded_more no_interval deck_columns f.done i v k f.count (omega (arith, f.most)) f.columns;
      }

  stop : (why : Refusal) → i < n → interval s p ≡ Err why → o ≡ Err why
  stop why h q = sym f.rest ∙ intervals_stop s f.done p 0 (n - i) why (omega arith) q

  end : n ≤ i → i ≤ n → intervals_left o ≡ (Ok (cursor p n n 0), k)
  end h l =
      let z : n - i ≡ 0 = omega arith in
      let d : n ≡ length f.done = omega (arith, f.count) in
      let q : o ≡ Ok (f.done, p) = sym f.rest ∙ (rw z (intervals_end s f.done p 0)) in
      ap intervals_left q ∙ sym (λ j. (Ok (cursor p (d j) (d j) 0), f.columns j))

pub loop-i-init : goal.loop-i-init
loop-i-init c =
    let x = c.args in
    let b : to_z w64 (of_z w64 c.in_ok-count.count) ≡ c.in_ok-count.count = search rules in
    rw b (start x.s.now x.at c.in_ok-count.count c.in_ok-count.at x.columns.now (sym c.in_ok-count.ensures.read)
    (omega (arith, ints, c.in_ok-count.ensures.range)) c.requires)

pub returns-in_err-interval-clause-read : goal.returns-in_err-interval-clause-read
returns-in_err-interval-clause-read c =
    let l = c.loop-i in
    let h : interval_section c.args.s.now c.args.at ≡ Err c.in_err-interval.field-0.0 =
    stop _ _ _ _ _ _ l.invariant _ c.loop-i-test.true (sym c.in_err-interval.ensures) in
    search rules

pub loop-i-preserved : goal.loop-i-preserved
loop-i-preserved c =
    let l = c.loop-i in
    more _ _ _ _ _ _ l.invariant _ _ c.loop-i-test.true (sym c.in_ok-interval.ensures)

pub returns-clause-read : goal.returns-clause-read
returns-clause-read c = end _ _ _ _ _ _ c.loop-i.invariant c.loop-i-test.false c.loop-i.auto.i-end
