-- `volumes::later_paths` meets its contract. Assumes nothing.
use Rattle.std.proofs.Common.{rules, arith, ◌≡◌, ◌<◌, ◌≤◌, ◌+◌, ◌-◌, ℕ, ℤ, Bool, List, [], ◌∷◌, ◌++◌, map, set, length, append_assoc, Ok, Err, sym}
use Rattle.std.proofs.Common.{ap, ◌∙◌}
use lib.ListN.{length-map}
use Rattle.problem.specs.declared.Refusal.{Refusal}
use Rattle.text.specs.Overwriting.{overwritten}
use Rattle.sections.specs.SectionsRead.{cursor}
use Rattle.sections.specs.declared.Cursor.{Cursor}
use Rattle.sections.proofs.Storage.{map_two, length_snoc, set_more}
use Rattle.volumes.specs.Volumes.{Volume, path, paths}
use Rattle.volumes.specs.VolumesRead.{later_row, LaterRead, PathsRead}
use Rattle.volumes.proofs.Turns.{paths_more, paths_stop, paths_end}
use Rattle.volumes.proofs.later_paths.Invariants.{Sofar}
use Rattle.volumes.proofs.later_paths.Goals as goal

module _ (s : List ℕ) (k i : ℕ) (a : Cursor) (f : List Bool) (t₀ : List (List ℤ)) (c : Cursor) (t : List (List ℤ)) (v : Sofar s k i a f t₀ c t) where
  same : c.intervals ≡ a.intervals
  same = ap (λ (x : Cursor). x.intervals) v.cursor_is

  more : (d : Cursor) (t' : List (List ℤ)) → i < k → a.rows + k ≤ length t₀ → LaterRead (path s c.intervals c.at) c (Ok d) f t t'
      → Sofar s k (i + 1) a f t₀ d t'
  more d t' h l w =
      let p = w.what in
      let e = ap (λ (x : Cursor). x.at) w.rest.0 in
      let j : k - (i + 1) ≡ k - i - 1 = omega arith in
      let r : c.rows ≡ a.rows + i = ap (λ (x : Cursor). x.rows) v.cursor_is in
      let n : c.rows + 1 ≡ a.rows + (i + 1) = omega arith in
      let m : length (map (later_row f) v.later) ≡ i = length-map v.later (later_row f) ∙ v.many in
      record {
        later = v.later ++ (p ∷ []);
        many = length_snoc v.later p i v.many;
        cursor_is = w.rest.0 ∙ (λ x. cursor (sym e x) (same x) (ap (λ (y : Cursor). y.columns) v.cursor_is x) (n x));
        rest = λ done.
            rw (j, e, sym (append_assoc done v.later (p ∷ [])))
            (sym (paths_more s a.intervals (done ++ v.later) c.at w.end (k - i) p (omega arith) (rw same at w.read)) ∙ v.rest done);
        rows_are =
            w.rest.1 ∙ ap (λ (u : List (List ℤ)). set u c.rows (later_row f p)) v.rows_are
            ∙ set_more t₀ a.rows (map (later_row f) v.later) c.rows (later_row f p) (omega arith) (omega arith)
            ∙ ap (overwritten t₀ a.rows) (sym (map_two (later_row f) v.later (p ∷ [])));
      }

  stop : (why : Refusal) → i < k → path s c.intervals c.at ≡ Err why → (done : Volume) → paths s k a.intervals done a.at ≡ Err why
  stop why h q done =
      sym (v.rest done) ∙ paths_stop s a.intervals (done ++ v.later) c.at 0 (k - i) why (omega arith) (rw same at q)

  end : k ≤ i → i ≤ k → PathsRead (λ done. paths s k a.intervals done a.at) k a (Ok c) f t₀ t
  end h l =
      let z : k - i ≡ 0 = omega arith in
      let e : i ≡ k = omega arith in
      record {
        later = v.later;
        many = v.many ∙ e;
        read = λ done. sym (v.rest done) ∙ (rw z (paths_end s a.intervals (done ++ v.later) c.at 0));
        cursor_is = rw e at v.cursor_is;
        rows_are = v.rows_are;
      }

pub returns-in_err-c : goal.returns-in_err-c
returns-in_err-c c =
    let q : (done : Volume) → paths c.args.s.now c.args.k c.args.start.intervals done c.args.start.at ≡ Err c.in_err-c.field-0.0 =
    stop _ _ _ _ _ _ _ _ c.loop.invariant _ c.loop-test.true c.in_err-c.ensures in
    search rules

pub loop-preserved : goal.loop-preserved
loop-preserved c = more _ _ _ _ _ _ _ _ c.loop.invariant _ _ c.loop-test.true (omega (arith, c.requires.1, c.told-rows)) c.in_ok-c.ensures

pub returns : goal.returns
returns c = end _ _ _ _ _ _ _ _ c.loop.invariant c.loop-test.false c.loop.auto.counter-end
