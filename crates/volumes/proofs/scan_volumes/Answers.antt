-- `volumes::scan_volumes` meets its contract. Assumes nothing.
use Rattle.std.proofs.Common.{rules, arith, ◌≡◌, ◌<◌, ◌≤◌, ◌+◌, ◌-◌, ℕ, ℤ, pos, nat_abs, List, [], ◌∷◌, ◌++◌, length, length-append, to_z, of_z, w64}
use Rattle.std.proofs.Common.{Ok, Err, sym, ap, ◌∙◌}
use Rattle.problem.specs.declared.Refusal.{Refusal}
use Rattle.problem.specs.declared.Refusal.TheVariants.{Volume as WrongVolume}
use Rattle.text.specs.Overwriting.{overwritten}
use Rattle.text.proofs.Copying.{written_none, written_then}
use Rattle.sections.specs.Rules.{Outcome, no_less}
use Rattle.sections.specs.Sections.{deck_columns, deck_rows}
use Rattle.sections.specs.StatedColumns.{slack_columns, coefficient_rows}
use Rattle.sections.specs.SectionsRead.{cursor}
use Rattle.sections.specs.declared.Cursor.{Cursor}
use Rattle.sections.specs.declared.Interval.{Interval}
use Rattle.sections.proofs.Storage.{rows_two, length_rows}
use Rattle.volumes.specs.Volumes.{Volume, volume, volume_section}
use Rattle.volumes.specs.PathLines.{volume_lines, swept_lines}
use Rattle.volumes.specs.VolumesRead.{VolumeRead, volumes_left}
use Rattle.volumes.proofs.Turns.{volumes_more, volumes_stop, volumes_end, section_read}
use Rattle.volumes.proofs.Lines.{swept_slacks}
use Rattle.volumes.proofs.Rows.{length_volume, swept_end}
use Rattle.volumes.proofs.scan_volumes.Invariants.{Sofar}
use Rattle.volumes.proofs.scan_volumes.Goals as goal

start : (s : List ℕ) (a : Cursor) (t₀ : List (List ℤ)) (v : ℤ) (e : ℕ) → no_less s (pos 0) WrongVolume a.at ≡ Ok (v, e) → a.rows ≤ deck_rows
    → Sofar s (volume_section s a.intervals a.rows a.at) (nat_abs v) 0 a t₀ (cursor e a.intervals a.columns a.rows) t₀
unfolding swept_lines coefficient_rows
start s a t₀ v e q h =
    let z : nat_abs v - 0 ≡ nat_abs v = omega arith in
    let r : a.rows ≡ a.rows + 0 = omega arith in
    record {
      few = h;
      done = [];
      cursor_is = λ i. cursor e a.intervals a.columns (r i);
      rest = rw z (sym (section_read s a.intervals a.rows a.at e v q));
      rows_are = written_none t₀ a.rows;
    }

-- a volume's rows behind those of the others: these have added no column
rows_end : (c : ℕ) (vs : List Volume) (v : Volume)
    → coefficient_rows deck_columns c (swept_lines vs) ++ coefficient_rows deck_columns c (volume_lines v)
    ≡ coefficient_rows deck_columns c (swept_lines (vs ++ (v ∷ [])))
rows_end c vs v =
    let z : c + 0 ≡ c = omega arith in
    let k : c + length (slack_columns (swept_lines vs)) ≡ c = ap (λ (y : List Interval). c + length y) (swept_slacks vs) ∙ z in
    sym (ap (coefficient_rows deck_columns c) (swept_end vs v)
    ∙ rows_two deck_columns c (swept_lines vs) (volume_lines v)
    ∙ ap (λ (j : ℕ). coefficient_rows deck_columns c (swept_lines vs) ++ coefficient_rows deck_columns j (volume_lines v)) k)

module _ (s : List ℕ) (o : Outcome (List Volume)) (k i : ℕ) (a : Cursor) (t₀ : List (List ℤ)) (c : Cursor) (t : List (List ℤ))
    (f : Sofar s o k i a t₀ c t) where
  same : c.intervals ≡ a.intervals
  same = ap (λ (x : Cursor). x.intervals) f.cursor_is

  more : (d : Cursor) (t' : List (List ℤ)) → i < k → length t₀ ≡ deck_rows → d.rows ≤ deck_rows
      → VolumeRead (volume s c.intervals c.rows c.at) c (Ok d) t t' → Sofar s o k (i + 1) a t₀ d t'
  more d t' h l few w =
      let v = w.what in
      let e = ap (λ (x : Cursor). x.at) w.rest.0 in
      let dr = ap (λ (x : Cursor). x.rows) w.rest.0 in
      let cr = ap (λ (x : Cursor). x.rows) f.cursor_is in
      let cc : c.columns ≡ a.columns = ap (λ (x : Cursor). x.columns) f.cursor_is in
      let q : k - (i + 1) ≡ k - i - 1 = omega arith in
      let u = coefficient_rows deck_columns a.columns (swept_lines f.done) in
      let y = coefficient_rows deck_columns a.columns (volume_lines v) in
      let m = length_rows deck_columns a.columns (swept_lines f.done) in
      let n = length_rows deck_columns a.columns (volume_lines v) in
      let z : c.rows ≡ a.rows + length u = omega arith in
      let b = ap length (swept_end f.done v) ∙ length-append (swept_lines f.done) (volume_lines v) in
      let r : d.rows ≡ a.rows + length (swept_lines (f.done ++ (v ∷ []))) = omega (arith, length_volume v) in
      record {
        few = few;
        done = f.done ++ (v ∷ []);
        cursor_is = w.rest.0 ∙ (λ j. cursor (sym e j) (same j) (cc j) ((sym dr ∙ r) j));
        rest = rw (q, e, dr) (sym (volumes_more s a.intervals c.rows f.done c.at w.end (k - i) v (omega arith) (rw same at w.read)) ∙ f.rest);
        rows_are =
            rw cc at w.rest.1
            ∙ (rw (f.rows_are, z) (written_then t₀ a.rows u y (omega (arith, length_volume v))))
            ∙ ap (overwritten t₀ a.rows) (rows_end a.columns f.done v);
      }

  stop : (why : Refusal) → i < k → volume s c.intervals c.rows c.at ≡ Err why → o ≡ Err why
  stop why h q = sym f.rest ∙ volumes_stop s a.intervals c.rows f.done c.at 0 (k - i) why (omega arith) (rw same at q)

  end : k ≤ i → volumes_left a t₀ o ≡ (Ok c, t)
  end h =
      let z : k - i ≡ 0 = omega arith in
      let q : o ≡ Ok (f.done, c.at) = sym f.rest ∙ (rw z (volumes_end s a.intervals c.rows f.done c.at 0)) in
      ap (volumes_left a t₀) q ∙ sym (λ j. (Ok (f.cursor_is j), f.rows_are j))

pub loop-init : goal.loop-init
loop-init c =
    let x = c.args in
    let b : to_z w64 (of_z w64 c.in_ok-k.k) ≡ c.in_ok-k.k = search rules in
    rw b (start x.s.now x.start x.rows.now c.in_ok-k.k c.in_ok-k.at (sym c.in_ok-k.ensures.read) c.requires.1)

pub returns-in_err-c-clause-read : goal.returns-in_err-c-clause-read
returns-in_err-c-clause-read c =
    let x = c.args in
    let q : volume_section x.s.now x.start.intervals x.start.rows x.start.at ≡ Err c.in_err-c.field-0.0 =
    stop _ _ _ _ _ _ _ _ c.loop.invariant _ c.loop-test.true c.in_err-c.ensures.read in
    search rules

pub loop-preserved : goal.loop-preserved
loop-preserved c =
    more _ _ _ _ _ _ _ _ c.loop.invariant _ _ c.loop-test.true c.told-rows c.in_ok-c.ensures.room c.in_ok-c.ensures.read

pub returns-clause-read : goal.returns-clause-read
returns-clause-read c = end _ _ _ _ _ _ _ _ c.loop.invariant c.loop-test.false
