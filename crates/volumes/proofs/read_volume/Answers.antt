-- `volumes::read_volume` meets its contract: a count of paths, path 1, and the rows of the later ones. Assumes nothing.
use Rattle.std.proofs.Common.{rules, arith, ◌≡◌, ◌≤◌, ◌+◌, ◌-◌, ℕ, ℤ, List, [], ◌∷◌, length, Result, Ok, Err, sym, ap, ◌∙◌}
use Rattle.problem.specs.declared.Refusal.{Refusal}
use Rattle.text.specs.Overwriting.{overwritten}
use Rattle.sections.specs.Rules.{Outcome}
use Rattle.sections.specs.SectionsRead.{cursor}
use Rattle.sections.specs.declared.Cursor.{Cursor}
use Rattle.sections.proofs.Numbers.{then_ok, same_ok, same_end, same_no, ok_not_no}
use Rattle.volumes.specs.Volumes.{SweepPath, path, paths, later_paths, path_count, volume}
use Rattle.volumes.specs.VolumesRead.{marks_of, as_marks, PathsRead, VolumeRead}
use Rattle.volumes.proofs.Turns.{paths_more, paths_stop, volume_read}
use Rattle.volumes.proofs.Rows.{later_lines}
use Rattle.volumes.proofs.Reading.{each_named, volume_proper}
use Rattle.volumes.proofs.read_volume.Goals as goal

-- path 1, and the later ones with their rows
module _ (s : List ℕ) (c : Cursor) (k p : ℕ) (b : path_count s c.rows c.at ≡ Ok (k, p)) (one : 1 ≤ k) where
  rejoined : (first : SweepPath) (e : ℕ) → path s c.intervals p ≡ Ok (first, e) → (t₀ t : List (List ℤ)) (r : Result Cursor Refusal)
      → PathsRead (λ done. paths s (k - 1) c.intervals done e) (k - 1) (cursor e c.intervals c.columns c.rows) r (marks_of first) t₀ t
      → VolumeRead (volume s c.intervals c.rows c.at) c r t₀ t
  rejoined first e q t₀ t (Ok d) o =
      let h : volume s c.intervals c.rows c.at ≡ Ok (first ∷ o.later, d.at) =
      volume_read s c.intervals c.rows c.at p k b ∙ paths_more s c.intervals [] p e k first one q ∙ o.read (first ∷ []) in
      let w = volume_proper s c.intervals c.rows c.at d.at (first ∷ o.later) h in
      let z : c.rows + (k - 1) ≡ c.rows + later_paths (length (first ∷ o.later)) = omega (arith, o.many) in
      record {
        what = first ∷ o.later;
        end = d.at;
        read = h;
        rest = (
          o.cursor_is ∙ (λ i. cursor d.at c.intervals c.columns (z i)),
          o.rows_are
              ∙ ap (overwritten t₀ c.rows) (later_lines c.intervals c.columns first o.later w.0.0 (each_named c.intervals o.later w.1)),
        );
      }
  rejoined first e q t₀ t (Err why) o =
      volume_read s c.intervals c.rows c.at p k b ∙ paths_more s c.intervals [] p e k first one q ∙ o (first ∷ [])

  not_read : (o : Outcome SweepPath) (why : Refusal) → as_marks o ≡ Err why → o ≡ Err why
  not_read (Ok (first, e)) why h = absurd (ok_not_no (sym h))
  not_read (Err w) why h = ap Err (same_no h)

  refused : (why : Refusal) → as_marks (path s c.intervals p) ≡ Err why → volume s c.intervals c.rows c.at ≡ Err why
  refused why q = volume_read s c.intervals c.rows c.at p k b ∙ paths_stop s c.intervals [] p 0 k why one (not_read (path s c.intervals p) why q)

pub returns-in_err-first-clause-read : goal.returns-in_err-first-clause-read
returns-in_err-first-clause-read c =
    let x = c.args in
    let q : volume x.s.now x.c.intervals x.c.rows x.c.at ≡ Err c.in_err-first.field-0.0 =
    refused x.s.now x.c _ _ (sym c.in_ok-k.ensures.read) c.in_ok-k.ensures.room.0 _ (sym c.in_err-first.ensures) in
    search rules

pub returns-clause-read : goal.returns-clause-read
returns-clause-read c =
    let x = c.args in
    let k : ℕ = c.in_ok-k.k in
    let e : ℕ = c.in_ok-first.at in
    let o : Outcome SweepPath = path x.s.now x.c.intervals c.in_ok-k.at in
    let m = then_ok o (λ p at. Ok (marks_of p, at)) c.in_ok-first.first e (sym c.in_ok-first.ensures) in
    let q : o ≡ Ok (m.what, e) = m.first ∙ ap (λ (j : ℕ). Ok (m.what, j)) (same_end m.second) in
    rejoined x.s.now x.c k _ (sym c.in_ok-k.ensures.read) c.in_ok-k.ensures.room.0 m.what e q x.rows.now c.later_paths.new.rows
    c.later_paths.result (rw (same_ok m.second) c.later_paths.ensures)
