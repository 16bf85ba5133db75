-- `sections::rows::scan_rows` meets its contract. Assumes nothing.
use Rattle.std.proofs.Common.{rules, arith, ◌≡◌, ◌<◌, ◌≤◌, ◌-◌, ◌+◌, ℕ, ℤ, pos, nat_abs, List, [], ◌∷◌, ◌++◌, length, length-append, to_z, of_z, w64}
use Rattle.std.proofs.Common.{Ok, Err, refl, sym, ap, ◌∙◌}
use Rattle.std.proofs.lemmas.Int.{ints}
use Rattle.problem.specs.Kinds.{slack_of}
use Rattle.problem.specs.declared.Refusal.{Refusal}
use Rattle.problem.specs.declared.Refusal.TheVariants.{Size}
use Rattle.sections.specs.declared.Cursor.{Cursor}
use Rattle.sections.specs.declared.Tables.{Tables}
use Rattle.sections.specs.Rules.{Outcome, within}
use Rattle.sections.specs.Sections.{deck_columns, deck_rows, Line, line, row_section}
use Rattle.sections.specs.StatedColumns.{slack_column, slack_columns}
use Rattle.sections.specs.SectionsRead.{OneRead, cursor, rows_left}
use Rattle.sections.proofs.Parts.{lines_more, lines_stop, lines_end, rows_count}
use Rattle.sections.proofs.Storage.{length_snoc, length_slack, slacks_more, rights_long, rows_long, stored_none, stored_more}
use Rattle.sections.proofs.rows.scan_rows.Invariants.{Sofar}
use Rattle.sections.proofs.rows.scan_rows.Goals as goal

start : (s : List ℕ) (n at : ℕ) (v : ℤ) (e : ℕ) (a : Cursor) (T : Tables) → within s (pos 0) (pos deck_rows) Size at ≡ Ok (v, e)
    → nat_abs v ≤ deck_rows → n ≤ deck_columns → a ≡ cursor e n n 0 → Sofar s (row_section s n at) (nat_abs v) n T 0 a T
unfolding slack_columns
start s n at v e a T h m k q =
    let z : nat_abs v - 0 ≡ nat_abs v = omega arith in
    let p : cursor e n n 0 ≡ a = sym q in
    rw q (record {
      most = m;
      room = k;
      intervals = refl;
      rows = refl;
      done = [];
      many = refl;
      rest = rw z (sym (rows_count s at e v n h));
      columns = omega arith;
      tables = stored_none n T;
    })

module _ (s : List ℕ) (o : Outcome (List Line)) (m n : ℕ) (T : Tables) (i : ℕ) (c : Cursor) (U : Tables) (f : Sofar s o m n T i c U) where
  more : (d : Cursor) (V : Tables) → length T.columns ≡ deck_columns → length T.rights ≡ deck_rows → length T.rows ≡ deck_rows → i < m
      → OneRead (line s c.intervals c.columns c.at) c (Ok d) U V → Sofar s o m n T (i + 1) d V
  more d V a b e h w =
      let x : Line = w.what in
      let r = w.rest in
      let j : m - (i + 1) ≡ m - i - 1 = omega arith in
      let y = ap length (slacks_more f.done x) ∙ length-append (slack_columns f.done) (slack_column (slack_of x.row.kind)) in
      let q : line s n c.columns c.at ≡ Ok (x, d.at) = rw (sym f.intervals, r.at) w.read in
      record {
        most = f.most;
        room = r.room;
        intervals = r.intervals ∙ f.intervals;
        rows = omega (arith, r.rows, f.rows);
        done = f.done ++ (x ∷ []);
        many = length_snoc f.done x i f.many;
        rest = rw (j, r.columns) (sym (lines_more s n c.columns f.done c.at d.at (m - i) x (omega arith) q) ∙ f.rest);
        columns = omega (arith, y, r.columns, f.columns, length_slack (slack_of x.row.kind));
        tables = stored_more n f.done x c T U V (omega (arith, f.many, f.rows)) f.columns (omega (arith, r.columns, r.room))
            (omega (arith, f.rows, f.most)) (omega (arith, f.rows, f.most)) f.tables r.tables;
      }

  stop : (why : Refusal) → i < m → line s c.intervals c.columns c.at ≡ Err why → o ≡ Err why
  stop why h q = sym f.rest ∙ lines_stop s n c.columns f.done c.at 0 (m - i) why (omega arith) (rw f.intervals at q)

  end : m ≤ i → i ≤ m → rows_left n T o ≡ (Ok c, U)
  end h l =
      let z : m - i ≡ 0 = omega arith in
      let q : o ≡ Ok (f.done, c.at) = sym f.rest ∙ (rw z (lines_end s n c.columns f.done c.at 0)) in
      let r : c.rows ≡ length f.done = f.rows ∙ sym f.many in
      ap (rows_left n T) q ∙ sym (λ j. (Ok (cursor c.at (f.intervals j) (f.columns j) (r j)), f.tables j))

pub loop-init : goal.loop-init
loop-init c =
    let x = c.args in
    let b : to_z w64 (of_z w64 c.in_ok-m.m) ≡ c.in_ok-m.m = search rules in
    let q = c.requires.start in
    rw b (start x.s.now x.start.intervals x.start.at c.in_ok-m.m c.in_ok-m.at _ x.tables.now (sym c.in_ok-m.ensures.read)
    (omega (arith, ints, c.in_ok-m.ensures.range)) q.0 (λ i. cursor c.in_ok-m.at x.start.intervals (q.1 i) (q.2 i)))

pub next_row-requires : goal.next_row-requires
next_row-requires c =
    let f = c.loop.invariant in
    (omega (arith, f.intervals, c.requires.start.0), f.room, omega (arith, f.rows, f.most, c.loop-test.true))

pub returns-in_err-c-clause-read : goal.returns-in_err-c-clause-read
returns-in_err-c-clause-read c =
    let x = c.args in
    let h : row_section x.s.now x.start.intervals x.start.at ≡ Err c.in_err-c.field-0.0 =
    stop _ _ _ _ _ _ _ _ c.loop.invariant _ c.loop-test.true c.in_err-c.ensures in
    search rules

pub loop-preserved : goal.loop-preserved
loop-preserved c =
    let t = c.requires.tables in
    more _ _ _ _ _ _ _ _ c.loop.invariant _ _ t.0 (ap length t.1 ∙ rights_long) (ap length t.2 ∙ rows_long) c.loop-test.true
    c.in_ok-c.ensures

pub returns-clause-read : goal.returns-clause-read
returns-clause-read c = end _ _ _ _ _ _ _ _ c.loop.invariant c.loop-test.false c.loop.auto.counter-end
