-- `sections::rows::store_row` meets its contract: with a y, and without. Assumes nothing.
use Rattle.std.proofs.Common.{rules, arith, ◌≡◌, ◌<◌, ℕ, ℤ, List, length, set, to_z, of_z, w64, sym}
use Rattle.problem.specs.Kinds.{none, slack, slack_of}
use Rattle.problem.specs.declared.Row.{Row}
use Rattle.sections.specs.StatedColumns.{slack_interval}
use Rattle.sections.specs.SectionsRead.{with_row}
use Rattle.sections.specs.declared.Cursor.{Cursor}
use Rattle.sections.specs.declared.Tables.{Tables}
use Rattle.text.proofs.Copying.{written_one, written_none}
use Rattle.sections.proofs.rows.store_row.Goals.{in-Some, in_default}
use Rattle.sections.proofs.rows.store_row.Goals as goal

module _ (r : Row) (c : Cursor) (v : List ℤ) (T : Tables) where
  with_y : (k : ℤ) (lo : ℕ) → slack_of r.kind ≡ slack k lo → c.columns < length T.columns
      → record {
        columns = set T.columns c.columns (slack_interval lo);
        rights = set T.rights c.rows r.right;
        rows = set T.rows c.rows (set v c.columns k);
      } ≡ with_row r c v T
  with_y k lo e h =
      rw e
      (λ i. record {
        columns = written_one T.columns c.columns (slack_interval lo) h i;
        rights = set T.rights c.rows r.right;
        rows = set T.rows c.rows (set v c.columns k);
      })

  with_none : slack_of r.kind ≡ none
      → record { columns = T.columns; rights = set T.rights c.rows r.right; rows = set T.rows c.rows v } ≡ with_row r c v T
  with_none e =
      rw e
      (λ i. record { columns = written_none T.columns c.columns i; rights = set T.rights c.rows r.right; rows = set T.rows c.rows v })

pub returns : goal.returns
returns c =
    let x = c.args in
    let b : to_z w64 (of_z w64 x.row.right) ≡ x.row.right = search rules in
    elim c.match-slack_of.branch [
      | in-Some w ↦
          let k : to_z w64 (of_z w64 w.in-Some.y.coefficient) ≡ w.in-Some.y.coefficient = search rules in
          let f : to_z w64 (of_z w64 w.from.result) ≡ w.from.result = search rules in
          let e : slack_of x.row.kind ≡ slack w.in-Some.y.coefficient w.in-Some.y.least = sym w.in-Some.ensures in
          rw (w.tables-is, w.line-is, b, k, f, w.from.ensures)
          (with_y x.row x.c x.line.now x.tables.now _ _ e (omega (arith, rw e at c.requires.0)))
      | in_default w ↦ rw (w.tables-is, w.line-is, b) (with_none x.row x.c x.line.now x.tables.now (sym w.in_default.ensures))
    ]
