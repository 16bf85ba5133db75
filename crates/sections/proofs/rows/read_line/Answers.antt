-- `sections::rows::read_line` meets its contract: a row, its count of terms, and then the terms. Assumes nothing.
use Rattle.std.proofs.Common.{rules, ◌≡◌, ℕ, ℤ, pos, nat_abs, [], sym, ap, ◌∙◌, to_z, of_z, w64, Ok}
use Rattle.problem.specs.declared.Row.{Row}
use Rattle.problem.specs.declared.Refusal.TheVariants.{Term as WrongTerm}
use Rattle.sections.specs.Rules.{within}
use Rattle.sections.specs.Sections.{terms}
use Rattle.sections.specs.StatedColumns.{placed}
use Rattle.sections.proofs.rows.read_line.Goals as goal

pub returns-clause-read : goal.returns-clause-read
returns-clause-read c =
    let t = c.in_ok-at.ensures in
    let row : Row = c.in_ok-row.row in
    let k : ℤ = c.in_ok-k.k in
    let b : to_z w64 (of_z w64 k) ≡ k = search rules in
    let p : terms c.args.s.now (nat_abs k) 0 c.args.c.intervals [] c.in_ok-k.at ≡ Ok (t.what, t.end) = rw b at t.read in
    let n : ℕ = c.args.c.intervals in
    let h : to_z w64 n ≡ pos n = search rules in
    let q : within c.args.s.now (pos 0) (pos n) WrongTerm c.in_ok-row.at ≡ Ok (k, c.in_ok-k.at) = rw h at (sym c.in_ok-k.ensures.read) in
    record {
      what = record { row = row; terms = t.what };
      end = t.end;
      read = rw (sym c.in_ok-row.ensures.read) (rw q (rw p));
      rest = (ap (λ (e : ℕ). (row, e)) t.rest.0, t.rest.1 ∙ ap (placed t.what) c.requires.blank);
    }
