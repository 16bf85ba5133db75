-- `deck::scan` meets its contract: the volumes are refused, or nothing is left behind the sections. Assumes nothing.
use Rattle.std.proofs.Common.{rules, arith, Err, ◌≡◌, sym, ap, ◌∙◌}
use Rattle.sections.specs.Rules.{on_end}
use Rattle.sections.specs.declared.Tables.{Tables}
use Rattle.deck.specs.Posing.{Deck, deck}
use Rattle.deck.proofs.Whole.{volumes_refused, whole, closing, stored}
use Rattle.deck.proofs.scan.Goals as goal

pub returns-in_err-c-3 : goal.returns-in_err-c-3
returns-in_err-c-3 c =
    let T : Tables = record { columns = c.read_intervals.new.columns; rights = c.args.tables.now.rights; rows = c.args.tables.now.rows } in
    let d : deck c.args.s.now ≡ Err c.in_err-c-3.field-0.0 =
    volumes_refused c.args.s.now c.in_ok-c.c T c.in_ok-c.ensures.read c.in_ok-c-2.c c.read_rows.new.tables c.in_ok-c-2.ensures.read _ _
    c.in_err-c-3.ensures.read in
    search rules

pub returns-in-None : goal.returns-in-None
returns-in-None c =
    let s = c.args.s.now in
    let p = c.in_ok-c.c in
    let q = c.in_ok-c-2.c in
    let r = c.in_ok-c-3.c in
    let T : Tables = record { columns = c.read_intervals.new.columns; rights = c.args.tables.now.rights; rows = c.args.tables.now.rows } in
    let U = c.read_rows.new.tables in
    let t = c.read_volumes.new.rows in
    let i = c.in_ok-c.ensures.read in
    let w = c.in_ok-c-2.ensures.read in
    let v = c.in_ok-c-3.ensures.read in
    let d : Deck = whole s p T i q U w r t v in
    record {
      what = d;
      end = r.at;
      read = closing s p T i q U w r t v ∙ ap (on_end d r.at) (sym c.in-None.ensures);
      rest = stored s p T i q U w r t v (ap (λ (x : Tables). x.rights) c.requires) (ap (λ (x : Tables). x.rows) c.requires)
          (omega (arith, c.in_ok-c-3.ensures.cursor, c.in_ok-c-2.ensures.cursor)) (omega (arith, c.in_ok-c-3.ensures.cursor));
    }
