-- `text::scanner::worth_of` meets its contract: one more digit. Assumes nothing.
use Rattle.std.proofs.Common.{◌≡◌, true, get_or, sym, ◌∙◌}
use Rattle.text.specs.Tokens.{is_digit}
use Rattle.text.proofs.Scanning.{worth_more, worth_below}
use Rattle.text.proofs.scanner.worth_of.Goals as goal

pub loop-b-preserved : goal.loop-b-preserved
loop-b-preserved c =
    let s = c.args.w.now in
    let l = c.loop-b in
    let d : is_digit (get_or s l.b-index 0) ≡ true = cc (c.is_ascii_digit.ensures.value) in (
      rw c.longer-v.ensures (worth_below l.b-index l.v _ l.invariant.0 d),
      rw c.longer-v.ensures (sym (worth_more s l.b-index l.v c.loop-b-test.true d) ∙ l.invariant.1),
    )
