-- What holds at each turn of `text::scanner::worth_of`: the bytes passed are digits worth v. Assumes nothing.
use Rattle.std.proofs.Common.{◌≡◌, ◌^◌, ◌<◌, cond, drop, Some, None}
use Rattle.text.specs.Tokens.{all_digits, value}
use Rattle.text.proofs.scanner.worth_of.Given as goal

abbrev pub invariant-loop-b : goal.invariant-loop-b
invariant-loop-b l =
    (l.v < 10 ^ l.b-index)
    × (cond (all_digits (drop l.b-index l.w)) (Some (value l.v (drop l.b-index l.w))) None ≡ cond (all_digits l.w) (Some (value 0 l.w)) None)
