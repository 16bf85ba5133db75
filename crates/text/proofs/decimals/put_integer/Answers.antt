-- `text::decimals::put_integer` meets its contract: a minus where the number is below 0, and the digits of its magnitude. Assumes nothing.
use Rattle.std.proofs.Common.{◌≡◌, ℤ, nat_abs, rules}
use Rattle.text.proofs.Digits.{wrote_low}
use Rattle.text.proofs.decimals.put_integer.Goals as goal

pub returns-then-v-lt0 : goal.returns-then-v-lt0
returns-then-v-lt0 c =
    let v : ℤ = c.args.v in
    let a : c.unsigned_abs.result ≡ nat_abs v = search rules in
    wrote_low _ _ _ _ _ _ v (search rules) c.put-e.ensures (rw a at c.put_natural.ensures) c.requires
