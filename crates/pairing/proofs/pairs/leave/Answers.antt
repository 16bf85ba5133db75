-- `pairing::pairs::leave` meets its contract: the call's numbers are read back as they were. Assumes nothing.
use Rattle.std.proofs.Common.{to_z-of_z}
use Rattle.whole.proofs.Signed.{back}
use Rattle.pairing.proofs.pairs.leave.Goals as goal

pub returns : goal.returns
returns c =
    cc (
      c.max.ensures.value,
      c.min.ensures.value,
      back c.max.result c.max.type_inv,
      back c.min.result c.min.type_inv,
      to_z-of_z c.ranges.lower,
      to_z-of_z c.ranges.upper,
      to_z-of_z c.ranges.lower2,
      to_z-of_z c.ranges.upper2,
    )
