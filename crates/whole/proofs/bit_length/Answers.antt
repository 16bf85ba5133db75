-- `whole::bit_length` meets its contract: the leading zeros and the digits make 64. Assumes nothing.
use Rattle.whole.proofs.BitLength.{length_leading}
use Rattle.whole.proofs.bit_length.Goals as goal

pub returns : goal.returns
returns c = length_leading c.args.p c.ranges.p.fits
