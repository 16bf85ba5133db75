-- `listing::list` is safe: every text is listed, so that the bytes that it writes lie in its buffer. Assumes nothing.
use mathlib.Core.Path.{sym}
use native.Mathlib.Omega.{arith}
use Prim.Native.Nat.{◌≤◌}
use lib.ListN.{length}
use lib.Seq.{length-take-le}
use borrow.Author.Rules.{rules}
use Rattle.solve.proofs.Listed.{length_fits}
use Rattle.listing.proofs.list.Goals.{After-fill-n}
use Rattle.listing.proofs.list.Goals as goal

within : (w : After-fill-n) → w.fill-n.result ≤ length w.fill-n.new.out
within w = omega (arith, length_fits _ _ (search rules) _ _ w.fill-n.ensures, w.fill-n.auto)

pub slice_bounds-out-end : goal.slice_bounds-out-end
slice_bounds-out-end c = within (goal.at.slice_bounds-out-end c).After-fill-n

pub slice_bounds-write_all-end : goal.slice_bounds-write_all-end
slice_bounds-write_all-end c = sym (length-take-le _ _ (within (goal.at.slice_bounds-write_all-end c).After-fill-n))
