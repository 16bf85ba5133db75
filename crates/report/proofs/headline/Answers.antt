-- `report::headline` meets its contract: a buffer of 64 bytes has room for each of the lines. Assumes nothing.
use Rattle.std.proofs.Common.{arith, rules}
use Rattle.report.specs.Listing.{FITTED, OUTSIDE, SPENT}
use Rattle.report.proofs.Laws.{length_verdict, length_refusal}
use Rattle.report.proofs.headline.Goals as goal

pub put_verdict-requires : goal.put_verdict-requires
put_verdict-requires c = omega (arith, length_verdict FITTED c.in-Ok-Fitted.k (omega arith) (search rules) (search rules))

pub put_verdict-requires-in-Ok-Outside : goal.put_verdict-requires-in-Ok-Outside
put_verdict-requires-in-Ok-Outside c = omega (arith, length_verdict OUTSIDE c.in-Ok-Outside.k (omega arith) (search rules) (search rules))

pub put_verdict-requires-in-Ok-Spent : goal.put_verdict-requires-in-Ok-Spent
put_verdict-requires-in-Ok-Spent c = omega (arith, length_verdict SPENT c.in-Ok-Spent.k (omega arith) (search rules) (search rules))

pub put_refusal-requires : goal.put_refusal-requires
put_refusal-requires c = omega (arith, length_refusal c.in-Err.why)
