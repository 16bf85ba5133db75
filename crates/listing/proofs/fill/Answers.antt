-- `listing::fill` meets its contract: every text is listed, so that the call returns a length. Assumes nothing.
use Rattle.std.proofs.Common.{rules, refl, ap, ◌∙◌}
use Rattle.report.specs.Listing.{Written, listing_done}
use Rattle.solve.proofs.Listed.{returned}
use Rattle.listing.proofs.fill.Goals as goal

pub unwrap-requires : goal.unwrap-requires
unwrap-requires c = rw (returned c.args.out.now c.args.text.now c.requires _ _ c.list_text.ensures) refl

pub returns : goal.returns
returns c = ap (λ (r : Written). listing_done r c.list_text.new.out) (search rules) ∙ c.list_text.ensures
