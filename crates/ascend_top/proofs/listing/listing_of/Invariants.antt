use Rattle.std.proofs.Common.{◌≡◌}
use Rattle.ascend_top.proofs.ListingLaws.{listed}
use Rattle.ascend_top.proofs.listing.listing_of.Given as goal

abbrev pub invariant-loop-index : goal.invariant-loop-index
invariant-loop-index l = l.text.items ≡ listed l.file l.index
