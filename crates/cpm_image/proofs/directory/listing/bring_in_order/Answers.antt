use Rattle.std.proofs.lemmas.List.Filters.{dedup_is}
use Rattle.cpm_image.proofs.Order.{arranged}
use Rattle.cpm_image.proofs.directory.listing.bring_in_order.Goals as goal

pub returns : goal.returns
returns c = rw (dedup_is _ _ _ c.dedup.ensures.filtered) (arranged _ _ c.sort_unstable.ensures.permutation c.sort_unstable.ensures.sorted)
