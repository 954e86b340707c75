use Rattle.cpm_image.proofs.FileList.{listing}
use Rattle.cpm_image.proofs.directory.listing.list.Goals as goal

pub returns-clause-listing : goal.returns-clause-listing
returns-clause-listing c =
    let in_order = rw (c.in_ok-files.ensures {u = tt}) at c.bring_in_order.ensures in
    rw (c.in_ok-describe_each.ensures {u = tt}, c.deref.ensures.value) (listing c.args.entries.now _ in_order)
