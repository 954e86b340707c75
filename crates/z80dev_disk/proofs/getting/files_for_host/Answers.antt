use Rattle.std.proofs.Common.{◌≡◌, subst, sym, unwrap_or}
use Rattle.cpm_image.specs.Directory.Searches.{size}
use Rattle.cpm_image.specs.declared.directory.listing.Listed.{Listed}
use Rattle.cpm_disk.specs.Calls.{Mounted}
use Rattle.cpm_disk.specs.Image.{Image, directory}
use Rattle.z80dev_disk.proofs.getting.files_for_host.Goals as goal

pub file_for_host-requires-clause-records : goal.file_for_host-requires-clause-records
file_for_host-requires-clause-records c =
    let file = c.file-item.result in
    let entries = directory c.args.disk.now.kind c.args.disk.now.device in
    let here = (c.requires.listed c.loop-file.file-index file c.loop-file-test.true).1 in
    subst (λ (d : Mounted Image). file.records ≡ unwrap_or (size file.user file.name (directory d.kind d.device)) 0) (sym c.loop-file.invariant.0)
    (subst (λ (f : Listed). f.records ≡ unwrap_or (size f.user f.name entries) 0) (sym c.file-item.is) here)
