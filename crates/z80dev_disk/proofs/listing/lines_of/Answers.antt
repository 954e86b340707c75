use Rattle.std.proofs.Common.{◌++◌, ◌∙◌, ap₂, sym}
use Rattle.z80dev_disk.specs.Dir.{dir_line}
use Rattle.z80dev_disk.proofs.Lists.{flat_step}
use Rattle.z80dev_disk.proofs.listing.lines_of.Goals as goal

pub loop-file-preserved : goal.loop-file-preserved
loop-file-preserved c =
    c.in_ok-extend_from_slice.ensures.items ∙ ap₂ (λ xs ys. xs ++ ys) c.loop-file.invariant (c.deref.ensures.value ∙ c.in_ok-line_of.ensures)
    ∙ sym (flat_step (dir_line c.args.long c.args.disk.now.kind c.args.disk.now.device) c.args.files.now c.loop-file.file-index c.file-item.result c.loop-file-test.true c.file-item.is)
