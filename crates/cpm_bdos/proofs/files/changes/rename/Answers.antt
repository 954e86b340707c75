use Rattle.std.proofs.Common.{ap, sym, ◌∙◌}
use Rattle.cpm_image.specs.Directory.Letters.{letters}
use Rattle.cpm_disk.specs.Control.Fcbs.{name_of, names_judged, new_name_of}
use Rattle.cpm_bdos.proofs.files.changes.rename.Goals as goal

pub returns : goal.returns
returns g c =
    let fcb = c.at-fcb.ensures in
    let go = ap names_judged (sym fcb) ∙ sym c.in_ok-judge_names.ensures in
    let old = c.new-old.ensures ∙ ap letters (c.name.ensures ∙ ap name_of fcb) in
    let new = c.new-new.ensures ∙ ap letters (c.new_name.ensures ∙ ap new_name_of fcb) in
    rw go (c.rename.result, rw (← old, ← new) c.rename.ensures.done, c.renamed.ensures)
