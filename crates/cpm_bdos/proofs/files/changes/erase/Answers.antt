use Rattle.std.proofs.Common.{ap, sym, ◌∙◌}
use Rattle.cpm_disk.specs.Control.Fcbs.{drive_judged, name_of}
use Rattle.cpm_bdos.proofs.files.changes.erase.Goals as goal

pub returns : goal.returns
returns g c =
    let fcb = c.at-fcb.ensures in
    let go = ap drive_judged (sym fcb) ∙ sym c.in_ok-judge_drive.ensures in
    let name = c.name.ensures ∙ ap name_of fcb in
    rw go (c.erase.result, rw (← name) c.erase.ensures.done, c.erased.ensures)
