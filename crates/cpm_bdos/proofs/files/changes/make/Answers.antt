use Rattle.std.proofs.Common.{Err, ap, subst, sym, ◌∙◌}
use Rattle.cpm_image.specs.Directory.Letters.{letters}
use Rattle.cpm_disk.specs.Control.Fcbs.{file_judged, name_of}
use Rattle.cpm_disk.specs.Operations.{IsCreated}
use Rattle.cpm_bdos.proofs.files.changes.make.Goals as goal

pub returns-in-Err : goal.returns-in-Err
returns-in-Err g c =
    let fcb = c.at-fcb.ensures in
    let go = ap file_judged (sym fcb) ∙ sym c.in_ok-judge_file.ensures in
    let name = c.new.ensures ∙ ap letters (c.name.ensures ∙ ap name_of fcb) in
    rw go (Err c.in-Err.fault, subst (λ n. IsCreated g.S.Sectors.sectors g.S.Sectors.faults c.args.disk.now c.create.new.self c.args.user n (Err c.in-Err.fault)) name c.in-Err.ensures.done, c.not_made.ensures c.args.address c.args.memory.now)
