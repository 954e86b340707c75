use Rattle.std.proofs.Common.{◌≡◌, Err, true, ap, subst, sym, ◌∙◌}
use Rattle.cpm_image.specs.Directory.Letters.{letters}
use Rattle.cpm_disk.specs.Control.Fcbs.{fcb_at, file_judged, name_of, random_of}
use Rattle.cpm_disk.specs.Control.Stops.{Ends}
use Rattle.cpm_bdos.specs.Records.Random.{can_have_record, refused_random_read}
use Rattle.cpm_bdos.proofs.Same.{read_as}
use Rattle.cpm_bdos.proofs.records.random.read_at.Goals as goal

pub returns-in-Err : goal.returns-in-Err
returns-in-Err g c =
    let fcb = c.at-fcb.ensures in
    let go = ap file_judged (sym fcb) ∙ sym c.in_ok-judge_file.ensures in
    let name = c.new-name.ensures ∙ ap letters (c.name.ensures ∙ ap name_of fcb) in
    let number = c.random-number.ensures ∙ ap random_of fcb in
    let within : can_have_record c.args.disk.now.kind (fcb_at c.args.address c.args.memory.now) ≡ true =
    ap (λ k. can_have_record k (fcb_at c.args.address c.args.memory.now)) (sym c.kind.ensures.kind) ∙ ap (can_have_record c.kind.result) (sym fcb) ∙ sym c.is_within.ensures ∙ c.if-not-is_within.false in
    rw (go, within) (
      Err c.in-Err.fault,
      read_as g.S.Sectors.sectors g.S.Sectors.faults c.args.disk.now c.read_block_of.new.self c.args.user _ _ _ _ _ _ name (c.from.ensures ∙ number) c.in-Err.is c.read_block_of.ensures.done,
      subst (λ n. Ends (refused_random_read c.args.address n c.args.memory.now c.in-Err.fault) c.args.memory.now c.not_read.new.memory c.not_read.result) number c.not_read.ensures,
    )
