use Rattle.std.proofs.Common.{◌≡◌, Ok, Err, true, ap, subst, sym, ◌∙◌}
use Rattle.cpm_image.specs.Directory.Letters.{letters}
use Rattle.cpm_disk.specs.Control.Fcbs.{fcb_at, file_judged, name_of, random_of}
use Rattle.cpm_disk.specs.Control.Stops.{Ends, done}
use Rattle.cpm_bdos.specs.Records.Random.{can_have_record, refused_random_write, with_place_of}
use Rattle.cpm_bdos.proofs.Same.{entered_as, written_as}
use Rattle.cpm_bdos.proofs.records.random.write_at.Goals as goal

pub returns-in-Ok : goal.returns-in-Ok
returns-in-Ok g c =
    let fcb = c.at-fcb.ensures in
    let go = ap file_judged (sym fcb) ∙ sym c.in_ok-judge_file.ensures in
    let name = c.new-name.ensures ∙ ap letters (c.name.ensures ∙ ap name_of fcb) in
    let number = c.random-number.ensures ∙ ap random_of fcb in
    let within : can_have_record c.args.disk.now.kind (fcb_at c.args.address c.args.memory.now) ≡ true =
    ap (λ k. can_have_record k (fcb_at c.args.address c.args.memory.now)) (sym c.kind.ensures.kind) ∙ ap (can_have_record c.kind.result) (sym fcb) ∙ sym c.is_within.ensures ∙ c.if-not-is_within.false in
    let now = c.put_extent_entry.ensures
    ∙ entered_as g.S.Sectors.sectors c.write_block_of.new.self c.args.user _ _ _ _ c.args.address _ _ name (c.from-in-Ok.ensures ∙ number)
    (c.put_place_of.ensures ∙ ap (λ n. with_place_of c.args.address n c.args.memory.now) number) in
    rw (go, within) (
      Ok tt,
      written_as g.S.Sectors.sectors g.S.Sectors.faults c.args.disk.now c.write_block_of.new.self c.args.user _ _ _ _ _ _ _ _ name (c.from.ensures ∙ number) c.bytes_at.ensures c.in-Ok.is c.write_block_of.ensures.done,
      ap (done 0) (sym now),
    )

pub returns-in-Err : goal.returns-in-Err
returns-in-Err g c =
    let fcb = c.at-fcb.ensures in
    let go = ap file_judged (sym fcb) ∙ sym c.in_ok-judge_file.ensures in
    let name = c.new-name.ensures ∙ ap letters (c.name.ensures ∙ ap name_of fcb) in
    let number = c.random-number.ensures ∙ ap random_of fcb in
    let within : can_have_record c.args.disk.now.kind (fcb_at c.args.address c.args.memory.now) ≡ true =
    ap (λ k. can_have_record k (fcb_at c.args.address c.args.memory.now)) (sym c.kind.ensures.kind) ∙ ap (can_have_record c.kind.result) (sym fcb) ∙ sym c.is_within.ensures ∙ c.if-not-is_within.false in
    rw (go, within) (
      Err c.in-Err.fault,
      written_as g.S.Sectors.sectors g.S.Sectors.faults c.args.disk.now c.write_block_of.new.self c.args.user _ _ _ _ _ _ _ _ name (c.from.ensures ∙ number) c.bytes_at.ensures c.in-Err.is c.write_block_of.ensures.done,
      subst (λ n. Ends (refused_random_write c.args.address n c.args.memory.now c.in-Err.fault) c.args.memory.now c.not_written.new.memory c.not_written.result) number c.not_written.ensures,
    )
