use Rattle.std.proofs.Common.{subst}
use Rattle.z80dev_disk.specs.Check.{IsCheck}
use Rattle.z80dev_disk.specs.Refusals.{refusal_text}
use Rattle.host.specs.Answers.{MemoryAside, answer_by}
use Rattle.z80dev.specs.Disks.{CheckDiskEnds}
use Rattle.host.specs.Ending.{effect_of}
use Rattle.z80dev.proofs.Images.{about, ends}
use Rattle.z80dev.proofs.disks.listing.check_image.Goals as goal

pub returns : goal.returns
returns g c =
    let old = g.F.Files.folder c.args.files.now in
    let new = g.F.Files.folder c.finish-end.new.files in
    let before = g.W.Sink.stream c.args.output.now in
    let after = g.W.Sink.stream c.finish-end.new.output in
    let path = c.args.image.now in
    let answer = c.check_disk-answer.result in
    ends (CheckDiskEnds path (effect_of old new before after)) c.done_with.result
    (about refusal_text path path (λ bytes. MemoryAside (IsCheck bytes)) old (g.F.Files.folder c.read_image.new.files) new before after c.in_ok-read.read answer c.finish-end.result c.done_with.result c.in_ok-read.ensures
    (subst (λ bytes. MemoryAside (IsCheck bytes) (answer_by refusal_text answer)) c.deref.ensures.value c.check_disk-answer.ensures.answer) c.finish-end.ensures c.done_with.ensures)
