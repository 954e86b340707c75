use Rattle.std.proofs.Common.{subst}
use Rattle.z80dev_disk.specs.Get.{IsGet}
use Rattle.z80dev_disk.specs.Refusals.{refusal_text}
use Rattle.host.specs.Answers.{MemoryAside, answer_by}
use Rattle.z80dev.specs.Disks.{GetsTo, Warns}
use Rattle.host.specs.Ending.{effect_of}
use Rattle.z80dev.proofs.Images.{about, ends}
use Rattle.z80dev.proofs.disks.getting.get_to.Goals as goal

pub returns : goal.returns
returns g c =
    let old = g.F.Files.folder c.args.files.now in
    let new = g.F.Files.folder c.finish-end.new.files in
    let before = g.W.Sink.stream c.args.output.now in
    let after = g.W.Sink.stream c.finish-end.new.output in
    let path = c.args.image.now in
    let answer = c.get-answer.result in
    ends (Warns (GetsTo c.args.name.now path c.args.user c.args.text c.args.path.now (effect_of old new before after))) c.done_with.result
    (about refusal_text path c.args.path.now (λ bytes. MemoryAside (IsGet bytes c.args.user c.args.name.now c.args.text)) old (g.F.Files.folder c.read_image.new.files) new before after c.in_ok-read.read answer c.finish-end.result c.done_with.result
    c.in_ok-read.ensures (subst (λ bytes. MemoryAside (IsGet bytes c.args.user c.args.name.now c.args.text) (answer_by refusal_text answer)) c.deref.ensures.value c.get-answer.ensures.answer) c.finish-end.ensures c.done_with.ensures)
