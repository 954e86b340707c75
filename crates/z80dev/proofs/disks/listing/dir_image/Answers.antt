use Rattle.std.proofs.Common.{subst}
use Rattle.z80dev_disk.specs.Dir.{IsDir}
use Rattle.z80dev_disk.specs.Refusals.{refusal_text}
use Rattle.host.specs.Answers.{MemoryAside, answer_by}
use Rattle.z80dev.specs.Disks.{DirEnds, ReadsImage}
use Rattle.host.specs.Ending.{CarriesOut, effect_of, end_in}
use Rattle.z80dev.proofs.Images.{about, ends, if_given}
use Rattle.z80dev.proofs.disks.listing.dir_image.Goals as goal

pub returns : goal.returns
returns g c =
    let old = g.F.Files.folder c.args.files.now in
    let new = g.F.Files.folder c.finish-end.new.files in
    let before = g.W.Sink.stream c.args.output.now in
    let after = g.W.Sink.stream c.finish-end.new.output in
    let x = effect_of old new before after in
    let path = c.args.image.now in
    let answer = c.dir-answer.result in
    let pattern = c.in_ok-pattern.pattern in
    let w = about refusal_text path path (λ bytes. MemoryAside (IsDir bytes (record { user = c.args.user; pattern = pattern; long = c.args.long }))) old (g.F.Files.folder c.read_image.new.files) new before after c.in_ok-read.read answer
    c.finish-end.result c.done_with.result c.in_ok-read.ensures
    (subst (λ bytes. MemoryAside (IsDir bytes (record { user = c.args.user; pattern = pattern; long = c.args.long })) (answer_by refusal_text answer)) c.deref.ensures.value c.dir-answer.ensures.answer) c.finish-end.ensures c.done_with.ensures in
    ends (DirEnds path c.args.user c.args.long c.args.word x) c.done_with.result (
      w.0,
      w.1,
      if_given c.args.word pattern (λ p. ReadsImage path (λ bytes. CarriesOut path (MemoryAside (IsDir bytes (record { user = c.args.user; pattern = p; long = c.args.long }))) x (end_in c.done_with.result)) x w.0 (end_in c.done_with.result)) x
          (end_in c.done_with.result) c.in_ok-pattern.ensures w.2,
    )
