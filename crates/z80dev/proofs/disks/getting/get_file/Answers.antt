use Rattle.std.proofs.Common.{None, subst}
use Rattle.z80dev_disk.specs.Words.{pattern_of}
use Rattle.z80dev.specs.Disks.{GetsInto, GetsNamed, Warns}
use Rattle.host.specs.Ending.{effect_of, EndsWith}
use Rattle.z80dev.proofs.Images.{ends_as, named_word}
use Rattle.z80dev.proofs.disks.getting.get_file.Goals as goal

pub returns-in-Some : goal.returns-in-Some
returns-in-Some g c =
    let x = effect_of (g.F.Files.folder c.args.files.now) (g.F.Files.folder c.get_named.new.files) (g.W.Sink.stream c.args.output.now) (g.W.Sink.stream c.get_named.new.output) in
    subst (λ o. EndsWith (Warns (GetsNamed o c.args.get.image.now c.args.get.user c.args.get.text c.args.get.name.now c.args.get.file.now x)) c.get_named.result) c.in-Some.ensures.name (c.get_named.ensures c.args.get.name.now)

pub returns-in_ok-pattern-in-None : goal.returns-in_ok-pattern-in-None
returns-in_ok-pattern-in-None g c =
    let o = g.W.Sink.stream c.args.output.now in
    let x = effect_of (g.F.Files.folder c.args.files.now) (g.F.Files.folder c.get_into.new.files) o o in
    let pattern = c.in_ok-pattern-in-None.pattern in
    subst (λ n. EndsWith (Warns (GetsNamed n c.args.get.image.now c.args.get.user c.args.get.text c.args.get.name.now c.args.get.file.now x)) c.get_into.result) c.in-None.ensures.name
    (ends_as (Warns (GetsInto c.args.get.image.now c.args.get.user c.args.get.text pattern c.args.get.file.now x)) (Warns (GetsNamed None c.args.get.image.now c.args.get.user c.args.get.text c.args.get.name.now c.args.get.file.now x)) c.get_into.result
    (λ line e w. (w.0, w.1, named_word pattern_of c.args.get.name.now pattern (λ p. GetsInto c.args.get.image.now c.args.get.user c.args.get.text p c.args.get.file.now x w.0 e) x e c.in_ok-pattern-in-None.ensures w.2))
    (c.get_into.ensures o))
