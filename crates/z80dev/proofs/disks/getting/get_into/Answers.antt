use Rattle.std.proofs.Common.{inl, sym, ◌∙◌}
use Rattle.z80dev.specs.Disks.{GetsInto, GetsMatching, Warns}
use Rattle.host.specs.Ending.{effect_of}
use Rattle.z80dev.proofs.Images.{ends_as, not_empty}
use Rattle.z80dev.proofs.disks.getting.get_into.Goals as goal

pub returns : goal.returns
returns g c = λ o.
    let x = effect_of (g.F.Files.folder c.args.files.now) (g.F.Files.folder c.get_matching.new.files) o o in
    let some = not_empty c.args.folder.now (sym c.is_empty.ensures ∙ c.if-is_empty.false) in
    ends_as (Warns (GetsMatching c.args.image.now c.args.user c.args.text c.args.pattern.now c.args.folder.now x)) (Warns (GetsInto c.args.image.now c.args.user c.args.text c.args.pattern.now c.args.folder.now x)) c.get_matching.result
    (λ line e w. (w.0, w.1, inl (some, w.2))) (c.get_matching.ensures o)
