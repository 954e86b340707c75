use Rattle.std.proofs.Common.{Some, [], ◌∷◌, sym, ◌∙◌}
use Rattle.z80dev.specs.Disks.{GetsNamed, GetsTo, Warns, over_image}
use Rattle.host.specs.Ending.{effect_of}
use Rattle.host.proofs.Carried.{clear}
use Rattle.z80dev.proofs.Images.{ends_as, over_none}
use Rattle.z80dev.proofs.disks.getting.get_named.Goals as goal

pub returns : goal.returns
returns g c = λ word.
    let x = effect_of (g.F.Files.folder c.args.files.now) (g.F.Files.folder c.get_to.new.files) (g.W.Sink.stream c.args.output.now) (g.W.Sink.stream c.get_to.new.output) in
    let image = c.args.image.now in
    let path = c.args.path.now in
    let none = over_none image path (sym c.is_same_path.ensures ∙ c.if-is_same_path.false) in
    ends_as (Warns (GetsTo c.args.name.now image c.args.user c.args.text path x)) (Warns (GetsNamed (Some c.args.name.now) image c.args.user c.args.text word path x)) c.get_to.result
    (λ line e w. (w.0, w.1, clear (over_image image (path ∷ [])) (GetsTo c.args.name.now image c.args.user c.args.text path x w.0 e) x e none w.2)) c.get_to.ensures
