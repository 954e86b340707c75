use Rattle.std.proofs.Common.{ap, not, ◌∙◌}
use Rattle.std.specs.List.{list_any}
use Rattle.std.specs.Str.{bytes_eq}
use Rattle.zmo_object.proofs.Seen.{any-map}
use Rattle.zmo_object.proofs.names.Names.add.Goals as goal

pub returns-clause-new : goal.returns-clause-new
returns-clause-new c =
    let seen = any-map (bytes_eq c.args.name.now) (λ k. k.now) c.self.inside.set.keys in
    c.in_ok-insert.ensures.added ∙ ap not (seen ∙ ap (list_any (bytes_eq c.args.name.now)) c.self.view_is)
