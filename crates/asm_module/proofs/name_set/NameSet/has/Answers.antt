use Rattle.std.proofs.Common.{◌∙◌, sym, ap}
use Rattle.std.specs.List.{list_any}
use Rattle.std.specs.Str.{bytes_eq}
use Rattle.asm_module.proofs.Holding.Collected.{any_map}
use Rattle.asm_module.proofs.name_set.NameSet.has.Goals as goal

pub returns : goal.returns
returns c = c.contains.ensures ∙ sym (any_map (bytes_eq c.args.name.now) (λ k. k.now) c.self.inside.set.keys) ∙ ap (list_any (bytes_eq c.args.name.now)) c.self.view_is
