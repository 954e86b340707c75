use Rattle.std.proofs.Common.{◌∙◌, ap, map, ◌||◌}
use Rattle.std.specs.List.{list_any}
use Rattle.std.specs.Str.{bytes_eq}
use Rattle.asm_module.proofs.Holding.Collected.{found_more}
use Rattle.asm_module.proofs.name_set.NameSet.add.Goals as goal

pub returns : goal.returns
returns c = λ other.
    ap (λ ks. list_any (bytes_eq other) (map (λ k. k.now) ks)) c.in_ok-insert.ensures.keys
    ∙ found_more (λ k. k.now) other c.args.name c.self.inside.set.keys
    ∙ ap (λ ks. list_any (bytes_eq other) ks || bytes_eq other c.args.name.now) c.self.view_is
