use Rattle.std.proofs.Common.{◌≡◌, ◌∙◌, sym, ap}
use Rattle.asm_expr.proofs.Entries.{lookup-named}
use Rattle.asm_names.specs.Names.{kind_of_name}
use Rattle.asm_names.proofs.table.NameTable.kind.Goals as goal

pub returns : goal.returns
returns c = c.copied.ensures ∙ c.get.ensures.value ∙ sym (lookup-named c.self.inside.kinds.entries c.args.name.now) ∙ ap (λ t. kind_of_name t c.args.name.now) c.self.view_is
