use Rattle.std.proofs.Common.{◌∙◌, sym, ap}
use Rattle.asm_expr.proofs.Entries.{lookup-named}
use Rattle.source_warnings.specs.Noted.{first_noted}
use Rattle.source_warnings.proofs.first_lines.FirstLines.first.Goals as goal

pub returns : goal.returns
returns c = c.copied.ensures ∙ c.get.ensures.value ∙ sym (lookup-named c.self.inside.lines.entries c.args.name.now) ∙ ap (λ t. first_noted t c.args.name.now) c.self.view_is
