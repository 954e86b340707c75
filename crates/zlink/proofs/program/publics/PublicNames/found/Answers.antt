use Rattle.std.proofs.Common.{◌∙◌, sym, ap}
use Rattle.zlink.specs.Program.Parts.{public_found}
use Rattle.zlink.proofs.Programs.Names.{lookup-seen}
use Rattle.zlink.proofs.program.publics.PublicNames.found.Goals as goal

pub returns : goal.returns
returns c = c.copied.ensures ∙ c.get.ensures.value ∙ sym (lookup-seen c.self.inside.statements.entries c.args.name.now) ∙ ap (λ t. public_found t c.args.name.now) c.self.view_is
