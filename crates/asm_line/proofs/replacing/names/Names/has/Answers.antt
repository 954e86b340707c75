use Rattle.std.proofs.Common.{◌∙◌, ap, sym, is_some}
use Rattle.std.specs.Option.{option_map}
use Rattle.asm_line.specs.Replacing.Views.{replacement_at}
use Rattle.asm_line.proofs.Replaced.Places.{lookup-seen, same_some}
use Rattle.asm_line.proofs.replacing.names.Names.has.Goals as goal

pub returns : goal.returns
returns c = λ some counter.
    let f = replacement_at some counter in
    c.is_some.ensures ∙ same_some f c.get.result ∙ ap (λ o. is_some (option_map f o)) c.get.ensures.value ∙ ap is_some (sym (lookup-seen f c.args.self.now.places.entries c.args.name.now))
