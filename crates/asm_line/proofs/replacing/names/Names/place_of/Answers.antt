use Rattle.std.proofs.Common.{◌∙◌, ap, sym}
use Rattle.std.specs.Option.{option_map}
use Rattle.asm_line.proofs.Replaced.Places.{lookup-seen}
use Rattle.asm_line.proofs.replacing.names.Names.place_of.Goals as goal

pub returns : goal.returns
returns c = λ f. ap (option_map f) (c.copied.ensures ∙ c.get.ensures.value) ∙ sym (lookup-seen f c.args.self.now.places.entries c.args.name.now)
