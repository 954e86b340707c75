use Rattle.asm_parse.proofs.Definable.{definable}
use Rattle.asm_parse.proofs.name.is_name.Goals as goal

pub returns : goal.returns
returns c = definable c.args.text.now c.passes.result c.passes.ensures
