use Rattle.asm_module.proofs.Program.Fields.{Spellings, ready}
use Rattle.asm_module.proofs.Rules.Pieces.{Laws, keeps}
use Rattle.asm_module.proofs.Program.Rows.{Rows}
use Rattle.asm_module.proofs.laws.rules.pieces_keep_rules.Goals as goal

pub returns : goal.returns
returns c = λ t b p refs counted brings spelled is.
    let rows : Rows = record { field = c.kept.ensures.field; size = c.kept.ensures.size; range = c.kept.ensures.range; number = c.fields.ensures.number; byte = c.places.ensures.byte; word = c.places.ensures.word } in
    let spellings : Spellings = record { row = c.fields.ensures.row; zeros = λ instr. (c.kept.ensures.zeros instr).1; numbered = c.numbered.ensures.operands; filled = c.numbered.ensures.fields } in
    let laws : Laws = record { worth = c.worth_of_settled.ensures; refs = c.no_other_refs.ensures.settled } in
    keeps rows laws refs t counted brings b p (ready spellings b spelled) is
