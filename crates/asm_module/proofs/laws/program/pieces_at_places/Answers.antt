use Rattle.asm_module.proofs.Program.Growing.{holds_by, nothing_by}
use Rattle.asm_module.proofs.Program.Fields.{Spellings, ready}
use Rattle.asm_module.proofs.Program.Rows.{Rows}
use Rattle.asm_module.proofs.laws.program.pieces_at_places.Goals as goal

pub returns-clause-piece : goal.returns-clause-piece
returns-clause-piece c = λ grow t b p spelled is.
    let rows : Rows = record { field = c.kept.ensures.field; size = c.kept.ensures.size; range = c.kept.ensures.range; number = c.fields.ensures.number; byte = c.places.ensures.byte; word = c.places.ensures.word } in
    let spellings : Spellings = record { row = c.fields.ensures.row; zeros = λ instr. (c.kept.ensures.zeros instr).1; numbered = c.numbered.ensures.operands; filled = c.numbered.ensures.fields } in
    let answer = holds_by rows grow t b p (ready spellings b spelled) is in
    (answer.0, answer.1, answer.2.like, answer.2.pieces)

pub returns-clause-nothing : goal.returns-clause-nothing
returns-clause-nothing c = nothing_by
