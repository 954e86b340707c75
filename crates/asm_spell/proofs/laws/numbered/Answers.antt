use Rattle.std.proofs.Common.{Some}
use Rattle.asm_spell.specs.Line.{Code, Statement}
use Rattle.asm_spell.proofs.Numbered.{is_numbered, has_fields}
use Rattle.asm_spell.proofs.Walk.{line_found}
use Rattle.asm_spell.proofs.laws.numbered.Goals as goal

pub returns-clause-operands : goal.returns-clause-operands
returns-clause-operands c = λ tokens label instr numbers e. is_numbered c.spelled.ensures.instr c.spelled.ensures.fields _ instr numbers (line_found tokens (Statement label (Some (Code instr numbers))) e).2

pub returns-clause-fields : goal.returns-clause-fields
returns-clause-fields c = λ tokens label instr numbers e. has_fields c.fields.ensures.spelled _ instr numbers
    (is_numbered c.spelled.ensures.instr c.spelled.ensures.fields _ instr numbers (line_found tokens (Statement label (Some (Code instr numbers))) e).2)
