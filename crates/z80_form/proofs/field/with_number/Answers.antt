use Rattle.std.proofs.Common.{◌∙◌, ap, length}
use Rattle.z80_instr.specs.Table.{canonical}
use Rattle.z80_form.specs.Rows.{row}
use Rattle.z80_form.proofs.field.with_number.Goals as goal
use Rattle.z80_form.proofs.Kept.{row_steady, size_steady}

pub returns-clause-row : goal.returns-clause-row
returns-clause-row c = ap row c.filled.ensures ∙ row_steady _ _ _

pub returns-clause-size : goal.returns-clause-size
returns-clause-size c = ap (λ i. length (canonical i)) c.filled.ensures ∙ size_steady _ _ _
