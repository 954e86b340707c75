use Rattle.z80_form.specs.Numbers.{zeros}
use Rattle.z80_form.proofs.laws.kept.Goals as goal
use Rattle.z80_form.proofs.Kept.{row_steady, rows_steady, field_steady, size_steady}
use Rattle.z80_form.proofs.Spelled.{spells_kept}
use Rattle.z80_form.proofs.Ranges.{range_kept, blank_range}

pub returns-clause-row : goal.returns-clause-row
returns-clause-row c = row_steady

pub returns-clause-field : goal.returns-clause-field
returns-clause-field c = field_steady

pub returns-clause-size : goal.returns-clause-size
returns-clause-size c = size_steady

pub returns-clause-zeros : goal.returns-clause-zeros
returns-clause-zeros c = λ instr. (rows_steady zeros instr, blank_range instr)

pub returns-clause-range : goal.returns-clause-range
returns-clause-range c = range_kept

pub returns-clause-spells : goal.returns-clause-spells
returns-clause-spells c = spells_kept
