use Rattle.z80_form.proofs.laws.fields.Goals as goal
use Rattle.z80_form.proofs.Rows.{row_fields, spelled_fields}
use Rattle.z80_form.proofs.Spelled.{no_displacement}

pub returns-clause-row : goal.returns-clause-row
returns-clause-row c = row_fields

pub returns-clause-number : goal.returns-clause-number
returns-clause-number c = no_displacement

pub returns-clause-spelled : goal.returns-clause-spelled
returns-clause-spelled c = spelled_fields
