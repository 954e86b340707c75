use Rattle.z80_table.proofs.laws.reading.Goals as goal
use Rattle.z80_table.proofs.Spellings.{read-Codes, read_codes}

pub returns-clause-found : goal.returns-clause-found
returns-clause-found c = read_codes

pub returns-clause-only : goal.returns-clause-only
returns-clause-only c = read-Codes
