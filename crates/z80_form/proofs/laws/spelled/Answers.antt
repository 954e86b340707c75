use Rattle.z80_form.proofs.laws.spelled.Goals as goal
use Rattle.z80_form.proofs.Texts.{found_is, found_none, found_few, found_fields}

pub returns-clause-instr : goal.returns-clause-instr
returns-clause-instr c = found_is

pub returns-clause-none : goal.returns-clause-none
returns-clause-none c = found_none

pub returns-clause-few : goal.returns-clause-few
returns-clause-few c = found_few

pub returns-clause-fields : goal.returns-clause-fields
returns-clause-fields c = found_fields
