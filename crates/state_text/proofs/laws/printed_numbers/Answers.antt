use Rattle.state_text.proofs.PrintedNumbers.{displacement_is, no_number, number_is}
use Rattle.state_text.proofs.laws.printed_numbers.Goals as goal

pub returns-clause-number : goal.returns-clause-number
returns-clause-number c = number_is

pub returns-clause-displacement : goal.returns-clause-displacement
returns-clause-displacement c = displacement_is

pub returns-clause-none : goal.returns-clause-none
returns-clause-none c = no_number
