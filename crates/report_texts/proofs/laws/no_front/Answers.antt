use Rattle.report_texts.proofs.Faulty.{faultless, no_lines, no_text, same_fault}
use Rattle.report_texts.proofs.laws.no_front.Goals as goal

pub returns-clause-text : goal.returns-clause-text
returns-clause-text c = no_text

pub returns-clause-lines : goal.returns-clause-lines
returns-clause-lines c = no_lines

pub returns-clause-faultless : goal.returns-clause-faultless
returns-clause-faultless c = faultless

pub returns-clause-faults : goal.returns-clause-faults
returns-clause-faults c = same_fault
