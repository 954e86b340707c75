use Rattle.asm_macro.proofs.FewLines.{few_expands}
use Rattle.asm_macro.proofs.Leads.{onward_leads, part_leads}
use Rattle.asm_macro.proofs.laws.parts.Goals as goal

pub returns-clause-line : goal.returns-clause-line
returns-clause-line c = part_leads

pub returns-clause-onward : goal.returns-clause-onward
returns-clause-onward c = onward_leads

pub returns-clause-text : goal.returns-clause-text
returns-clause-text c = few_expands
