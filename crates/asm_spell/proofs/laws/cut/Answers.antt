use Rattle.asm_spell.proofs.Cuts.{are_cut, cut_once}
use Rattle.asm_spell.proofs.laws.cut.Goals as goal

pub returns-clause-is : goal.returns-clause-is
returns-clause-is c = are_cut

pub returns-clause-only : goal.returns-clause-only
returns-clause-only c = cut_once
