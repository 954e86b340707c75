use Rattle.asm_expr.proofs.ByNames.{constant_by_names, equated_by_names, offset_by_names, settled_by_names}
use Rattle.asm_expr.proofs.laws.by_names.Goals as goal

pub returns-clause-settled : goal.returns-clause-settled
returns-clause-settled c = settled_by_names

pub returns-clause-equated : goal.returns-clause-equated
returns-clause-equated c = equated_by_names

pub returns-clause-constant : goal.returns-clause-constant
returns-clause-constant c = constant_by_names

pub returns-clause-offset : goal.returns-clause-offset
returns-clause-offset c = offset_by_names
