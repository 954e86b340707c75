use Rattle.std.proofs.Common.{length, suc}
use Rattle.asm_names.proofs.ByLines.{has_value, one_value}
use Rattle.asm_names.proofs.laws.meanings.level_by_level.Goals as goal

pub returns-clause-value : goal.returns-clause-value
returns-clause-value c names lines circle layout places steps = has_value names lines circle layout places steps (suc (length lines))

pub returns-clause-one : goal.returns-clause-one
returns-clause-one c = one_value
