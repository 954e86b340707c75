use Rattle.zlink.specs.Program.Parts.{parts, all_publics}
use Rattle.zlink.proofs.Programs.Laid_end_to_end.{length-program, part_there, statement_there}
use Rattle.zlink.proofs.laws.program.laid_out.Goals as goal

pub returns-clause-parts : goal.returns-clause-parts
returns-clause-parts c = part_there

pub returns-clause-statements : goal.returns-clause-statements
returns-clause-statements c = statement_there

pub returns-clause-count : goal.returns-clause-count
returns-clause-count c = λ modules. length-program (all_publics (parts modules)) 0 0 modules
