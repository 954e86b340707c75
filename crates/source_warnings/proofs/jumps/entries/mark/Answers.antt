use Rattle.std.proofs.Common.{arith}
use Rattle.std.proofs.lemmas.Bool.{cases_eq}
use Rattle.std.proofs.lemmas.Grind.{common_steps}
use Rattle.source_warnings.proofs.jumps.entries.mark.Goals as goal

pub returns-then-at-flags-clause-each : goal.returns-then-at-flags-clause-each
returns-then-at-flags-clause-each c = λ k h. grind (arith, common_steps, cases_eq k c.args.at)

pub returns-else-at-flags-clause-each : goal.returns-else-at-flags-clause-each
returns-else-at-flags-clause-each c = λ k h. grind (arith, common_steps, cases_eq k c.args.at)
