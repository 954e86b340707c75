use Rattle.std.proofs.Common.{◌≡◌, take}
use Rattle.asm_expr.specs.Names.{empty}
use Rattle.asm_names.proofs.places.passed.Given as goal

abbrev pub invariant-loop-statement : goal.invariant-loop-statement
invariant-loop-statement l = l.names ≡ record empty { statements = take l.statement-index l.statements }
