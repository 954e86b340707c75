use Rattle.std.proofs.Common.{All, take}
use Rattle.zmo_object.specs.Modules.{statement_of}
use Rattle.asm_module.specs.Rules.Fitting.{FitsWord}
use Rattle.asm_module.proofs.statements.fitting.fit_words.Given as goal

abbrev pub invariant-loop-statement : goal.invariant-loop-statement
invariant-loop-statement l = All (λ s. FitsWord (statement_of s)) (take l.statement-index l.statements)
