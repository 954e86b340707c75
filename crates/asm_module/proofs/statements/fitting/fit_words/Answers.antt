use Rattle.std.proofs.Common.{subst, sym, take}
use Rattle.std.proofs.lemmas.List.{take_all}
use Rattle.std.proofs.lemmas.List.Elements.{All-map, All-more, All-same}
use Rattle.zmo_object.specs.Modules.{statement_of}
use Rattle.asm_module.specs.Rules.Fitting.{FitsWord}
use Rattle.asm_module.proofs.statements.fitting.fit_words.Goals as goal

pub loop-statement-preserved : goal.loop-statement-preserved
loop-statement-preserved c =
    All-more (λ s. FitsWord (statement_of s)) c.args.statements.now c.loop-statement.statement-index c.statement-item.result c.loop-statement-test.true c.loop-statement.invariant
    (subst (λ s. FitsWord (statement_of s)) c.statement-item.is c.fits_word.ensures)

pub returns : goal.returns
returns c =
    All-map FitsWord statement_of c.args.statements.now
    (All-same (λ s. FitsWord (statement_of s)) c.args.statements.now (take c.loop-statement.statement-index c.args.statements.now)
    (sym (take_all c.loop-statement.statement-index c.args.statements.now c.loop-statement-test.false)) c.loop-statement.invariant)
