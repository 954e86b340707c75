use Rattle.std.proofs.Common.{◌∙◌, sym}
use Rattle.asm_text.proofs.Signless.{no_words}
use Rattle.asm_text.proofs.reading.role_of.Goals as goal

pub returns-then-not-has_sign : goal.returns-then-not-has_sign
returns-then-not-has_sign c = sym (no_words c.args.line.now (sym c.has_sign.ensures ∙ c.if-not-has_sign.true))
