use Rattle.std.proofs.Common.{Ok, Err, length, refl, ap, ◌∙◌}
use Rattle.asm_names.specs.Lines.{lines_of}
use Rattle.report_texts.specs.Shared.{first_unshared}
use Rattle.report_texts.proofs.Refused.{stopped}
use Rattle.report_texts.proofs.sharing.unshared.Goals as goal

pub returns-in-Ok : goal.returns-in-Ok
returns-in-Ok c =
    let words = length c.args.front.defines.now in
    let read = c.in-Ok.ensures in
    (Ok read.0, read.1, c.first_unshared.ensures ∙ ap (λ lines. first_unshared words (lines_of lines)) c.deref.ensures.value ∙ ap (first_unshared words) read.2)

pub returns-in_default : goal.returns-in_default
returns-in_default c =
    let other = c.in_default.not-NoMemory in
    (Err (c.in-Err.field-0-0, c.in-Err.why), (other, stopped c.args.text.now c.in-Err.field-0-0 c.in-Err.why other c.in-Err.ensures), refl)
