use Rattle.std.proofs.Common.{◌++◌, ◌∙◌, Ok, Err, ap, refl, subst, sym}
use Rattle.asm_module.specs.Assembled.{Assembles, IsRefused, assembled_of}
use Rattle.host.specs.Answers.{nothing}
use Rattle.report_texts.specs.Front.{front_text}
use Rattle.z80dev_make.specs.Warned.{AreModuleWarnings}
use Rattle.report_texts.proofs.Refused.{caused}
use Rattle.z80dev_make.proofs.assembling.assembled.Goals as goal

pub returns-in_ok-warnings-in-Ok-clause-answer : goal.returns-in_ok-warnings-in-Ok-clause-answer
returns-in_ok-warnings-in-Ok-clause-answer c =
    let m = assembled_of (c.in-Ok.module, c.in-Ok.lines) in
    let named = subst (λ n. Assembles n c.args.text.now c.args.grow (Ok m)) c.as_bytes.ensures.value c.in-Ok.ensures.answer in
    (Ok m, tt, subst (λ t. Assembles c.args.file.path.now t c.args.grow (Ok m)) c.requires named, c.in_ok-answer-in-Ok.ensures)

pub returns-in_ok-warnings-in-Ok-clause-warned : goal.returns-in_ok-warnings-in-Ok-clause-warned
returns-in_ok-warnings-in-Ok-clause-warned c =
    let m = assembled_of (c.in-Ok.module, c.in-Ok.lines) in
    let named = subst (λ n. Assembles n c.args.text.now c.args.grow (Ok m)) c.as_bytes.ensures.value c.in-Ok.ensures.answer in
    let here = subst (λ t. Assembles c.args.file.path.now t c.args.grow (Ok m)) c.requires named in
    let none = ap (λ a. a.said) c.in_ok-answer-in-Ok.ensures in
    subst (λ said. AreModuleWarnings c.args.warn c.args.front c.args.file c.args.grow said c.in_ok-warnings-in-Ok.warnings.items) (sym none) (m, here, c.in_ok-warnings-in-Ok.ensures c.args.file m refl refl refl)

pub returns-in_default : goal.returns-in_default
returns-in_default c =
    let fault = c.in-Err.fault in
    let path = c.args.file.path.now in
    let named = subst (λ n. IsRefused fault.why n c.args.text.now c.args.grow fault) c.as_bytes.ensures.value c.in-Err.ensures.answer in
    let refused = subst (λ t. IsRefused fault.why path t c.args.grow fault) c.requires named in
    let text = front_text c.args.front ++ c.args.file.text.now in
    let answer = c.object_refused.ensures.answer ∙ ap nothing c.told_behind-told.ensures in
    record {
      answer = (Err fault, c.in_default.not-NoMemory, caused path text c.args.grow fault fault.why c.in_default.not-NoMemory refused, answer);
      warned = subst (λ said. AreModuleWarnings c.args.warn c.args.front c.args.file c.args.grow said c.object_refused.result.warnings.items) (sym (ap (λ a. a.said) c.object_refused.ensures.answer)) c.object_refused.ensures.warned;
    }
