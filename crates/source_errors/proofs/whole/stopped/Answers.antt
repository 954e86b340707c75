use Rattle.std.proofs.Common.{◌∙◌, ◌++◌, ap, map, subst, sym}
use Rattle.bstr.specs.Text.{lines_of, without_terminator}
use Rattle.asm_module.specs.Whys.{macro_why}
use Rattle.source_errors.specs.Found as whole
use Rattle.source_errors.specs.Found.{AreFindings, line_at, plain}
use Rattle.source_errors.proofs.Finding_all.{one_found, stop_found}
use Rattle.source_errors.proofs.whole.stopped.Goals as goal

pub returns-then-not-is_of_tokens : goal.returns-then-not-is_of_tokens
returns-then-not-is_of_tokens c =
    let lines_are = c.in_ok-lines.ensures.lines ∙ ap (λ t. map without_terminator (lines_of t)) c.source_part.ensures.part in
    let first = one_found c.push.new.self.items _ c.in_ok-stop_at.field-0 _ c.in_ok-push.ensures.items c.new-findings.ensures.items (stop_found c.args.text.now c.in_ok-lines.lines c.args.number c.args.why c.in_ok-stop_at.field-0 lines_are c.in_ok-stop_at.ensures) in
    subst (AreFindings c.args.grow c.args.text.now) (sym first) (whole.stopped c.args.why c.requires.caused c.requires.stops (sym c.is_of_tokens.ensures ∙ c.if-not-is_of_tokens.true))

pub returns : goal.returns
returns c =
    let lines_are = c.in_ok-lines.ensures.lines ∙ ap (λ t. map without_terminator (lines_of t)) c.source_part.ensures.part in
    let first = one_found c.push.new.self.items _ c.in_ok-stop_at.field-0 _ c.in_ok-push.ensures.items c.new-findings.ensures.items (stop_found c.args.text.now c.in_ok-lines.lines c.args.number c.args.why c.in_ok-stop_at.field-0 lines_are c.in_ok-stop_at.ensures) in
    let others = c.in_ok-known.ensures c.args.text.now lines_are in
    subst (AreFindings c.args.grow c.args.text.now) (sym (others.2 ∙ ap (λ fs. fs ++ others.0) first)) (whole.mends c.args.why c.requires.stops (sym c.is_of_tokens.ensures ∙ c.if-not-is_of_tokens.false) others.1)
