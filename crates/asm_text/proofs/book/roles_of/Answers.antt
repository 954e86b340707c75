use Rattle.std.proofs.Common.{ap, ◌∙◌, arith}
use Rattle.std.specs.Option.{option_map}
use Rattle.asm_text.specs.Prepared.{said}
use Rattle.asm_text.specs.Lines.{form_of}
use Rattle.asm_text.specs.Roles.{role_of_head}
use Rattle.asm_text.specs.Spans.{shown}
use Rattle.asm_text.proofs.Sections.Texts.{roles_step}
use Rattle.asm_text.proofs.book.roles_of.Goals as goal

pub loop-at-preserved : goal.loop-at-preserved
loop-at-preserved c =
    let names = option_map (λ c. said c.now) c.args.call in
    let seen = c.args.lines.now in
    let text = ap (shown names) c.line.ensures in
    c.loop-at.invariant ∙ roles_step seen names (record c.args.span { at = c.loop-at.at }) c.loop-at.found.items c.push.new.self.items c.in_ok-role_shown.field-0
    c.loop-at-test.true (omega (arith, c.if-at-len.true, c.len.ensures))
    (c.in_ok-role_shown.ensures ∙ ap (λ t. role_of_head (form_of t).head) text) c.in_ok-push.ensures.items
