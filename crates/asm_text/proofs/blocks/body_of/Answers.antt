use Rattle.std.proofs.Common.{◌<◌, ◌-◌, ◌∙◌, ap, sym, subst, length}
use Rattle.std.specs.Option.{option_map}
use Rattle.asm_text.specs.Nesting.Blocks.{between, body_length}
use Rattle.asm_text.specs.Prepared.{said}
use Rattle.asm_text.specs.Roles.{roles}
use Rattle.asm_text.specs.Spans.{text_of}
use Rattle.asm_text.specs.Private.Chosen.{Has}
use Rattle.asm_text.proofs.Sections.Texts.{body_is, inside}
use Rattle.asm_text.proofs.blocks.body_of.Goals as goal

pub returns-in-Some-clause-body : goal.returns-in-Some-clause-body
returns-in-Some-clause-body c =
    let names = option_map (λ c. said c.now) c.args.call in
    let seen = c.args.lines.now in
    let links = c.opened-book.result.now.links in
    let text = ap (λ f. between f c.saturating_sub-to.result links) c.saturating_sub-from.ensures ∙ ap (λ t. between (c.args.span.at - c.opened-book.result.now.at) t links) c.saturating_sub-to.ensures ∙ subst (Has (roles (text_of seen names c.args.span)) c.args.span) (sym c.opened-book.ensures) c.in_ok-plain.ensures.has in
    let is = c.in-Some.ensures.is ∙ ap (body_length 0) text in
    let within = inside seen names c.args.span c.in-Some.len (subst (λ rs. c.in-Some.len < length rs) text c.in-Some.ensures.within) in
    rw (c.front.ensures, c.behind.ensures) (body_is seen names c.args.span c.in-Some.len within (sym is))
