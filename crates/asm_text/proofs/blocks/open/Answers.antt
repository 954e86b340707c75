use Rattle.std.proofs.Common.{◌∙◌, ap, sym, Some}
use Rattle.std.specs.Option.{option_map}
use Rattle.asm_text.specs.Roles.{roles}
use Rattle.asm_text.specs.Prepared.{said}
use Rattle.asm_text.specs.Spans.{text_of}
use Rattle.asm_text.proofs.Sections.Books.{as_it_stands}
use Rattle.asm_text.proofs.blocks.open.Goals as goal

pub returns-then-branch-clause-has : goal.returns-then-branch-clause-has
returns-then-branch-clause-has c =
    let texts = c.args.lines.now in
    c.in_ok-open-2.ensures.has ∙ as_it_stands texts (Some (said c.in-Some.call.now)) c.args.span (c.in_ok-is_plain.ensures.plain c.if-branch.true)
    ∙ ap (λ o. roles (text_of texts (option_map (λ c. said c.now) o) c.args.span)) (sym c.in-Some.is)
