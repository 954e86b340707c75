use Rattle.std.proofs.Common.{◌∙◌, ◌-◌, ◌<◌, ap, arith, map, sym}
use Rattle.std.specs.Option.{option_map}
use Rattle.asm_text.specs.Prepared.{said}
use Rattle.asm_text.specs.Spans.{text_of}
use Rattle.asm_text.specs.Sections.Onward.{Into, On, Turns, behind, stray_in, stray_or}
use Rattle.asm_text.specs.Sections.Sections.{body_seen, section_of}
use Rattle.asm_text.specs.Sections.Views.{next_of}
use Rattle.asm_text.proofs.Sections.Strays.{behind_passed, renumbered-text, turns_more}
use Rattle.asm_text.proofs.onward.behind.Goals as goal

pub returns-in_ok-number-in-BehindSecond : goal.returns-in_ok-number-in-BehindSecond
returns-in_ok-number-in-BehindSecond c =
    let texts = c.args.lines.now in
    let names = option_map (λ c. said c.now) c.args.call in
    let choice = c.in-BehindSecond.choice in
    let after = text_of texts names choice.after in
    c.on-in-BehindSecond.ensures texts names
    ∙ ap (λ n. stray_or n (On after)) (c.in_ok-number-in-BehindSecond.ensures ∙ ap (λ os. stray_in (map (section_of texts names) os)) c.deref-in-BehindSecond.ensures.value)
    ∙ sym (behind_passed (map (section_of texts names) choice.others.items) after) ∙ ap (λ f. behind (next_of texts names f)) (sym c.in-BehindSecond.is)

pub returns-else-left-eq0 : goal.returns-else-left-eq0
returns-else-left-eq0 c =
    let texts = c.args.lines.now in
    let names = option_map (λ c. said c.now) c.args.call in
    let body = body_seen texts names c.in-Turns.body in
    let left = c.in-Turns.left in
    let number = c.in-Turns.number in
    let some : 0 < left = omega (arith, c.if-left-eq0.false) in
    ap (λ ls. Into ls (Turns (left - 1) number body)) (sym (renumbered-text number texts names c.in-Turns.body.stretch.lines))
    ∙ sym (turns_more left number body some) ∙ ap (λ f. behind (next_of texts names f)) (sym c.in-Turns.is)
