use Rattle.std.proofs.Common.{◌<◌, ◌≤◌, ◌∙◌, ◌∷◌, [], ap, sym, length, get_or, arith}
use Rattle.std.proofs.lemmas.List.{get_or_past}
use Rattle.bstr.specs.Text.{part, without_terminator}
use Rattle.asm_text.proofs.Line_ends.{length-lines_by, line_by}
use Rattle.asm_text.proofs.lines.Lines.line.Goals as goal

pub returns-in_default : goal.returns-in_default
returns-in_default c =
    let past : length c.args.self.now ≤ c.args.at = omega (arith, c.in_default.ensures.lookup.3, ap length c.deref.ensures.value, length-lines_by c.self.inside.text.now 0 c.self.inside.ends.items, ap length c.self.view_is) in
    sym (get_or_past c.args.self.now c.args.at [] past)

pub returns : goal.returns
returns c =
    let text = c.self.inside.text.now in
    let ends = c.self.inside.ends.items in
    let at = c.args.at in
    let found = c.in-Some.ensures.lookup.3 in
    let there : at < length ends = omega (arith, found.0, ap length c.deref.ensures.value) in
    c.without_terminator.ensures ∙ ap without_terminator (
    c.part.ensures ∙ ap (λ from. part from c.in-Some.end.now text) (c.begin_at-from.ensures ∙ ap (λ es. get_or (0 ∷ es) at 0) c.deref-2.ensures.value)
    ∙ ap (λ to. part (get_or (0 ∷ ends) at 0) to text) (found.1 0 ∙ ap (λ es. get_or es at 0) c.deref.ensures.value)
    ) ∙ sym (line_by text 0 ends at there) ∙ ap (λ ls. get_or ls at []) c.self.view_is
