use Rattle.std.proofs.Common.{◌∙◌, ◌+◌, ap, sym, length, ◌-◌}
use Rattle.std.specs.Option.{unwrap_or}
use Rattle.std.specs.List.{slice_get}
use Rattle.asm_text.specs.Prepared.{said}
use Rattle.asm_macro.proofs.Stacks.{last_table}
use Rattle.asm_text.proofs.Sections.Texts.{front_line}
use Rattle.asm_macro.specs.Private.Moves.{rest_of, tables_in}
use Rattle.asm_macro.specs.Private.Frames.{innermost}
use Rattle.asm_text.specs.Spans.{shown}
use Rattle.asm_macro.proofs.expansion.Expansion.put_line.Goals as goal

pub returns-in-Some-clause-line : goal.returns-in-Some-clause-line
returns-in-Some-clause-line c =
    let x = c.args.self.now in
    let text = c.in_ok-put_shown.ensures ∙ ap (λ n. shown n c.args.source.now) (last_table (λ n. said n) x.calls.items c.last.result (c.last.ensures.value ∙ ap (λ xs. slice_get xs (length xs - 1)) c.deref.ensures.value)) ∙ ap (shown (innermost (tables_in x))) c.requires.source in
    ap (λ t. record (rest_of x) { text = t }) (front_line x.lines (innermost (tables_in x)) x.text c.in-Some.number c.put_shown.new.out.items c.requires.at c.requires.within
    (ap (λ o. unwrap_or o (x.text.at + 1)) (sym c.in-Some.is)) text)

pub returns-in-None-clause-line : goal.returns-in-None-clause-line
returns-in-None-clause-line c =
    let x = c.args.self.now in
    let text = c.in_ok-put_shown.ensures ∙ ap (λ n. shown n c.args.source.now) (last_table (λ n. said n) x.calls.items c.last.result (c.last.ensures.value ∙ ap (λ xs. slice_get xs (length xs - 1)) c.deref.ensures.value)) ∙ ap (shown (innermost (tables_in x))) c.requires.source in
    ap (λ t. record (rest_of x) { text = t }) (front_line x.lines (innermost (tables_in x)) x.text (x.text.at + 1) c.put_shown.new.out.items c.requires.at c.requires.within
    (ap (λ o. unwrap_or o (x.text.at + 1)) (sym c.in-None.is)) text)
