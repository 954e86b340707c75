use Rattle.std.proofs.Common.{◌≡◌, ◌∙◌, ◌-◌, ap, sym, subst, length, None, Some, [], ◌∷◌, ◌++◌}
use Rattle.std.specs.List.{slice_get}
use Rattle.std.specs.Option.{option_map}
use Rattle.std.proofs.lemmas.List.Elements.{All-push, All-same}
use Rattle.indexmap.proofs.CallerLemmas.{insert_entry-new}
use Rattle.asm_line.specs.Replacing.Views.{texts}
use Rattle.asm_text.specs.Sections.Blocks.{block_body}
use Rattle.asm_text.specs.Sections.Onward.{stray}
use Rattle.asm_text.specs.Sections.Sections.{body_seen, numbered_line}
use Rattle.asm_text.specs.Prepared.{said}
use Rattle.asm_text.specs.Kept.{IsKeptMacro}
use Rattle.asm_macro.specs.declared.fault.MacroFault.{MacroFault}
use Rattle.asm_macro.specs.State.{macro_named, with_macro}
use Rattle.asm_macro.specs.Ahead.{seen}
use Rattle.asm_macro.specs.Parts.{Go}
use Rattle.asm_macro.specs.Parts as parts
use Rattle.asm_macro.specs.Private.Frames.{innermost}
use Rattle.asm_macro.specs.Private.Heads.{kept}
use Rattle.asm_macro.specs.Private.Moves.{Fails, moved, rest_of, state_of, tables_in}
use Rattle.asm_macro.proofs.Stacks.{last_table}
use Rattle.asm_macro.proofs.Onwards.{closing_none, closing_some}
use Rattle.asm_text.proofs.Macros.{absent}
use Rattle.asm_macro.proofs.Macros.{kept_is}
use Rattle.asm_macro.proofs.expansion.Expansion.keep.Goals as goal

pub returns-in-Some-strays-clause-taken : goal.returns-in-Some-strays-clause-taken
returns-in-Some-strays-clause-taken c =
    let x = c.args.self.now in
    let y = c.body.new.self in
    let same = c.in_ok-found.ensures.kept in
    let found = subst (λ z. block_body (rest_of z).text ≡ Some (body_seen z.lines (innermost (tables_in z)) c.in-Some.body)) (sym same)
    (sym c.in_ok-found.ensures.body ∙ ap (option_map (body_seen x.lines (innermost (tables_in x)))) c.in-Some.is) in
    let names = last_table (λ n. said n) y.calls.items c.last.result (c.last.ensures.value ∙ ap (λ xs. slice_get xs (length xs - 1)) c.deref.ensures.value) in
    let strays = c.in_ok-strays.ensures ∙ ap (λ n. stray (numbered_line y.lines n c.in-Some.body.stretch.end)) names in
    let b = body_seen y.lines (innermost (tables_in y)) c.in-Some.body in
    let some = texts c.args.parameters.items in
    let number = c.in-Some-strays.number in
    subst (λ z. moved (rest_of z).depth (rest_of z).around (kept (state_of z) (seen c.args.line) c.args.key.items some (block_body (rest_of z).text)) ≡ Fails [] number MacroFault.Stray) same
    (ap (λ o. moved (rest_of y).depth (rest_of y).around (kept (state_of y) (seen c.args.line) c.args.key.items some o)) found
    ∙ ap (moved (rest_of y).depth (rest_of y).around) (closing_some b.section.end c.in_ok-strays.strays number strays c.in-Some-strays.is
    (Go [] (with_macro c.args.key.items (record { parameters = some; body = parts.line_texts b.section.lines }) (state_of y)) b.after)))

pub returns-clause-taken : goal.returns-clause-taken
returns-clause-taken c =
    let x = c.args.self.now in
    let y = c.body.new.self in
    let same = c.in_ok-found.ensures.kept in
    let found = subst (λ z. block_body (rest_of z).text ≡ Some (body_seen z.lines (innermost (tables_in z)) c.in-Some.body)) (sym same)
    (sym c.in_ok-found.ensures.body ∙ ap (option_map (body_seen x.lines (innermost (tables_in x)))) c.in-Some.is) in
    let names = last_table (λ n. said n) y.calls.items c.last.result (c.last.ensures.value ∙ ap (λ xs. slice_get xs (length xs - 1)) c.deref.ensures.value) in
    let strays = c.in_ok-strays.ensures ∙ ap (λ n. stray (numbered_line y.lines n c.in-Some.body.stretch.end)) names in
    let end = closing_none (numbered_line y.lines (innermost (tables_in y)) c.in-Some.body.stretch.end) c.in_ok-strays.strays strays c.in_default-strays.is in
    let called = c.in_ok-called.called in
    let outside = subst (λ z. length z.calls.items ≡ 0) (sym same) c.requires.outside in
    let new = subst (λ z. macro_named (state_of z) c.args.key.items ≡ None) (sym same) c.requires.new in
    ap (λ z. moved (rest_of z).depth (rest_of z).around (kept (state_of z) (seen c.args.line) c.args.key.items (texts c.args.parameters.items) (block_body (rest_of z).text))) (sym same)
    ∙ kept_is y (seen c.args.line) c.insert.new.self.entries c.args.key c.args.parameters c.in-Some.body called outside found end c.in_ok-called.ensures.parts.0 c.in_ok-called.ensures.parts.1
    (c.in_ok-insert.ensures.entries ∙ insert_entry-new _ y.macros c.args.key called (absent y.lines y.macros.entries c.args.key.items new))

pub returns-clause-sound : goal.returns-clause-sound
returns-clause-sound c =
    let y = c.body.new.self in
    let sound = c.in_ok-found.ensures.sound in
    let called = c.in_ok-called.called in
    let new = subst (λ z. macro_named (state_of z) c.args.key.items ≡ None) (sym c.in_ok-found.ensures.kept) c.requires.new in
    let entries = c.in_ok-insert.ensures.entries ∙ insert_entry-new _ y.macros c.args.key called (absent y.lines y.macros.entries c.args.key.items new) in
    record {
      short = sound.short;
      turns = sound.turns;
      shallow = sound.shallow;
      few = sound.few;
      book = sound.book;
      books = sound.books;
      source = sound.source;
      macros = All-same (λ e. IsKeptMacro y.lines e.1) c.insert.new.self.entries (y.macros.entries ++ (c.args.key, called) ∷ []) entries (All-push (λ e. IsKeptMacro y.lines e.1) y.macros.entries (c.args.key, called) sound.macros c.in_ok-called.ensures.kept);
      open_calls = sound.open_calls;
    }
