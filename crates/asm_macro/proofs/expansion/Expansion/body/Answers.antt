use Rattle.std.proofs.Common.{◌≡◌, ◌∙◌, ◌-◌, IfOk, ap, subst, length}
use Rattle.std.specs.List.{slice_get}
use Rattle.std.specs.Option.{option_map}
use Rattle.asm_text.specs.Sections.Blocks.{block_body}
use Rattle.asm_text.specs.Sections.Books.{IsBook}
use Rattle.asm_text.specs.Prepared.{said}
use Rattle.asm_text.specs.Sections.Sections.{body_seen}
use Rattle.asm_text.specs.Spans.{text_of}
use Rattle.asm_macro.proofs.Stacks.{given_ok, last_table}
use Rattle.asm_macro.proofs.expansion.Expansion.body.Goals as goal

pub returns-clause-sound : goal.returns-clause-sound
returns-clause-sound c =
    let x = c.args.self.now in
    let sound = c.requires.sound in
    let names = last_table (λ n. said n) x.calls.items c.last.result (c.last.ensures.value ∙ ap (λ xs. slice_get xs (length xs - 1)) c.deref.ensures.value) in
    given_ok c.body_of.result (record {
      short = sound.short;
      turns = sound.turns;
      shallow = sound.shallow;
      few = sound.few;
      book = subst (λ n. IsBook x.lines n c.body_of.new.book) names c.body_of.ensures.book;
      books = sound.books;
      source = c.body_of.ensures.source;
      macros = sound.macros;
      open_calls = sound.open_calls;
    })

pub returns-clause-body : goal.returns-clause-body
returns-clause-body c =
    let x = c.args.self.now in
    let names = last_table (λ n. said n) x.calls.items c.last.result (c.last.ensures.value ∙ ap (λ xs. slice_get xs (length xs - 1)) c.deref.ensures.value) in
    subst (λ n. IfOk c.body_of.result (λ found. option_map (body_seen x.lines n) found ≡ block_body (text_of x.lines n x.text))) names c.body_of.ensures.body
