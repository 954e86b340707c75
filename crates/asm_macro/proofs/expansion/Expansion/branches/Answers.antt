use Rattle.std.proofs.Common.{◌≡◌, ◌∙◌, ◌-◌, IfOk, ap, subst, length}
use Rattle.std.specs.List.{slice_get}
use Rattle.std.specs.Option.{option_map}
use Rattle.asm_text.specs.Sections.Blocks.{branches_of}
use Rattle.asm_text.specs.Sections.Books.{IsBook}
use Rattle.asm_text.specs.Prepared.{said}
use Rattle.asm_text.specs.Sections.Sections.{branches_seen}
use Rattle.asm_text.specs.Spans.{text_of}
use Rattle.asm_macro.proofs.Stacks.{given_ok, last_table}
use Rattle.asm_macro.proofs.expansion.Expansion.branches.Goals as goal

pub returns-clause-sound : goal.returns-clause-sound
returns-clause-sound c =
    let x = c.args.self.now in
    let sound = c.requires.sound in
    let names = last_table (λ n. said n) x.calls.items c.last.result (c.last.ensures.value ∙ ap (λ xs. slice_get xs (length xs - 1)) c.deref.ensures.value) in
    given_ok c.branches_of.result (record {
      short = sound.short;
      turns = sound.turns;
      shallow = sound.shallow;
      few = sound.few;
      book = subst (λ n. IsBook x.lines n c.branches_of.new.book) names c.branches_of.ensures.book;
      books = sound.books;
      source = c.branches_of.ensures.source;
      macros = sound.macros;
      open_calls = sound.open_calls;
    })

pub returns-clause-branches : goal.returns-clause-branches
returns-clause-branches c =
    let x = c.args.self.now in
    let names = last_table (λ n. said n) x.calls.items c.last.result (c.last.ensures.value ∙ ap (λ xs. slice_get xs (length xs - 1)) c.deref.ensures.value) in
    subst (λ n. IfOk c.branches_of.result (λ found. option_map (branches_seen x.lines n) found ≡ branches_of (text_of x.lines n x.text))) names c.branches_of.ensures.branches
