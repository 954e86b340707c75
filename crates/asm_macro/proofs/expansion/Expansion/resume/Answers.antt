use Rattle.std.proofs.Common.{◌≡◌, ◌∙◌, ◌+◌, ◌-◌, ◌++◌, ◌∷◌, [], ℕ, ap, sym, subst, length, reverse, length-take, arith, map, take}
use Rattle.std.specs.Vec.{vec_len}
use Rattle.asm_text.specs.declared.following.Following.{Following}
use Rattle.asm_macro.specs.Parts.{resumed}
use Rattle.asm_macro.specs.Private.Frames.{AreBooks, around_seen, innermost, turns_in}
use Rattle.asm_text.specs.Sections.Views.{next_of}
use Rattle.asm_macro.specs.Private.Moves.{Resumes, moved, rest_of, state_of, tables_in}
use Rattle.asm_text.specs.Prepared.{said}
use Rattle.std.proofs.lemmas.List.Elements.{All-same, All-take}
use Rattle.asm_text.specs.Sections.Books.{IsBook}
use Rattle.asm_text.specs.Kept.{IsCall}
use Rattle.asm_macro.proofs.Stacks.{popped_tables, pushed}
use Rattle.asm_macro.proofs.Turned.{popped, rest_popped, turns_popped}
use Rattle.asm_macro.proofs.expansion.Expansion.resume.Goals as goal

pub returns-in-Turns-clause-resumed : goal.returns-in-Turns-clause-resumed
returns-in-Turns-clause-resumed c =
    let x = c.args.self.now in
    let left = c.pop.new.self.items in
    let turns : Following = Following.Turns c.in-Turns.field-0 c.in-Turns.field-1 c.in-Turns.field-2 in
    let is = c.in-Some.ensures.items ∙ ap (λ f. left ++ f ∷ []) c.in-Turns.is in
    let to = λ (n : ℕ) (f : Following). moved (length (tables_in x) + n) (around_seen x.lines (tables_in x) (reverse left)) (resumed (length (tables_in x) + n) (next_of x.lines (innermost (tables_in x)) f) (state_of x)) in
    let same = turns_popped x left c.in-Turns.field-0 c.in-Turns.field-1 c.in-Turns.field-2 c.requires.sound is in
    subst (Resumes c.go_behind.result (rest_of c.go_behind.new.self))
    (sym (popped x left turns c.requires.over is ∙ ap (λ n. to n turns) same ∙ ap (to (x.turns - 1)) (sym c.in-Turns.is))) c.go_behind.ensures.resumed

pub returns-in-Rest-clause-sound : goal.returns-in-Rest-clause-sound
returns-in-Rest-clause-sound c =
    let x = c.args.self.now in
    let sound = c.requires.sound in
    let left = c.pop.new.self.items in
    let around = ap reverse (c.in-Some.ensures.items ∙ ap (λ f. left ++ f ∷ []) c.in-Rest.is) ∙ pushed left (Following.Rest c.in-Rest.text) in
    let len : vec_len x.calls - 1 ≡ length x.calls.items - 1 = omega (arith, x.calls.ok) in
    let rest = c.pop-in-Rest.ensures.rest ∙ ap (λ n. take n x.calls.items) len in
    let tables = popped_tables (λ call. said call) x.calls.items c.pop-in-Rest.new.self.items rest in
    let books = c.outer_book.ensures x.lines (tables_in x) sound.books in
    record {
      short = sound.short;
      turns = sound.turns ∙ ap turns_in around;
      shallow = omega (arith, sound.shallow, ap length rest, length-take (length x.calls.items - 1) x.calls.items);
      few = sound.few;
      source = sound.source;
      macros = sound.macros;
      open_calls = All-same (IsCall x.lines) c.pop-in-Rest.new.self.items (take (length x.calls.items - 1) x.calls.items) rest (All-take (IsCall x.lines) (length x.calls.items - 1) x.calls.items sound.open_calls);
      book = subst (λ ts. IsBook x.lines (innermost ts) c.outer_book.result) (sym tables) books.0;
      books = subst (λ ts. AreBooks x.lines ts (reverse c.outer_book.new.books.items)) (sym tables) books.1;
    }

pub returns-in-Rest-clause-resumed : goal.returns-in-Rest-clause-resumed
returns-in-Rest-clause-resumed c =
    let x = c.args.self.now in
    let left = c.pop.new.self.items in
    let is = c.in-Some.ensures.items ∙ ap (λ f. left ++ f ∷ []) c.in-Rest.is in
    let around = ap reverse is ∙ pushed left (Following.Rest c.in-Rest.text) in
    let len : vec_len x.calls - 1 ≡ length x.calls.items - 1 = omega (arith, x.calls.ok) in
    let rest = c.pop-in-Rest.ensures.rest ∙ ap (λ n. take n x.calls.items) len in
    let tables = popped_tables (λ call. said call) x.calls.items c.pop-in-Rest.new.self.items rest in
    rest_popped x left c.in-Rest.text (map (λ call. said call) (reverse c.pop-in-Rest.new.self.items)) c.requires.over is (c.requires.sound.turns ∙ ap turns_in around) tables
