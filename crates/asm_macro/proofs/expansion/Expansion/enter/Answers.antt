use Rattle.std.proofs.Common.{◌∙◌, ◌∷◌, ◌++◌, [], ap, map, reverse, sym, subst, length, length-append, arith}
use Rattle.asm_text.specs.Prepared.{said}
use Rattle.asm_text.specs.declared.following.Following.{Following}
use Rattle.std.proofs.lemmas.List.Elements.{All-push, All-same}
use Rattle.asm_text.specs.Sections.Books.{IsBook}
use Rattle.asm_text.specs.Kept.{IsCall}
use Rattle.asm_macro.specs.Private.Frames.{AreBooks, innermost, turns_in}
use Rattle.asm_macro.specs.Private.Moves.{tables_in}
use Rattle.asm_macro.proofs.Stacks.{pushed}
use Rattle.asm_macro.proofs.Entering.{entered}
use Rattle.asm_macro.proofs.expansion.Expansion.enter.Goals as goal

pub returns-clause-entered : goal.returns-clause-entered
returns-clause-entered c = λ u same.
    let x = c.args.self.now in
    let tables = ap (λ cs. map (λ call. said call) (reverse cs)) c.in_ok-push-2.ensures.items ∙ ap (map (λ call. said call)) (pushed x.calls.items c.args.call) in
    let around = ap reverse c.in_ok-push.ensures.items ∙ pushed x.around.items (Following.Rest x.text) in
    entered c.by_names.ensures x (map (λ call. said call) (reverse c.push-2.new.self.items)) (reverse c.push.new.self.items) (said c.args.call) u c.args.line.number c.args.counter c.args.body c.requires.sound same tables around

pub returns-clause-sound : goal.returns-clause-sound
returns-clause-sound c =
    let x = c.args.self.now in
    let sound = c.requires.sound in
    let tables = ap (λ cs. map (λ call. said call) (reverse cs)) c.in_ok-push-2.ensures.items ∙ ap (map (λ call. said call)) (pushed x.calls.items c.args.call) in
    let around = ap reverse c.in_ok-push.ensures.items ∙ pushed x.around.items (Following.Rest x.text) in
    let books = ap reverse c.in_ok-push-3.ensures.items ∙ pushed x.books.items c.replace-book.result in
    record {
      short = sound.short;
      turns = sound.turns ∙ sym (ap turns_in around);
      shallow = omega (arith, c.requires.shallow, ap length c.in_ok-push-2.ensures.items, length-append x.calls.items (c.args.call ∷ []));
      few = sound.few;
      book = subst (λ b. IsBook x.lines (innermost (map (λ call. said call) (reverse c.push-2.new.self.items))) b) (sym c.replace-book.ensures.after) (c.new.ensures x.lines (innermost (map (λ call. said call) (reverse c.push-2.new.self.items))));
      source = sound.source;
      macros = sound.macros;
      open_calls = All-same (IsCall x.lines) c.push-2.new.self.items (x.calls.items ++ c.args.call ∷ []) c.in_ok-push-2.ensures.items (All-push (IsCall x.lines) x.calls.items c.args.call sound.open_calls c.requires.call);
      books = subst (λ ts. AreBooks x.lines ts (reverse c.push-3.new.self.items)) (sym tables)
          (subst (λ bs. AreBooks x.lines (said c.args.call ∷ tables_in x) bs) (sym books) (subst (IsBook x.lines (innermost (tables_in x))) (sym c.replace-book.ensures.value) sound.book, sound.books));
    }
