use Rattle.std.proofs.Common.{◌++◌, Ok, map, sym, ap, subst, ◌∙◌}
use Rattle.std.specs.Option.{option_to_list}
use Rattle.asm_parse.specs.Source.{source_item}
use Rattle.asm_parse.specs.Grammar.{infix_level}
use Rattle.asm_parse.specs.Private.Stacks.{IsReduced, open_in}
use Rattle.asm_parse.specs.Private.Readers.{Reads}
use Rattle.asm_parse.specs.Private.Parsing.{reduce, sign_behind}
use Rattle.asm_parse.proofs.Readers.{close_done, right_done}
use Rattle.asm_parse.proofs.reader.Reader.sign_behind.Goals as goal

pub returns-in-Some : goal.returns-in-Some
returns-in-Some c = λ frames a h.
    let r = c.in_ok-reduce.ensures.reduced frames a h.waiting h.writing in
    let split = c.pop.ensures.items ∙ ap (λ o. c.pop.new.self.items ++ option_to_list o) c.in-Some.is in
    subst (λ s. Reads (sign_behind s frames a) {A = Unit {0}} (Ok tt) (record { pending = c.pop.new.self; items = c.reduce.new.items; deepest = c.args.self.now.deepest; complete = c.args.self.now.complete })) (sym c.in-Close.is)
    (close_done frames a _ c.reduce.new.pending.items c.pop.new.self.items c.in-Some.field-0 _ _ c.args.self.now.deepest c.args.self.now.complete h r split)

pub returns : goal.returns
returns c = λ frames a h.
    let r : IsReduced (reduce (infix_level c.in-Some-infix.op) frames a) c.reduce-2.new.pending.items (map source_item c.reduce-2.new.items.items) =
    subst (λ l. IsReduced (reduce l frames a) c.reduce-2.new.pending.items (map source_item c.reduce-2.new.items.items)) c.level_of.ensures (c.in_ok-reduce-2.ensures.reduced frames a h.waiting h.writing) in
    let count = c.open_in-count.ensures ∙ ap open_in c.deref.ensures in
    right_done c.args.sign c.in-Some-infix.op frames a _ c.reduce-2.new.pending.items c.push.new.self.items _ _ c.args.self.now.deepest c.open_in-count.result c.args.self.now.complete
    c.in_default.not-Close c.in-Some-infix.ensures h r count c.in_ok-push.ensures.ok
