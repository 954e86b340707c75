use Rattle.std.proofs.Common.{map, sym, subst, ◌∙◌, arith}
use Rattle.asm_parse.specs.Source.{source_item}
use Rattle.asm_parse.specs.Private.Stacks.{Holds}
use Rattle.asm_parse.proofs.Readers.{finished, unread, unfinished, open_end, none_waiting, some_waiting, whole_source}
use Rattle.asm_parse.proofs.reader.Reader.finish.Goals as goal

pub returns-then-not-self : goal.returns-then-not-self
returns-then-not-self c = λ symbols state h is.
    unread symbols (unfinished symbols state _ _ _ (subst (λ b. Holds state c.args.self.pending.items (map source_item c.args.self.items.items) c.args.self.deepest b) c.if-not-self.true h) is)

pub returns-then-not-is_empty : goal.returns-then-not-is_empty
returns-then-not-is_empty c = λ symbols state h is.
    unread symbols (open_end symbols state _ _ _ _ _ (subst (λ b. Holds state c.args.self.pending.items (map source_item c.args.self.items.items) c.args.self.deepest b) c.if-not-self.false h)
    c.in_ok-reduce.ensures.reduced (some_waiting c.reduce.new.pending.items _ (omega arith) (sym c.is_empty.ensures ∙ c.if-not-is_empty.true)) is)

pub returns-then-self-gt-MOST_OPEN : goal.returns-then-self-gt-MOST_OPEN
returns-then-self-gt-MOST_OPEN c = λ symbols state h is.
    let done = finished symbols state _ _ _ _ _ (subst (λ b. Holds state c.args.self.pending.items (map source_item c.args.self.items.items) c.args.self.deepest b) c.if-not-self.false h)
    c.in_ok-reduce.ensures.reduced (none_waiting c.reduce.new.pending.items _ (omega arith) (sym c.is_empty.ensures ∙ c.if-not-is_empty.false)) is in
    (done.0, done.1, omega (arith, done.2, c.if-self-gt-MOST_OPEN.true))

pub known-requires : goal.known-requires
known-requires c =
    whole_source c.requires.0 _ _ _ _ _ (subst (λ b. Holds c.requires.0 c.args.self.pending.items (map source_item c.args.self.items.items) c.args.self.deepest b) c.if-not-self.false c.requires.1)
    c.in_ok-reduce.ensures.reduced (none_waiting c.reduce.new.pending.items _ (omega arith) (sym c.is_empty.ensures ∙ c.if-not-is_empty.false))

pub returns : goal.returns
returns c = λ symbols state h is.
    let done = finished symbols state _ _ _ _ _ (subst (λ b. Holds state c.args.self.pending.items (map source_item c.args.self.items.items) c.args.self.deepest b) c.if-not-self.false h)
    c.in_ok-reduce.ensures.reduced (none_waiting c.reduce.new.pending.items _ (omega arith) (sym c.is_empty.ensures ∙ c.if-not-is_empty.false)) is in
    (done.0, done.1, omega (arith, done.2, c.if-self-gt-MOST_OPEN.false), c.known.ensures ∙ done.3)
