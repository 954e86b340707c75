use Rattle.std.proofs.Common.{◌∙◌, refl}
use Rattle.std.specs.Option.{option_map}
use Rattle.asm_text.specs.Prepared.{said}
use Rattle.asm_text.specs.declared.book.Book.{Book}
use Rattle.asm_text.proofs.Sections.Books.{few, has, has_all, whole}
use Rattle.asm_text.proofs.book.Book.open.Goals as goal

pub returns-then-has-clause-has : goal.returns-then-has-clause-has
returns-then-has-clause-has c =
    let names = option_map (λ c. said c.now) c.args.call in
    let seen = c.args.lines.now in
    has seen names c.args.span c.args.self.now c.requires.book.0 (c.has.ensures c.if-has.true).0 (c.has.ensures c.if-has.true).1

pub links_of-requires : goal.links_of-requires
links_of-requires c =
    let names = option_map (λ c. said c.now) c.args.call in
    let seen = c.args.lines.now in
    few seen names c.args.span c.in_ok-roles.roles.items c.in_ok-roles.ensures c.requires.few

pub returns-clause-book : goal.returns-clause-book
returns-clause-book c =
    let names = option_map (λ c. said c.now) c.args.call in
    let seen = c.args.lines.now in
    let book : Book = record { at = c.args.span.at; links = c.in_ok-links.links; from = c.args.self.now.from; to = c.args.self.now.to } in
    (whole seen names c.args.span book refl (c.in_ok-links.ensures ∙ c.in_ok-roles.ensures), c.requires.book.1)

pub returns-clause-has : goal.returns-clause-has
returns-clause-has c =
    let names = option_map (λ c. said c.now) c.args.call in
    let seen = c.args.lines.now in
    let book : Book = record { at = c.args.span.at; links = c.in_ok-links.links; from = c.args.self.now.from; to = c.args.self.now.to } in
    has_all seen names c.args.span book refl (c.in_ok-links.ensures ∙ c.in_ok-roles.ensures)
