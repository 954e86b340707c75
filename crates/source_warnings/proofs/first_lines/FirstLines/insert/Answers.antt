use Rattle.std.proofs.Common.{rules, ◌≡◌, ◌∙◌, ◌++◌, ◌∷◌, [], sym, ap}
use Rattle.indexmap.proofs.CallerLemmas.{insert_entry-new}
use Rattle.asm_expr.specs.Private.Entries.{named}
use Rattle.asm_expr.proofs.Entries.{named-append, lookup-named}
use Rattle.source_warnings.specs.Noted.{first_noted}
use Rattle.source_warnings.proofs.first_lines.FirstLines.insert.Goals as goal

pub returns : goal.returns
returns c =
    let key = c.in_ok-to_vec.field-0 in
    let same : key.items ≡ c.args.name.now = search rules in
    let absent = sym (lookup-named c.self.inside.lines.entries key.items) ∙ ap (λ t. first_noted t key.items) c.self.view_is ∙ ap (first_noted c.args.self.now) same ∙ c.requires in
    ap named (c.in_ok-insert.ensures.entries ∙ insert_entry-new _ c.self.inside.lines key c.args.number absent)
    ∙ named-append c.self.inside.lines.entries (key, c.args.number)
    ∙ ap (λ name. named c.self.inside.lines.entries ++ (name, c.args.number) ∷ []) same
    ∙ ap (λ t. t ++ (c.args.name.now, c.args.number) ∷ []) c.self.view_is
