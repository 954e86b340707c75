use Rattle.std.proofs.Common.{rules, ◌≡◌, ◌∙◌, ◌++◌, ◌∷◌, [], sym, ap}
use Rattle.indexmap.proofs.CallerLemmas.{insert_entry-new}
use Rattle.asm_expr.specs.Private.Entries.{named}
use Rattle.asm_expr.proofs.Entries.{named-append, lookup-named}
use Rattle.asm_names.specs.Names.{kind_of_name}
use Rattle.asm_names.proofs.table.NameTable.insert.Goals as goal

pub returns : goal.returns
returns c =
    let key = c.in_ok-to_vec.field-0 in
    let same : key.items ≡ c.args.name.now = search rules in
    let absent = sym (lookup-named c.self.inside.kinds.entries key.items) ∙ ap (λ t. kind_of_name t key.items) c.self.view_is ∙ ap (kind_of_name c.args.self.now) same ∙ c.requires in
    ap named (c.in_ok-insert.ensures.entries ∙ insert_entry-new _ c.self.inside.kinds key c.args.kind absent)
    ∙ named-append c.self.inside.kinds.entries (key, c.args.kind)
    ∙ ap (λ name. named c.self.inside.kinds.entries ++ (name, c.args.kind) ∷ []) same
    ∙ ap (λ t. t ++ (c.args.name.now, c.args.kind) ∷ []) c.self.view_is
