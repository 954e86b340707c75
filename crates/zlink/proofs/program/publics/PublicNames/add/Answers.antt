use Rattle.std.proofs.Common.{◌≡◌, ◌∙◌, ◌++◌, ◌∷◌, [], sym, ap, is_some, not}
use Rattle.indexmap.proofs.CallerLemmas.{insert_entry-new}
use Rattle.zlink.specs.Program.Parts.{public_found}
use Rattle.zlink.proofs.Programs.Names.{lookup-seen, seen, seen-append, turned}
use Rattle.zlink.proofs.program.publics.PublicNames.add.Goals as goal

pub returns-clause-new : goal.returns-clause-new
returns-clause-new c =
    let entries = c.self.inside.statements.entries in
    let was : c.in_ok-insert.field-0 ≡ public_found c.args.self.now c.args.name.now = c.in_ok-insert.ensures.old ∙ sym (lookup-seen entries c.args.name.now) ∙ ap (λ t. public_found t c.args.name.now) c.self.view_is in
    turned (is_some c.in_ok-insert.field-0) c.is_none.result c.is_none.ensures ∙ ap (λ o. not (is_some o)) was

pub returns-clause-added : goal.returns-clause-added
returns-clause-added c = λ none.
    let entries = c.self.inside.statements.entries in
    let absent = sym (lookup-seen entries c.args.name.now) ∙ ap (λ t. public_found t c.args.name.now) c.self.view_is ∙ none in
    ap seen (c.in_ok-insert.ensures.entries ∙ insert_entry-new _ c.self.inside.statements c.args.name c.args.statement absent)
    ∙ seen-append entries (c.args.name, c.args.statement)
    ∙ ap (λ t. t ++ (c.args.name.now, c.args.statement) ∷ []) c.self.view_is
