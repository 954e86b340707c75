use Rattle.std.proofs.Common.{◌≡◌, ◌∙◌, ap, sym, false, option_copied}
use Rattle.std.specs.Option.{option_map}
use Rattle.asm_spell.specs.Line.{body_of, line_of}
use Rattle.asm_names.specs.Names.{defines, has_clash}
use Rattle.source_errors.specs.Private.State.{body_clashes, label_known}
use Rattle.source_errors.proofs.Clashes.{statement_clashes}
use Rattle.source_errors.proofs.clashing.clashes.Goals as goal

pub returns-else-is_label_known : goal.returns-else-is_label_known
returns-else-is_label_known c = λ at.
    let t = c.args.table.now in
    let label = option_map (λ name. name.items) c.in-Statement.label in
    let new : label_known t label ≡ false = ap (λ l. label_known t (option_map (λ name. name.items) l)) (sym c.as_ref-label.ensures.value) ∙ sym c.is_label_known.ensures ∙ c.if-is_label_known.false in
    c.body_clashes.ensures
    ∙ ap (λ l. body_clashes t (option_map (λ name. name.items) l) (option_map body_of (option_copied c.as_ref.result))) c.as_ref-label.ensures.value
    ∙ ap (λ b. body_clashes t label (option_map body_of b)) c.as_ref.ensures.value
    ∙ statement_clashes t at label (option_map body_of c.in-Statement.body) new
    ∙ sym (ap (λ l. has_clash t (defines at (line_of l))) c.in-Statement.is)
