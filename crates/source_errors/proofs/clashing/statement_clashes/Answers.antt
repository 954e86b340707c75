use Rattle.std.proofs.Common.{◌∙◌, ap, sym, Some, option_copied}
use Rattle.std.specs.List.{list_any}
use Rattle.std.specs.Option.{option_map}
use Rattle.asm_spell.specs.Line.{body_of}
use Rattle.source_errors.specs.Private.State.{body_clashes, external_clashes}
use Rattle.source_errors.proofs.Clashes.{any_of_map}
use Rattle.source_errors.proofs.clashing.statement_clashes.Goals as goal

pub returns-in-External : goal.returns-in-External
returns-in-External c =
    c.externals_clash.ensures
    ∙ ap (list_any (λ name. external_clashes c.args.table.now (option_map (λ label. label.items) (option_copied c.args.label)) name.items)) c.deref.ensures.value
    ∙ any_of_map (external_clashes c.args.table.now (option_map (λ label. label.items) (option_copied c.args.label))) (λ name. name.items) c.in-External.names.items
    ∙ sym (ap (λ b. body_clashes c.args.table.now (option_map (λ label. label.items) (option_copied c.args.label)) (Some (body_of b))) c.in-External.is)
