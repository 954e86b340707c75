use Rattle.std.proofs.Common.{◌-◌, Some, length, sym, ap, ◌∙◌, arith}
use Rattle.std.proofs.lemmas.Option.{slice_get-get_or}
use Rattle.asm_expr.specs.Private.Folding.{unknown_by}
use Rattle.asm_expr.proofs.answer.unknown_of.Goals as goal

pub returns : goal.returns
returns c =
    let items = c.args.reduced.now in
    let last = c.last.result in
    c.unknown_by.ensures ∙ ap (λ x. unknown_by (Some x)) c.last.ensures ∙ ap unknown_by (sym (slice_get-get_or items (length items - 1) last (omega (arith, c.requires))))
