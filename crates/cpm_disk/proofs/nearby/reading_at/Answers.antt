use Rattle.std.proofs.Common.{◌%◌, IfSome, ap, get_or, subst, ◌∙◌}
use Rattle.cpm_disk.specs.Near.{IsExtentAt}
use Rattle.cpm_disk.specs.Steps.{written_place}
use Rattle.cpm_disk.proofs.Near.{past, read_at}
use Rattle.cpm_disk.proofs.nearby.reading_at.Goals as goal

pub returns-in-Some-clause-step : goal.returns-in-Some-clause-step
returns-in-Some-clause-step c =
    let known : IsExtentAt c.args.kind c.args.user c.args.name.now c.args.number c.args.entries.now c.in-Some.at = subst (λ at. IfSome at (IsExtentAt c.args.kind c.args.user c.args.name.now c.args.number c.args.entries.now)) c.in-Some.is c.requires.at in
    c.record_of.ensures.step ∙ ap (λ k. written_place c.args.kind (c.args.number % 128) (get_or c.args.entries.now k past)) c.from.ensures
    ∙ read_at c.args.kind c.args.user c.args.name.now c.args.number c.args.entries.now c.in-Some.at c.requires.user c.requires.sound known
