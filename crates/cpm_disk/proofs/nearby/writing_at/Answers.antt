use Rattle.std.proofs.Common.{◌≡◌, ◌%◌, IfSome, ap, get_or, subst, ◌∙◌}
use Rattle.cpm_disk.specs.Near.{IsExtentAt}
use Rattle.cpm_disk.specs.Steps.{placing_in, writing}
use Rattle.cpm_disk.proofs.Near.{past, write_at}
use Rattle.cpm_disk.proofs.Worth.{placed_soundly}
use Rattle.cpm_disk.proofs.nearby.writing_at.Goals as goal

step_is : (c : goal.After-place_in) → c.place_in.result ≡ writing c.args.kind c.args.user c.args.name.now c.args.number c.args.entries.now
step_is c =
    let known : IsExtentAt c.args.kind c.args.user c.args.name.now c.args.number c.args.entries.now c.in-Some.at = subst (λ at. IfSome at (IsExtentAt c.args.kind c.args.user c.args.name.now c.args.number c.args.entries.now)) c.in-Some.is c.requires.at in
    c.place_in.ensures.step ∙ ap (λ k. placing_in c.args.kind c.in-Some.at (get_or c.args.entries.now k past) (c.args.number % 128) c.args.entries.now) c.from.ensures
    ∙ write_at c.args.kind c.args.user c.args.name.now c.args.number c.args.entries.now c.in-Some.at c.requires.user c.requires.sound known (c.requires.may_write c.if-may_write.true)

pub returns-in-Some-clause-step : goal.returns-in-Some-clause-step
returns-in-Some-clause-step c = step_is c

pub returns-in-Some-clause-kept : goal.returns-in-Some-clause-kept
returns-in-Some-clause-kept c = placed_soundly c.args.kind c.args.user c.args.name.now c.args.number c.args.entries.now c.place_in.result c.requires.user (step_is c) c.requires.sound
