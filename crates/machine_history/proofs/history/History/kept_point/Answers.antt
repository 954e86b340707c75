use Rattle.std.proofs.Common.{ap, ◌∙◌}
use Rattle.machine_history.specs.Walk.{Shown, never}
use Rattle.machine_history.proofs.Going.{begun}
use Rattle.machine_history.proofs.history.History.kept_point.Goals as goal

pub returns-in_ok-copied-in-None-clause-after : goal.returns-in_ok-copied-in-None-clause-after
returns-in_ok-copied-in-None-clause-after c =
    begun never c.args.self.now.start c.in_ok-copied-in-None.field-0 c.first.result c.first.ensures
    (c.in_ok-copied-in-None.ensures ∙ ap (λ (h : Shown). h.start) c.self.view_is)
