use Rattle.std.proofs.Common.{sym}
use Rattle.z80dev_run.proofs.Leaving.{leaves_by-after}
use Rattle.z80dev_run.proofs.desk.Desk.hear.Goals as goal

pub returns-in-Some-clause-leaves : goal.returns-in-Some-clause-leaves
returns-in-Some-clause-leaves g c = λ stays more. rw (← c.self.view_is) (leaves_by-after _ _ _ more _ (sym c.in-Some.ensures.value) (sym c.if-has_left.ensures))
