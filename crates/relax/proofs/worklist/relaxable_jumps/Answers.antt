use Rattle.std.proofs.Common.{arith}
use Rattle.relax.proofs.Jumps.{jumps-skip, jumps-more}
use Rattle.relax.proofs.worklist.relaxable_jumps.Goals as goal
use Rattle.relax.proofs.worklist.relaxable_jumps.Goals.{in-Some+in_ok-push, in_default}

pub loop-statement-preserved : goal.loop-statement-preserved
loop-statement-preserved g c =
    elim c.match-target.branch [
      | in-Some+in_ok-push w ↦ rw (w.jumps-is, w.in_ok-push.ensures.items) (jumps-more _ _ _ c.loop-statement.invariant _ w.in-Some.ensures)
      | in_default w ↦ rw w.jumps-is (jumps-skip _ _ _ c.loop-statement.invariant (omega arith) w.in_default.ensures)
    ]
