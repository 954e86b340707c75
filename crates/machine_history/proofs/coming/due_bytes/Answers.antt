use Rattle.std.proofs.Common.{arith, map}
use Rattle.machine_history.specs.Coming.{due}
use Rattle.cpm_run.specs.declared.arriving.Arrival.{Arrival}
use Rattle.machine_history.proofs.Recordings.{bytes_more}
use Rattle.machine_history.proofs.coming.due_bytes.Goals as goal

pub loop-arrival-preserved : goal.loop-arrival-preserved
loop-arrival-preserved c =
    let none : Arrival = record { turn = 0; byte = 0 } in
    bytes_more c.args.turns c.args.coming.now c.loop-arrival.arrival-index none c.loop-arrival.bytes.items c.push.new.self.items (map (λ arrival. arrival.byte) (due c.args.turns c.args.coming.now))
    (omega (arith, c.loop-arrival-test.true)) c.if-arrival-turns.false c.in_ok-push.ensures.items c.loop-arrival.invariant
