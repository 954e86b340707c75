use Rattle.std.proofs.Common.{◌∙◌, sym, ap}
use Rattle.z80_cpu.specs.declared.registers.Cpu.{Cpu}
use Rattle.cpm_run.specs.Looks.{patience_of}
use Rattle.cpm_run.proofs.Looking.{looking_on}
use Rattle.cpm_run.proofs.Sitting.{between_kept}
use Rattle.cpm_run.proofs.playing.state.Playing.attend.Goals as goal

pub returns-clause-looks : goal.returns-clause-looks
returns-clause-looks g c = λ start before a watched none held empty.
    let now = c.in_default.ensures.looks start before a watched none held empty in
    looking_on _ _ start before (g.K.Station.seat c.look_in_time.new.station) c.look_in_time.new.self now (λ waits. c.in_default-patience.not-Wait (c.patience_of-patience.ensures ∙ sym (ap (λ (r : Cpu). patience_of r) c.look_in_time.ensures.still.cpu) ∙ waits))

pub returns-in-Wait-clause-looks : goal.returns-in-Wait-clause-looks
returns-in-Wait-clause-looks g c = λ start before a watched none held empty.
    let now = c.in_default.ensures.looks start before a watched none held empty in
    c.await_input.ensures.looks start before now.so_far now.watched now.none now.lately

pub returns-in-Wait-clause-so_far : goal.returns-in-Wait-clause-so_far
returns-in-Wait-clause-so_far g c = λ limit start before so next.
    let then = c.in_default.ensures.so_far limit start before so next in
    c.await_input.ensures.so_far limit start before then (between_kept limit c.args.self.now c.look_in_time.new.self c.look_in_time.ensures.still.cpu c.look_in_time.ensures.still.turns next)
