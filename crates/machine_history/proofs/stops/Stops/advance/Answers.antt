use Rattle.std.proofs.Common.{ap, ◌∙◌}
use Rattle.z80_cpu.specs.declared.registers.Cpu.{Cpu}
use Rattle.machine_history.specs.Stops.{is_reached, sp_returned}
use Rattle.machine_history.specs.Walk.{MemoryState}
use Rattle.machine_history.proofs.Held.{bytes_before, held_is}
use Rattle.machine_history.proofs.stops.Stops.advance.Goals as goal

pub returns-clause-held : goal.returns-clause-held
returns-clause-held c =
    let stops = c.args.self.now in
    let old = c.args.point.now.state in
    let new = c.advance.new.self.state in
    let memory = c.memory.ensures ∙ ap (λ (s : MemoryState). s.machine.memory) c.snapshot.ensures in
    let before = bytes_before old.machine.memory c.memory.result.now c.args.watched.now c.in_ok-bytes.bytes.items c.deref.result.now memory c.deref.ensures.value c.in_ok-bytes.ensures in
    held_is c.args.goal stops old new c.deref-2.result.now c.args.watched.now c.memory-2.result.now c.cpu-cpu.result.now c.cpu.result.now.pc c.cpu-2.result.now.main.c c.return_for-returned.result c.broken.result c.changed-change.result c.is_reached.result c.first_of.result
    c.deref-2.ensures.value c.requires.watched
    (c.cpu-cpu.ensures ∙ ap (λ (s : MemoryState). s.machine.cpu) c.snapshot-snapshot.ensures)
    (c.memory-2.ensures ∙ ap (λ (s : MemoryState). s.machine.memory) c.snapshot-snapshot.ensures)
    (ap (λ (r : Cpu). r.pc) c.cpu.ensures ∙ ap (λ (s : MemoryState). s.machine.cpu.pc) c.snapshot-3.ensures)
    (ap (λ (r : Cpu). r.main.c) c.cpu-2.ensures ∙ ap (λ (s : MemoryState). s.machine.cpu.main.c) c.snapshot-4.ensures)
    (λ (now : Cpu). c.return_for-returned.ensures now ∙ ap (λ (s : MemoryState). is_reached c.args.goal (sp_returned s) now) c.snapshot-2.ensures)
    c.broken.ensures (c.changed-change.ensures old.machine.memory before) c.is_reached.ensures c.first_of.ensures
