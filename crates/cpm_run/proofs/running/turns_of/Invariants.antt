use Rattle.std.proofs.Common.{◌≤◌, ◌-◌}
use Rattle.z80_cpu.specs.State.{machine}
use Rattle.cpm_run.specs.Turns.{Goes}
use Rattle.cpm_run.proofs.running.turns_of.Given as goal

abbrev pub invariant-loop-cpu : goal.invariant-loop-cpu
invariant-loop-cpu g l = (l.turns ≤ l.limit) × Goes g.S.Sectors.sectors g.S.Sectors.faults g.C.Console.dialog l.turns
    (record { machine = machine l.initial.cpu l.initial.memory; system = l.initial.bdos }) (record { machine = machine l.cpu l.memory; system = l.bdos })

abbrev pub decreases-loop-cpu : goal.decreases-loop-cpu
decreases-loop-cpu g l = l.limit - l.turns
