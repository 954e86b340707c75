use Rattle.std.proofs.Common.{◌≡◌, ◌≤◌, ◌-◌, List, length}
use Rattle.z80_cpu.specs.State.{machine}
use Rattle.cpm_run.specs.declared.recording.TraceStep.{TraceStep}
use Rattle.cpm_run.specs.Records.{Keeps}
use Rattle.cpm_run.specs.Walks.{WalksTo}
use Rattle.cpm_run.proofs.tracing.traced_turns.Given as goal

abbrev pub invariant-loop-wish : goal.invariant-loop-wish
invariant-loop-wish g l = (steps : List TraceStep) × (l.turns ≡ length steps) × (l.turns ≤ l.limit) × Keeps l.wish steps l.kept
    × WalksTo g.S.Sectors.sectors g.S.Sectors.faults g.C.Console.dialog steps
    (record { machine = machine l.initial.cpu l.initial.memory; system = l.initial.bdos }) (record { machine = machine l.cpu l.memory; system = l.bdos })

abbrev pub decreases-loop-wish : goal.decreases-loop-wish
decreases-loop-wish g l = l.limit - l.turns
