use Rattle.std.proofs.Common.{ℕ, List, Option, Some, ap, ◌∙◌, inl, refl}
use Rattle.z80_cpu.specs.declared.registers.Cpu.{Cpu}
use Rattle.cpm_run.specs.declared.tracing.Left.{Left}
use Rattle.z80_cpu.specs.State.{machine}
use Rattle.cpm_run.proofs.Going.{at}
use Rattle.cpm_run.proofs.Walked.{kept_ends, walk_from}
use Rattle.cpm_run.proofs.tracing.run_traced.Goals as goal

abbrev left_by : Cpu → List ℕ → ℕ → ℕ → Option Left
left_by cpu memory dma user = Some (record { cpu = cpu; memory = memory; dma = dma; user = user })

pub returns-clause-run : goal.returns-clause-run
returns-clause-run g c = inl (
  c.in-Ok.state.0,
  c.in-Ok.state.1,
  at (machine c.traced_turns-why.new.cpu c.traced_turns-why.new.memory) c.traced_turns-why.new.bdos,
  c.in-Ok.ensures,
  kept_ends _ _ _ c.args.limit c.args.wish _ _ _ _ _ (walk_from _ _ _ c.args.limit c.args.wish (machine c.in-Ok.state.0 c.in-Ok.state.1) c.new-bdos.result _ _ _ _ _ c.new-bdos.ensures c.traced_turns-why.ensures),
  refl,
  c.into_parts-disk.ensures.disk,
  c.into_parts-disk.ensures.console,
)

pub returns-clause-trace : goal.returns-clause-trace
returns-clause-trace g c = inl (
  c.in-Ok.state.0,
  c.in-Ok.state.1,
  at (machine c.traced_turns-why.new.cpu c.traced_turns-why.new.memory) c.traced_turns-why.new.bdos,
  c.in-Ok.ensures,
  walk_from _ _ _ c.args.limit c.args.wish (machine c.in-Ok.state.0 c.in-Ok.state.1) c.new-bdos.result _ _ _ _ _ c.new-bdos.ensures c.traced_turns-why.ensures,
  ap (λ (dma : ℕ). left_by c.traced_turns-why.new.cpu c.traced_turns-why.new.memory dma c.user-user.result) c.dma-dma.ensures
      ∙ ap (λ (user : ℕ). left_by c.traced_turns-why.new.cpu c.traced_turns-why.new.memory c.traced_turns-why.new.bdos.dma user) c.user-user.ensures,
)
