use Rattle.std.proofs.Common.{inl, refl}
use Rattle.z80_cpu.specs.State.{machine}
use Rattle.cpm_run.proofs.Going.{at, ends_from}
use Rattle.cpm_run.proofs.running.run.Goals as goal

pub returns : goal.returns
returns g c = inl (
  c.in-Ok.state.0,
  c.in-Ok.state.1,
  at (machine c.turns_of-why.new.cpu c.turns_of-why.new.memory) c.turns_of-why.new.bdos,
  c.in-Ok.ensures,
  ends_from _ _ _ c.args.limit (machine c.in-Ok.state.0 c.in-Ok.state.1) c.new-bdos.result _ _ _ _ c.new-bdos.ensures c.turns_of-why.ensures,
  refl,
  c.into_parts-disk.ensures.disk,
  c.into_parts-disk.ensures.console,
)
