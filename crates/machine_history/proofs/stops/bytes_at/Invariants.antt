use Rattle.std.proofs.Common.{◌≡◌, take}
use Rattle.std.specs.Prelude.{map}
use Rattle.z80_cpu.specs.State.{byte_at}
use Rattle.machine_history.proofs.stops.bytes_at.Given as goal

abbrev pub invariant-loop-address : goal.invariant-loop-address
invariant-loop-address l = l.bytes.items ≡ map (λ address. byte_at address l.memory) (take l.address-index l.addresses)
