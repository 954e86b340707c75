use Rattle.std.proofs.Common.{◌≡◌, ℕ, List, drop}
use Rattle.std.specs.Prelude.{find, map}
use Rattle.z80_cpu.specs.State.{byte_at}
use Rattle.machine_history.specs.Stops.{changes_byte}
use Rattle.machine_history.proofs.stops.changed.Given as goal

abbrev pub invariant-loop-index : goal.invariant-loop-index
invariant-loop-index l = (old : List ℕ) → l.bytes ≡ map (λ address. byte_at address old) l.addresses → find (changes_byte old l.memory) (drop l.index l.addresses) ≡ find (changes_byte old l.memory) l.addresses
