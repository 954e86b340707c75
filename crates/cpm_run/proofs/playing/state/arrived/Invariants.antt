use Rattle.std.proofs.Common.{◌≡◌, take}
use Rattle.cpm_run.specs.Play.{arrived}
use Rattle.cpm_run.proofs.playing.state.arrived.Given as goal

abbrev pub invariant-loop-byte : goal.invariant-loop-byte
invariant-loop-byte l = l.list.items ≡ arrived l.turns (take l.byte-index l.bytes)
