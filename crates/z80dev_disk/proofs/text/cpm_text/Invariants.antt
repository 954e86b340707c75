use Rattle.std.proofs.Common.{◌≡◌, flat_map, take}
use Rattle.z80dev_disk.specs.Text.{cpm_byte}
use Rattle.z80dev_disk.proofs.text.cpm_text.Given as goal

abbrev pub invariant-loop-byte : goal.invariant-loop-byte
invariant-loop-byte l = l.text.items ≡ flat_map cpm_byte (take l.byte-index l.bytes)
