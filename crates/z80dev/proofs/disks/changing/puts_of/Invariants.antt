use Rattle.std.proofs.Common.{◌≡◌, All, false, length, map, take}
use Rattle.z80dev_disk.specs.Words.{is_wild}
use Rattle.z80dev.proofs.disks.changing.puts_of.Given as goal

abbrev pub invariant-loop-name : goal.invariant-loop-name
invariant-loop-name l =
    (length l.puts.items ≡ l.name-index)
    × (map (λ p. p.name) l.puts.items ≡ take l.name-index l.names)
    × (map (λ p. p.bytes.now) l.puts.items ≡ take l.name-index (map (λ text. text.items) l.texts))
    × All (λ p. is_wild p.name ≡ false) l.puts.items
