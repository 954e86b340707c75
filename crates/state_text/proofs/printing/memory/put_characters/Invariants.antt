use Rattle.std.proofs.Common.{◌≡◌, ◌++◌, drop, map}
use Rattle.state_text.specs.Printing.Memory.{shown_character}
use Rattle.state_text.proofs.printing.memory.put_characters.Given as goal

abbrev pub invariant-loop-byte : goal.invariant-loop-byte
invariant-loop-byte l = l.text.items ++ map shown_character (drop l.byte-index l.bytes) ≡ l.initial.text.items ++ map shown_character l.bytes
