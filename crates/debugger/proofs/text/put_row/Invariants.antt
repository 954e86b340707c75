use Rattle.std.proofs.Common.{◌≡◌, ◌++◌, drop, map}
use Rattle.debugger.specs.Text.{listed_character}
use Rattle.debugger.proofs.text.put_row.Given as goal

abbrev pub invariant-loop-byte : goal.invariant-loop-byte
invariant-loop-byte l = l.text.items ++ map listed_character (drop l.byte-index l.row) ≡ l.initial.text.items ++ map listed_character l.row
