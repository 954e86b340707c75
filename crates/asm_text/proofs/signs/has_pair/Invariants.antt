use Rattle.std.proofs.Common.{◌≡◌, drop}
use Rattle.std.specs.Str.{str_to_ascii_lowercase}
use Rattle.asm_text.specs.Private.Pairs.{has_pair, paired}
use Rattle.asm_text.proofs.signs.has_pair.Given as goal

abbrev pub invariant-loop-byte : goal.invariant-loop-byte
invariant-loop-byte l = has_pair l.text ≡ paired l.before (str_to_ascii_lowercase (drop l.byte-index l.text))
