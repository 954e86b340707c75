use Rattle.std.proofs.Common.{◌≡◌, ◌++◌, drop}
use Rattle.common.specs.Words.{upper}
use Rattle.asm_line.proofs.replacing.whole_names.put_upper.Given as goal

-- What is written, and the rest in upper case, is the whole name in upper case.
abbrev pub invariant-loop-byte : goal.invariant-loop-byte
invariant-loop-byte l = l.initial.out.items ++ upper l.name ≡ l.out.items ++ upper (drop l.byte-index l.name)
