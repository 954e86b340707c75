use Rattle.std.proofs.Common.{length, ◌-◌, ◌≡◌, ◌≤◌, drop}
use Rattle.asm_line.specs.Private.Reading.{string_len, longer_by}
use Rattle.asm_line.proofs.quoted.string_len.Given as goal

abbrev pub invariant-loop-len : goal.invariant-loop-len
invariant-loop-len l = record {
  within : l.len ≤ length l.bytes;
  same : string_len l.quote l.bytes ≡ longer_by l.len (string_len l.quote (drop l.len l.bytes));
}

abbrev pub decreases-loop-len : goal.decreases-loop-len
decreases-loop-len l = length l.bytes - l.len
