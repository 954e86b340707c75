use Rattle.std.proofs.Common.{◌≡◌, ◌++◌, drop, map}
use Rattle.report_texts.specs.Printed.{shown_byte}
use Rattle.report_texts.proofs.printing.put_shown.Given as goal

abbrev pub invariant-loop-byte : goal.invariant-loop-byte
invariant-loop-byte l = l.out.items ++ map shown_byte (drop l.byte-index l.text) ≡ l.fn.out.items ++ map shown_byte l.text
