use Rattle.std.proofs.Common.{◌≡◌, ◌++◌, drop, map}
use Rattle.report_texts.specs.Printed.{below}
use Rattle.report_texts.proofs.printing.put_below.Given as goal

abbrev pub invariant-loop-byte : goal.invariant-loop-byte
invariant-loop-byte l = l.out.items ++ map below (drop l.byte-index l.text) ≡ l.fn.out.items ++ map below l.text
