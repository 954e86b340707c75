use Rattle.std.proofs.Common.{◌≡◌, drop}
use Rattle.asm_names.specs.Faults.{first}
use Rattle.asm_names.specs.Lines.{lines_of}
use Rattle.asm_names.specs.Private.Turned.{numbered}
use Rattle.asm_names.proofs.settling.first_of.Given as goal

abbrev pub invariant-loop-at : goal.invariant-loop-at
invariant-loop-at l = first (numbered (lines_of (drop l.at l.lines)) (drop l.at l.faults)) ≡ first (numbered (lines_of l.lines) l.faults)
