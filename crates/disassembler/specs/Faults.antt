-- Why there is no source text for a program, and how it is printed: by name, with the word or the line in parentheses.
use Rattle.std.specs.Prelude.{ℕ, List, ◌++◌, codes, decimal}
use Rattle.disassembler.specs.declared.fault.DisassemblyFault.{DisassemblyFault}
use Rattle.disassembler.specs.declared.fault.DisassemblyFault.TheVariants as fault

abbrev pub disassembly_fault_text : DisassemblyFault → List ℕ
disassembly_fault_text fault.TooLong = codes "TooLong"
disassembly_fault_text (fault.BadEntry word) = codes "BadEntry(" ++ word.now ++ codes ")"
disassembly_fault_text (fault.BadData word) = codes "BadData(" ++ word.now ++ codes ")"
disassembly_fault_text (fault.BadLabels line) = codes "BadLabels(" ++ decimal line ++ codes ")"
disassembly_fault_text fault.NotRebuilt = codes "NotRebuilt"
disassembly_fault_text fault.NoMemory = codes "NoMemory"
