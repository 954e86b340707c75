-- What is read from a labels file.
use Rattle.std.specs.Prelude.{◌≡◌, ℕ, List, None, Some, Result, Ok, Err, Vec, map}
use Rattle.std.specs.Global.{Global}
use Rattle.asm_macro.specs.Texts.{source_lines}
use Rattle.disassembler.specs.Labels.{first_bad_line, label_address, label_name}
use Rattle.disassembler.specs.declared.fault.DisassemblyFault.{DisassemblyFault}
use Rattle.disassembler.specs.declared.fault.DisassemblyFault.TheVariants as fault
use Rattle.disassembler.specs.declared.labels.Label.{Label}

-- the address and the name of a label
abbrev pub label_parts : Label → ℕ × List ℕ
label_parts label = (label.address, label.name.now)

-- The labels of a file are those of its lines, in their order. A file with a bad line is refused with the number of the first.
abbrev pub AreLabels : List ℕ → Result (Vec Label Global) DisassemblyFault → Type 0
AreLabels text (Ok labels) = (first_bad_line text ≡ None) × (map label_parts labels.items ≡ map (λ line. (label_address line, label_name line)) (source_lines text))
AreLabels text (Err (fault.BadLabels line)) = first_bad_line text ≡ Some line
AreLabels text (Err fault.NoMemory) = Unit {0}
AreLabels text (Err why) = ⊥
