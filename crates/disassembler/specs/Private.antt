-- What private contracts say.
use Rattle.std.specs.Prelude.{◌≡◌, ℕ, List, Some, None, Result, Ok, Err, Vec}
use Rattle.std.specs.Global.{Global}
use Rattle.disassembler.specs.declared.fault.DisassemblyFault.{DisassemblyFault}
use Rattle.disassembler.specs.declared.fault.DisassemblyFault.TheVariants as fault
use Rattle.disassembler.specs.Disassembly.{Rebuilds}
use Rattle.disassembler.specs.Entries.{first_bad_entry}

-- No entry is bad, or this one is the first, or memory ran out.
abbrev pub AreEntries : ℕ → List (List ℕ) → Result (Vec ℕ Global) DisassemblyFault → Type 0
AreEntries count entries (Ok offsets) = first_bad_entry count entries ≡ None
AreEntries count entries (Err (fault.BadEntry word)) = first_bad_entry count entries ≡ Some word.now
AreEntries count entries (Err fault.NoMemory) = Unit {0}
AreEntries count entries (Err why) = ⊥

-- No beginning of data is bad, or this one is the first, or memory ran out.
abbrev pub AreDataStarts : ℕ → List (List ℕ) → Result (Vec ℕ Global) DisassemblyFault → Type 0
AreDataStarts count starts (Ok offsets) = first_bad_entry count starts ≡ None
AreDataStarts count starts (Err (fault.BadData word)) = first_bad_entry count starts ≡ Some word.now
AreDataStarts count starts (Err fault.NoMemory) = Unit {0}
AreDataStarts count starts (Err why) = ⊥

-- The text builds to the program, or none that was tried does, or memory ran out.
abbrev pub IsRebuilt : List ℕ → Result (Vec ℕ Global) DisassemblyFault → Type 0
IsRebuilt program (Ok text) = Rebuilds text.items program
IsRebuilt program (Err fault.NotRebuilt) = Unit {0}
IsRebuilt program (Err fault.NoMemory) = Unit {0}
IsRebuilt program (Err why) = ⊥
