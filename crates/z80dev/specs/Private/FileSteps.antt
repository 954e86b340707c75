-- How the steps of these commands end.
use Rattle.std.specs.Prelude.{◌≡◌, ◌≢◌, ◌⊎◌, ℕ, List, Option, None, Some, Result, Ok, Err, Vec, string_bytes}
use Rattle.std.specs.Global.{Global}
use Rattle.host.specs.declared.end.End.{End}
use Rattle.host.specs.declared.end.End.TheVariants as end
use Rattle.disassembler.specs.Disassembly.{IsDisassembly}
use Rattle.disassembler.specs.Faults.{disassembly_fault_text}
use Rattle.disassembler.specs.declared.fault.DisassemblyFault.{DisassemblyFault}
use Rattle.disassembler.specs.declared.fault.DisassemblyFault.TheVariants as dis
use Rattle.z80dev_commands.specs.declared.job.Build.{Build}
use Rattle.host.specs.Ending.{Effect, NothingDone, RefusesText}
use Rattle.z80dev.specs.Making.{WritesBuilt}

-- lines go with the end at which all is done
abbrev pub DoneWithLines : End → Vec ℕ Global → Result (Vec ℕ Global) End → Type 0
DoneWithLines end.Done lines result = result ≡ Ok lines
DoneWithLines e lines result = result ≡ Err e

-- the program of sources that were read is written, or memory runs out before
abbrev pub BuildsTexts : List ℕ → Build → List (List ℕ) → List (List ℕ) → Effect → List ℕ → End → Type 0
BuildsTexts base build fronts texts x lines e = WritesBuilt base build fronts texts x lines e ⊎ ((e ≡ end.NoMemory) × NothingDone x)

-- a source of a program, or how the command ends because there is none
abbrev pub RefusesProgram : List ℕ → Option (List ℕ) → List (List ℕ) → List (List ℕ) → End → Type 0
RefusesProgram program labels entries data_starts (end.Refused said) =
    (why : DisassemblyFault) × (why ≢ dis.NoMemory) × IsDisassembly program labels entries data_starts (Err why) × (string_bytes said ≡ disassembly_fault_text why)
RefusesProgram program labels entries data_starts end.NoMemory = Unit {0}
RefusesProgram program labels entries data_starts _ = ⊥

abbrev pub Disassembles : List ℕ → Option (List ℕ) → List (List ℕ) → List (List ℕ) → Result (Vec ℕ Global) End → Type 0
Disassembles program labels entries data_starts (Ok text) = IsDisassembly program labels entries data_starts (Ok text)
Disassembles program labels entries data_starts (Err e) = RefusesProgram program labels entries data_starts e
