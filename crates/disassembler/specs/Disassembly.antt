-- What `disassemble` answers.
use Rattle.std.specs.Prelude.{◌≡◌, ◌<◌, ◌≤◌, ℕ, false, List, [], ◌∷◌, Option, Some, None, Result, Ok, Err, Vec, length}
use Rattle.std.specs.Global.{Global}
use Rattle.common.specs.declared.limits.TheConstants.{LONGEST_PROGRAM}
use Rattle.zlink.specs.Built.{IsBuilt}
use Rattle.zlink.specs.declared.building.Built.{Built}
use Rattle.zlink.specs.declared.source.Source.{Source}
use Rattle.disassembler.specs.declared.fault.DisassemblyFault.{DisassemblyFault}
use Rattle.disassembler.specs.declared.fault.DisassemblyFault.TheVariants as fault
use Rattle.disassembler.specs.Entries.{first_bad_entry}
use Rattle.disassembler.specs.Labels.{first_bad_label}

-- A source with this text builds to these bytes.
pub record Rebuilds (text program : List ℕ) : Type 0 where
  pub source : Source
  pub text_is : source.text.now ≡ text
  pub built : Built
  pub builds : IsBuilt false (source ∷ []) (Ok built)
  pub same : built.com.items ≡ program

-- The program is not too long, each entry and each beginning of data is an address of a byte of it, and each line of the labels file is one of
-- a label.
pub record IsAccepted (program : List ℕ) (labels : Option (List ℕ)) (entries data_starts : List (List ℕ)) : Type 0 where
  pub fits : length program ≤ LONGEST_PROGRAM
  pub each_entry : first_bad_entry (length program) entries ≡ None
  pub each_start : first_bad_entry (length program) data_starts ≡ None
  pub each_label : first_bad_label labels ≡ None

-- What is answered for a program, a labels file, words that are entries and words that are beginnings of data. If memory ran out, nothing is
-- claimed.
abbrev pub IsDisassembly : List ℕ → Option (List ℕ) → List (List ℕ) → List (List ℕ) → Result (Vec ℕ Global) DisassemblyFault → Type 0
IsDisassembly program labels entries data_starts (Ok text) = IsAccepted program labels entries data_starts × Rebuilds text.items program
IsDisassembly program labels entries data_starts (Err fault.TooLong) = LONGEST_PROGRAM < length program
IsDisassembly program labels entries data_starts (Err (fault.BadEntry word)) =
    (length program ≤ LONGEST_PROGRAM) × (first_bad_entry (length program) entries ≡ Some word.now)
IsDisassembly program labels entries data_starts (Err (fault.BadData word)) =
    (length program ≤ LONGEST_PROGRAM) × (first_bad_entry (length program) entries ≡ None) × (first_bad_entry (length program) data_starts ≡ Some word.now)
IsDisassembly program labels entries data_starts (Err (fault.BadLabels line)) =
    (length program ≤ LONGEST_PROGRAM) × (first_bad_entry (length program) entries ≡ None) × (first_bad_entry (length program) data_starts ≡ None)
    × (first_bad_label labels ≡ Some line)
IsDisassembly program labels entries data_starts (Err fault.NotRebuilt) = IsAccepted program labels entries data_starts
IsDisassembly program labels entries data_starts (Err fault.NoMemory) = Unit {0}
