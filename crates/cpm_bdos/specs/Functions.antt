-- The numbers of the functions of the BDOS, and of the supported entries of the BIOS.
-- (CP/M 2.2 Interface Guide, the system functions; Alteration Guide, the BIOS entry points.)
use Rattle.std.specs.Prelude.{◌==◌, ℕ, List, [], ◌∷◌, Option, Some, None, if◌then◌else◌}
use Rattle.cpm_bdos.specs.declared.function.Function.{Function}
use Rattle.cpm_bdos.specs.declared.function.Function.TheVariants.{Console, File, Record, Search, Setting, SystemReset}
use Rattle.cpm_bdos.specs.declared.function.ConsoleCall.TheVariants as console
use Rattle.cpm_bdos.specs.declared.function.SettingCall.TheVariants as setting
use Rattle.cpm_bdos.specs.declared.function.SearchCall.TheVariants as searching
use Rattle.cpm_bdos.specs.declared.function.FileCall.TheVariants as file
use Rattle.cpm_bdos.specs.declared.function.RecordCall.TheVariants as records
use Rattle.cpm_bdos.specs.declared.function.BiosEntry.{BiosEntry}
use Rattle.cpm_bdos.specs.declared.function.BiosEntry.TheVariants as bios

-- what a table has for a number
abbrev pub looked_up : {A : Type 0} → ℕ → List (ℕ × A) → Option A
looked_up n [] = None
looked_up n (row ∷ rows) = if n == row.0 then Some row.1 else looked_up n rows

abbrev pub function_of : ℕ → Option Function
function_of number = looked_up number (
    (0, SystemReset)
    ∷ (1, Console console.Input)
    ∷ (2, Console console.Output)
    ∷ (6, Console console.Direct)
    ∷ (9, Console console.PrintString)
    ∷ (10, Console console.ReadLine)
    ∷ (11, Console console.Status)
    ∷ (12, Setting setting.Version)
    ∷ (13, Setting setting.ResetDisks)
    ∷ (14, Setting setting.SelectDisk)
    ∷ (15, File file.Open)
    ∷ (16, File file.Close)
    ∷ (17, Search searching.First)
    ∷ (18, Search searching.Next)
    ∷ (19, File file.Erase)
    ∷ (20, Record records.ReadNext)
    ∷ (21, Record records.WriteNext)
    ∷ (22, File file.Make)
    ∷ (23, File file.Rename)
    ∷ (24, Setting setting.LoginVector)
    ∷ (25, Setting setting.CurrentDisk)
    ∷ (26, Setting setting.SetDma)
    ∷ (32, Setting setting.UserCode)
    ∷ (33, Record records.ReadRandom)
    ∷ (34, Record records.WriteRandom)
    ∷ (35, Record records.FileSize)
    ∷ (36, Record records.SetRandom)
    ∷ [])

abbrev pub bios_entry_of : ℕ → Option BiosEntry
bios_entry_of number = looked_up number ((2, bios.ConsoleStatus) ∷ (3, bios.ConsoleInput) ∷ (4, bios.ConsoleOutput) ∷ [])
