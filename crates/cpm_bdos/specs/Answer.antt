-- What a system call answers: the function is in C, its argument in DE; the value goes to HL, and L to A and H to B.
-- (CP/M 2.2 Interface Guide, the system functions; Alteration Guide, the BIOS entry points.)
use Rattle.std.specs.Prelude.{◌≡◌, ◌/◌, ◌%◌, ℕ, List, Option, Some, None, Result, Ok, Err, ⊤}
use Rattle.z80_cpu.specs.State.{de, with_hl, with_main}
use Rattle.z80_cpu.specs.declared.registers.Cpu.{Cpu}
use Rattle.cpm_console.specs.Dialog.{Dialog}
use Rattle.cpm_console.specs.Line.{typed_line}
use Rattle.cpm_console.specs.Screen.{Screen, screen}
use Rattle.cpm_disk.specs.Calls.{Mounted}
use Rattle.cpm_disk.specs.Image.{Image}
use Rattle.cpm_disk.specs.Control.Bytes.{memory_byte}
use Rattle.cpm_disk.specs.Control.Stops.{Ends}
use Rattle.cpm_disk.specs.declared.control.stop.Stop.{Stop}
use Rattle.cpm_disk.specs.declared.control.stop.Stop.TheVariants as stop
use Rattle.cpm_bdos.specs.declared.console.reply.Reply.{Reply}
use Rattle.cpm_bdos.specs.declared.console.reply.Reply.TheVariants.{Value, WarmBoot}
use Rattle.cpm_bdos.specs.Console.Lines.{ReadsLine}
use Rattle.cpm_bdos.specs.Console.Raw.{Directs, PutsRaw, TakesRaw, readiness}
use Rattle.cpm_bdos.specs.Console.Texts.{Speaks, printed, put_talk, taken_talk}
use Rattle.cpm_bdos.specs.declared.files.search.Search.{Search}
use Rattle.cpm_bdos.specs.Files.Changes.{ErasesFiles, Makes, RenamesFile}
use Rattle.cpm_bdos.specs.Files.Opening.{closed, open_answer}
use Rattle.cpm_bdos.specs.Files.Searching.{SearchesFirst, search_answer, next_search, with_searched}
use Rattle.cpm_bdos.specs.Records.Numbers.{record_number_stored, size_stored}
use Rattle.cpm_bdos.specs.Records.Random.{ReadsAt, WritesAt}
use Rattle.cpm_bdos.specs.Records.Sequential.{ReadsNext, WritesNext}
use Rattle.cpm_bdos.specs.declared.function.Function.{Function}
use Rattle.cpm_bdos.specs.declared.function.Function.TheVariants as function
use Rattle.cpm_bdos.specs.declared.function.ConsoleCall.{ConsoleCall}
use Rattle.cpm_bdos.specs.declared.function.ConsoleCall.TheVariants as console
use Rattle.cpm_bdos.specs.declared.function.SettingCall.{SettingCall}
use Rattle.cpm_bdos.specs.declared.function.SearchCall.{SearchCall}
use Rattle.cpm_bdos.specs.declared.function.SearchCall.TheVariants as searching
use Rattle.cpm_bdos.specs.declared.function.FileCall.{FileCall}
use Rattle.cpm_bdos.specs.declared.function.FileCall.TheVariants as file
use Rattle.cpm_bdos.specs.declared.function.RecordCall.{RecordCall}
use Rattle.cpm_bdos.specs.declared.function.RecordCall.TheVariants as records
use Rattle.cpm_bdos.specs.declared.function.BiosEntry.{BiosEntry}
use Rattle.cpm_bdos.specs.declared.function.BiosEntry.TheVariants as bios
use Rattle.cpm_bdos.specs.declared.outcome.After.{After}
use Rattle.cpm_bdos.specs.declared.outcome.After.TheVariants as after
use Rattle.cpm_bdos.specs.Functions.{bios_entry_of, function_of}
use Rattle.cpm_bdos.specs.Settings.{set_by, settings}
use Rattle.cpm_bdos.specs.System.{System}

-- the answer of a call that has a value; a call without a value answers 0
abbrev pub answered : Result ℕ Stop → Result Reply Stop
answered (Ok value) = Ok (Value value)
answered (Err why) = Err why

abbrev pub nothing_answered : Result ⊤ Stop → Result Reply Stop
nothing_answered (Ok done) = Ok (Value 0)
nothing_answered (Err why) = Err why

-- The functions of the console: 1, 2, 6, 9, 10 and 11. Only 10 changes memory.
abbrev pub ConsoleAnswers : ConsoleCall → ℕ → Screen → Screen → List ℕ → List ℕ → Result Reply Stop → Type 0
ConsoleAnswers console.Input argument old new before now result =
    (now ≡ before) × ((outcome : Result ℕ Stop) × (result ≡ answered outcome) × Speaks old new (taken_talk old) outcome)
ConsoleAnswers console.Output argument old new before now result =
    (now ≡ before) × ((outcome : Result ⊤ Stop) × (result ≡ nothing_answered outcome) × Speaks old new (put_talk old (argument % 256)) outcome)
ConsoleAnswers console.Direct argument old new before now result =
    (now ≡ before) × ((outcome : Result ℕ Stop) × (result ≡ answered outcome) × Directs old new (argument % 256) outcome)
ConsoleAnswers console.PrintString argument old new before now result =
    (now ≡ before) × ((outcome : Result ⊤ Stop) × (result ≡ nothing_answered outcome) × Speaks old new (printed old argument before) outcome)
ConsoleAnswers console.ReadLine argument old new before now result =
    ReadsLine (typed_line (memory_byte argument before) old) argument old new before now result
ConsoleAnswers console.Status argument old new before now result =
    (now ≡ before) × (new ≡ old) × (result ≡ Ok (Value (readiness old.dialog.input)))

-- functions 12, 13, 14, 24, 25, 26 and 32, with the DMA address and the user before and after
abbrev pub SettingAnswers : SettingCall → ℕ → ℕ → ℕ → ℕ → ℕ → Result ℕ Stop → Type 0
SettingAnswers call argument dma user new_dma new_user (Ok value) = set_by call argument dma user ≡ Ok (settings value new_dma new_user)
SettingAnswers call argument dma user new_dma new_user (Err why) = (set_by call argument dma user ≡ Err why) × (new_dma ≡ dma) × (new_user ≡ user)

-- functions 17 and 18: search for the first and for the next directory entry
abbrev pub SearchAnswers : {S : Type 0} → (S → Image) → SearchCall → ℕ → Mounted S → ℕ → ℕ → Option Search → Option Search → List ℕ → List ℕ → Result ℕ Stop → Type 0
SearchAnswers sectors searching.First argument disk user dma old new before now result =
    SearchesFirst sectors disk user dma argument old new before now result
SearchAnswers sectors searching.Next argument disk user dma old new before now result =
    (result ≡ Ok (search_answer new)) × (new ≡ next_search sectors disk old) × (now ≡ with_searched sectors disk dma new before)

-- functions 15, 16, 19, 22 and 23: open, close, erase, make and rename
abbrev pub FileAnswers : {S : Type 0} → (S → Image) → (S → ℕ) → FileCall → ℕ → Mounted S → Mounted S → ℕ → List ℕ → List ℕ → Result ℕ Stop → Type 0
FileAnswers sectors faults file.Open argument old new user before now result = (new ≡ old) × Ends (open_answer sectors old user argument before) before now result
FileAnswers sectors faults file.Close argument old new user before now result = (new ≡ old) × (now ≡ before) × (result ≡ closed sectors old user argument before)
FileAnswers sectors faults file.Erase argument old new user before now result = (now ≡ before) × ErasesFiles sectors faults old new user argument before result
FileAnswers sectors faults file.Make argument old new user before now result = Makes sectors faults old new user argument before now result
FileAnswers sectors faults file.Rename argument old new user before now result = (now ≡ before) × RenamesFile sectors faults old new user argument before result

-- functions 20, 21, 33, 34, 35 and 36: records of a file, its size, and the number of a record
abbrev pub RecordAnswers : {S : Type 0} → (S → Image) → (S → ℕ) → RecordCall → ℕ → Mounted S → Mounted S → ℕ → ℕ → List ℕ → List ℕ → Result ℕ Stop → Type 0
RecordAnswers sectors faults records.ReadNext argument old new user dma before now result = ReadsNext sectors faults old new user dma argument before now result
RecordAnswers sectors faults records.WriteNext argument old new user dma before now result = WritesNext sectors faults old new user dma argument before now result
RecordAnswers sectors faults records.ReadRandom argument old new user dma before now result = ReadsAt sectors faults old new user dma argument before now result
RecordAnswers sectors faults records.WriteRandom argument old new user dma before now result = WritesAt sectors faults old new user dma argument before now result
RecordAnswers sectors faults records.FileSize argument old new user dma before now result = (new ≡ old) × Ends (size_stored sectors old user argument before) before now result
RecordAnswers sectors faults records.SetRandom argument old new user dma before now result = (new ≡ old) × Ends (record_number_stored old.kind argument before) before now result

-- What a function with its argument answers, and what it leaves of the system and the memory. Each family changes only its own part.
abbrev pub Answers : {S C : Type 0} → (S → Image) → (S → ℕ) → (C → Dialog) → Function → ℕ → System S C → System S C → List ℕ → List ℕ → Result Reply Stop → Type 0
Answers sectors faults dialog function.SystemReset argument old new before now result = (new ≡ old) × (now ≡ before) × (result ≡ Ok WarmBoot)
Answers sectors faults dialog (function.Console call) argument old new before now result =
    (new ≡ record old { terminal = new.terminal }) × ConsoleAnswers call argument (screen dialog old.terminal) (screen dialog new.terminal) before now result
Answers sectors faults dialog (function.Setting call) argument old new before now result =
    (new ≡ record old { dma = new.dma; user = new.user }) × (now ≡ before)
    × ((outcome : Result ℕ Stop) × (result ≡ answered outcome) × SettingAnswers call argument old.dma old.user new.dma new.user outcome)
Answers sectors faults dialog (function.Search call) argument old new before now result =
    (new ≡ record old { search = new.search })
    × ((outcome : Result ℕ Stop) × (result ≡ answered outcome) × SearchAnswers sectors call argument old.disk old.user old.dma old.search new.search before now outcome)
Answers sectors faults dialog (function.File call) argument old new before now result =
    (new ≡ record old { disk = new.disk })
    × ((outcome : Result ℕ Stop) × (result ≡ answered outcome) × FileAnswers sectors faults call argument old.disk new.disk old.user before now outcome)
Answers sectors faults dialog (function.Record call) argument old new before now result =
    (new ≡ record old { disk = new.disk })
    × ((outcome : Result ℕ Stop) × (result ≡ answered outcome) × RecordAnswers sectors faults call argument old.disk new.disk old.user old.dma before now outcome)

-- the registers with this value in HL, and L in A and H in B
abbrev pub with_value : ℕ → Cpu → Cpu
with_value value cpu = with_main (record (with_hl value cpu.main) { a = value % 256; b = value / 256 }) cpu

-- What the program sees of a reply. A stop and a warm boot leave the registers as they were.
abbrev pub CallerSees : Cpu → Cpu → Result Reply Stop → Result After Stop → Type 0
CallerSees old new (Ok (Value value)) result = (result ≡ Ok after.Return) × (new ≡ with_value value old)
CallerSees old new (Ok WarmBoot) result = (result ≡ Ok after.WarmBoot) × (new ≡ old)
CallerSees old new (Err why) result = (result ≡ Err why) × (new ≡ old)

-- A system call. A number that is no function stops the run, and nothing changes.
abbrev pub KnownAnswers : {S C : Type 0} → (S → Image) → (S → ℕ) → (C → Dialog) → Option Function → System S C → System S C → Cpu → Cpu → List ℕ → List ℕ → Result After Stop → Type 0
KnownAnswers sectors faults dialog (Some function) old new cpu shown before now result =
    (reply : Result Reply Stop) × Answers sectors faults dialog function (de cpu.main) old new before now reply × CallerSees cpu shown reply result
KnownAnswers sectors faults dialog None old new cpu shown before now result =
    (result ≡ Err (stop.UnsupportedFunction cpu.main.c)) × (new ≡ old) × (shown ≡ cpu) × (now ≡ before)

abbrev pub CallAnswers : {S C : Type 0} → (S → Image) → (S → ℕ) → (C → Dialog) → System S C → System S C → Cpu → Cpu → List ℕ → List ℕ → Result After Stop → Type 0
CallAnswers sectors faults dialog old new cpu shown before now result = KnownAnswers sectors faults dialog (function_of cpu.main.c) old new cpu shown before now result

-- The entries CONST, CONIN and CONOUT of the BIOS: the first two answer in A, and the last puts the byte in C.
abbrev pub with_accumulator : ℕ → Cpu → Cpu
with_accumulator value cpu = with_main (record cpu.main { a = value }) cpu

abbrev pub InputAnswers : Screen → Screen → Cpu → Cpu → Result ℕ Stop → Result After Stop → Type 0
InputAnswers old new cpu shown (Ok byte) result = (result ≡ Ok after.Return) × (shown ≡ with_accumulator byte cpu)
InputAnswers old new cpu shown (Err why) result = (result ≡ Err why) × (shown ≡ cpu)

abbrev pub output_answered : Result ⊤ Stop → Result After Stop
output_answered (Ok done) = Ok after.Return
output_answered (Err why) = Err why

abbrev pub EntryAnswers : BiosEntry → Screen → Screen → Cpu → Cpu → Result After Stop → Type 0
EntryAnswers bios.ConsoleStatus old new cpu shown result = (new ≡ old) × (result ≡ Ok after.Return) × (shown ≡ with_accumulator (readiness old.dialog.input) cpu)
EntryAnswers bios.ConsoleInput old new cpu shown result = (outcome : Result ℕ Stop) × TakesRaw old new outcome × InputAnswers old new cpu shown outcome result
EntryAnswers bios.ConsoleOutput old new cpu shown result = (outcome : Result ⊤ Stop) × PutsRaw old new cpu.main.c outcome × (result ≡ output_answered outcome) × (shown ≡ cpu)

abbrev pub KnownEntry : {S C : Type 0} → (C → Dialog) → Option BiosEntry → System S C → System S C → ℕ → Cpu → Cpu → Result After Stop → Type 0
KnownEntry dialog (Some entry) old new number cpu shown result =
    (new ≡ record old { terminal = new.terminal }) × EntryAnswers entry (screen dialog old.terminal) (screen dialog new.terminal) cpu shown result
KnownEntry dialog None old new number cpu shown result = (result ≡ Err (stop.UnsupportedBios number)) × (new ≡ old) × (shown ≡ cpu)

abbrev pub BiosAnswers : {S C : Type 0} → (C → Dialog) → System S C → System S C → ℕ → Cpu → Cpu → Result After Stop → Type 0
BiosAnswers dialog old new number cpu shown result = KnownEntry dialog (bios_entry_of number) old new number cpu shown result
