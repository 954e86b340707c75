-- A step that ends the run for want of input lacked it.
use Rattle.std.proofs.Common.{◌≡◌, ◌≢◌, ◌∷◌, [], ℕ, Bool, true, false, List, Option, None, Some, Result, Ok, Err, refl, sym, ap, subst, ◌∙◌}
use Rattle.std.specs.Prelude.{◌==◌, ◌%◌, if◌then◌else◌, nat_le, ⊤}
use Rattle.z80_cpu.specs.State.{Machine, de}
use Rattle.z80_cpu.specs.declared.registers.Cpu.{Cpu}
use Rattle.z80_machine.specs.Types.{Step}
use Rattle.z80_turns.specs.declared.outcome.Step.TheVariants as step
use Rattle.cpm_console.specs.Dialog.{Dialog}
use Rattle.cpm_console.specs.Line.{typed_line}
use Rattle.cpm_console.specs.Screen.{Screen, screen}
use Rattle.cpm_image.specs.Directory.Letters.{letters}
use Rattle.cpm_image.specs.declared.kind.DiskKind.{DiskKind}
use Rattle.cpm_disk.specs.Control.Files.{file_size}
use Rattle.cpm_image.specs.declared.directory.fault.DiskFault.{DiskFault}
use Rattle.cpm_image.specs.declared.directory.fault.DiskFault.TheVariants as fault
use Rattle.cpm_disk.specs.Calls.{Mounted}
use Rattle.cpm_disk.specs.Image.{Image}
use Rattle.cpm_disk.specs.Operations.{IsCreated, IsErased, IsRecordRead, IsRecordWritten, IsRenamed}
use Rattle.cpm_disk.specs.Control.Bytes.{bytes_at}
use Rattle.cpm_disk.specs.Control.Fcbs.{drive_judged, drive_of, fcb_at, file_judged, has_question, name_judged, name_of, names_judged, new_name_of, question, random_of}
use Rattle.cpm_disk.specs.Control.Stops.{Done, Ends, Unless, unless_stopped}
use Rattle.cpm_disk.specs.declared.control.stop.Stop.{Stop}
use Rattle.cpm_disk.specs.declared.control.stop.Stop.TheVariants as stop
use Rattle.cpm_bdos.specs.Answer.{Answers, CallerSees, FileAnswers, InputAnswers, KnownAnswers, KnownEntry, RecordAnswers, SearchAnswers, SettingAnswers, answered, nothing_answered, output_answered}
use Rattle.cpm_bdos.specs.Console.Lines.{ReadsLine}
use Rattle.cpm_bdos.specs.Console.Raw.{Asked, PutsDirect, PutsRaw, TakesAny, TakesRaw}
use Rattle.cpm_bdos.specs.Console.Texts.{Speaks, printed, put_talk, taken_talk}
use Rattle.cpm_bdos.specs.Files.Changes.{erase_answer, make_answer, rename_answer}
use Rattle.cpm_bdos.specs.Files.Opening.{code_of, extent_entry, open_answer}
use Rattle.cpm_bdos.specs.Files.Searching.{sought_judged}
use Rattle.cpm_bdos.specs.Functions.{bios_entry_of, function_of}
use Rattle.cpm_bdos.specs.Records.Numbers.{record_number_stored, size_stored, size_stored_as}
use Rattle.cpm_bdos.specs.Records.Places.{is_bad, place_judged, place_of, record_at, turned}
use Rattle.cpm_bdos.specs.Records.Random.{Within, can_have_record, read_at, refused_random_read, refused_random_write, write_at}
use Rattle.cpm_bdos.specs.Records.Sequential.{InTurn, read_next, refused_read, refused_write, sequential_judged, write_next}
use Rattle.cpm_bdos.specs.Settings.{set_by}
use Rattle.cpm_bdos.specs.System.{System}
use Rattle.cpm_bdos.specs.declared.console.reply.Reply.{Reply}
use Rattle.cpm_bdos.specs.declared.console.reply.Reply.TheVariants as reply
use Rattle.cpm_bdos.specs.declared.files.search.Search.{Search}
use Rattle.cpm_bdos.specs.declared.function.BiosEntry.{BiosEntry}
use Rattle.cpm_bdos.specs.declared.function.BiosEntry.TheVariants as bios
use Rattle.cpm_bdos.specs.declared.function.ConsoleCall.TheVariants as console
use Rattle.cpm_bdos.specs.declared.function.FileCall.{FileCall}
use Rattle.cpm_bdos.specs.declared.function.FileCall.TheVariants as file
use Rattle.cpm_bdos.specs.declared.function.Function.{Function}
use Rattle.cpm_bdos.specs.declared.function.Function.TheVariants as function
use Rattle.cpm_bdos.specs.declared.function.RecordCall.{RecordCall}
use Rattle.cpm_bdos.specs.declared.function.RecordCall.TheVariants as records
use Rattle.cpm_bdos.specs.declared.function.SearchCall.{SearchCall}
use Rattle.cpm_bdos.specs.declared.function.SearchCall.TheVariants as searching
use Rattle.cpm_bdos.specs.declared.function.SettingCall.{SettingCall}
use Rattle.cpm_bdos.specs.declared.function.SettingCall.TheVariants as setting
use Rattle.cpm_bdos.specs.declared.outcome.After.{After}
use Rattle.cpm_bdos.specs.declared.outcome.After.TheVariants as after
use Rattle.cpm_bdos.specs.declared.records.place.Place.{Place as Position}
use Rattle.cpm_run.specs.declared.ending.Why.{Why}
use Rattle.cpm_run.specs.declared.ending.Why.TheVariants as why
use Rattle.cpm_run.specs.Looks.{CallLacks, EntryLacks, LacksAt, LacksInput, line_room}
use Rattle.cpm_run.specs.Turns.{Call, Comes, Entry, IsTurn, Place, Program, RunState, TurnAt, place_at_pc, step_end}

-- ---- what never stops for want of input

-- this answer is no stop for want of input
abbrev IsFed : {A : Type 0} → Result A Stop → Type 0
IsFed r = r ≢ Err stop.EndOfInput

tested : {A : Type 0} (b : Bool) (one other : Result A Stop) → IsFed one → IsFed other → IsFed (if b then one else other)
tested true one other first second = first
tested false one other first second = second

then_fed : {A : Type 0} (judged : Result ⊤ Stop) (next : Result A Stop) → IsFed judged → IsFed next → IsFed (unless_stopped judged next)
then_fed (Ok go) next first second = second
then_fed {A} (Err why) next first second = λ e. first (let is : ◌≡◌ {A = Result A Stop} (Err why) (Err stop.EndOfInput) = e in let same : why ≡ stop.EndOfInput = cc in ap (λ w. Err w) same)

fed_ok : {A : Type 0} (value : A) → IsFed (Ok value)
fed_ok value = λ e. absurd cc

said_ok : ◌≢◌ {A = Result ⊤ Stop} (Ok tt) (Err stop.EndOfInput)
said_ok = λ e. absurd cc

bad_fcb : ◌≢◌ {A = Result ⊤ Stop} (Err stop.BadFcb) (Err stop.EndOfInput)
bad_fcb = λ e. absurd cc

no_drive : ◌≢◌ {A = Result ⊤ Stop} (Err stop.UnknownDrive) (Err stop.EndOfInput)
no_drive = λ e. absurd cc

drive_fed : (fcb : List ℕ) → IsFed (drive_judged fcb)
drive_fed fcb = tested (nat_le (drive_of fcb) 1) (Ok tt) _ said_ok (tested (nat_le (drive_of fcb) 16) (Err stop.UnknownDrive) (Err stop.BadFcb) no_drive bad_fcb)

name_fed : (name : List ℕ) → IsFed (name_judged name)
name_fed name = tested (has_question name) (Err stop.BadFcb) (Ok tt) bad_fcb said_ok

file_fed : (fcb : List ℕ) → IsFed (file_judged fcb)
file_fed fcb = then_fed (drive_judged fcb) (name_judged (name_of fcb)) (drive_fed fcb) (name_fed (name_of fcb))

names_fed : (fcb : List ℕ) → IsFed (names_judged fcb)
names_fed fcb = then_fed (file_judged fcb) (name_judged (new_name_of fcb)) (file_fed fcb) (name_fed (new_name_of fcb))

sought_fed : (fcb : List ℕ) → IsFed (sought_judged fcb)
sought_fed fcb = tested (drive_of fcb == question) (Ok tt) (drive_judged fcb) said_ok (drive_fed fcb)

make_fed : (address : ℕ) (memory : List ℕ) (f : DiskFault) → IsFed (make_answer address memory (Err f))
make_fed address memory fault.Fault = λ e. absurd cc
make_fed address memory fault.BlockTwice = λ e. absurd cc
make_fed address memory fault.BlockRange = λ e. absurd cc
make_fed address memory fault.BadEntry = λ e. absurd cc
make_fed address memory fault.NotFound = λ e. absurd cc
make_fed address memory fault.Exists = λ e. absurd cc
make_fed address memory fault.DirectoryFull = λ e. absurd cc
make_fed address memory fault.DiskFull = λ e. absurd cc
make_fed address memory fault.ReadOnly = λ e. absurd cc
make_fed address memory fault.Unwritten = λ e. absurd cc
make_fed address memory fault.NoExtent = λ e. absurd cc
make_fed address memory fault.NameTwice = λ e. absurd cc
make_fed address memory fault.Failed = λ e. absurd cc
make_fed address memory fault.TooFar = λ e. absurd cc
make_fed address memory fault.NoMemory = λ e. absurd cc
make_fed address memory fault.WrongSize = λ e. absurd cc

erase_fed : (f : DiskFault) → IsFed (erase_answer (Err f))
erase_fed fault.Fault = λ e. absurd cc
erase_fed fault.BlockTwice = λ e. absurd cc
erase_fed fault.BlockRange = λ e. absurd cc
erase_fed fault.BadEntry = λ e. absurd cc
erase_fed fault.NotFound = λ e. absurd cc
erase_fed fault.Exists = λ e. absurd cc
erase_fed fault.DirectoryFull = λ e. absurd cc
erase_fed fault.DiskFull = λ e. absurd cc
erase_fed fault.ReadOnly = λ e. absurd cc
erase_fed fault.Unwritten = λ e. absurd cc
erase_fed fault.NoExtent = λ e. absurd cc
erase_fed fault.NameTwice = λ e. absurd cc
erase_fed fault.Failed = λ e. absurd cc
erase_fed fault.TooFar = λ e. absurd cc
erase_fed fault.NoMemory = λ e. absurd cc
erase_fed fault.WrongSize = λ e. absurd cc

rename_fed : (f : DiskFault) → IsFed (rename_answer (Err f))
rename_fed fault.Fault = λ e. absurd cc
rename_fed fault.BlockTwice = λ e. absurd cc
rename_fed fault.BlockRange = λ e. absurd cc
rename_fed fault.BadEntry = λ e. absurd cc
rename_fed fault.NotFound = λ e. absurd cc
rename_fed fault.Exists = λ e. absurd cc
rename_fed fault.DirectoryFull = λ e. absurd cc
rename_fed fault.DiskFull = λ e. absurd cc
rename_fed fault.ReadOnly = λ e. absurd cc
rename_fed fault.Unwritten = λ e. absurd cc
rename_fed fault.NoExtent = λ e. absurd cc
rename_fed fault.NameTwice = λ e. absurd cc
rename_fed fault.Failed = λ e. absurd cc
rename_fed fault.TooFar = λ e. absurd cc
rename_fed fault.NoMemory = λ e. absurd cc
rename_fed fault.WrongSize = λ e. absurd cc

read_fed : (memory : List ℕ) (f : DiskFault) → IsFed (refused_read memory f)
read_fed memory fault.Fault = λ e. absurd cc
read_fed memory fault.BlockTwice = λ e. absurd cc
read_fed memory fault.BlockRange = λ e. absurd cc
read_fed memory fault.BadEntry = λ e. absurd cc
read_fed memory fault.NotFound = λ e. absurd cc
read_fed memory fault.Exists = λ e. absurd cc
read_fed memory fault.DirectoryFull = λ e. absurd cc
read_fed memory fault.DiskFull = λ e. absurd cc
read_fed memory fault.ReadOnly = λ e. absurd cc
read_fed memory fault.Unwritten = λ e. absurd cc
read_fed memory fault.NoExtent = λ e. absurd cc
read_fed memory fault.NameTwice = λ e. absurd cc
read_fed memory fault.Failed = λ e. absurd cc
read_fed memory fault.TooFar = λ e. absurd cc
read_fed memory fault.NoMemory = λ e. absurd cc
read_fed memory fault.WrongSize = λ e. absurd cc

write_fed : (memory : List ℕ) (f : DiskFault) → IsFed (refused_write memory f)
write_fed memory fault.Fault = λ e. absurd cc
write_fed memory fault.BlockTwice = λ e. absurd cc
write_fed memory fault.BlockRange = λ e. absurd cc
write_fed memory fault.BadEntry = λ e. absurd cc
write_fed memory fault.NotFound = λ e. absurd cc
write_fed memory fault.Exists = λ e. absurd cc
write_fed memory fault.DirectoryFull = λ e. absurd cc
write_fed memory fault.DiskFull = λ e. absurd cc
write_fed memory fault.ReadOnly = λ e. absurd cc
write_fed memory fault.Unwritten = λ e. absurd cc
write_fed memory fault.NoExtent = λ e. absurd cc
write_fed memory fault.NameTwice = λ e. absurd cc
write_fed memory fault.Failed = λ e. absurd cc
write_fed memory fault.TooFar = λ e. absurd cc
write_fed memory fault.NoMemory = λ e. absurd cc
write_fed memory fault.WrongSize = λ e. absurd cc

random_read_fed : (address number : ℕ) (memory : List ℕ) (f : DiskFault) → IsFed (refused_random_read address number memory f)
random_read_fed address number memory fault.Fault = λ e. absurd cc
random_read_fed address number memory fault.BlockTwice = λ e. absurd cc
random_read_fed address number memory fault.BlockRange = λ e. absurd cc
random_read_fed address number memory fault.BadEntry = λ e. absurd cc
random_read_fed address number memory fault.NotFound = λ e. absurd cc
random_read_fed address number memory fault.Exists = λ e. absurd cc
random_read_fed address number memory fault.DirectoryFull = λ e. absurd cc
random_read_fed address number memory fault.DiskFull = λ e. absurd cc
random_read_fed address number memory fault.ReadOnly = λ e. absurd cc
random_read_fed address number memory fault.Unwritten = λ e. absurd cc
random_read_fed address number memory fault.NoExtent = λ e. absurd cc
random_read_fed address number memory fault.NameTwice = λ e. absurd cc
random_read_fed address number memory fault.Failed = λ e. absurd cc
random_read_fed address number memory fault.TooFar = λ e. absurd cc
random_read_fed address number memory fault.NoMemory = λ e. absurd cc
random_read_fed address number memory fault.WrongSize = λ e. absurd cc

random_write_fed : (address number : ℕ) (memory : List ℕ) (f : DiskFault) → IsFed (refused_random_write address number memory f)
random_write_fed address number memory fault.Fault = λ e. absurd cc
random_write_fed address number memory fault.BlockTwice = λ e. absurd cc
random_write_fed address number memory fault.BlockRange = λ e. absurd cc
random_write_fed address number memory fault.BadEntry = λ e. absurd cc
random_write_fed address number memory fault.NotFound = λ e. absurd cc
random_write_fed address number memory fault.Exists = λ e. absurd cc
random_write_fed address number memory fault.DirectoryFull = λ e. absurd cc
random_write_fed address number memory fault.DiskFull = λ e. absurd cc
random_write_fed address number memory fault.ReadOnly = λ e. absurd cc
random_write_fed address number memory fault.Unwritten = λ e. absurd cc
random_write_fed address number memory fault.NoExtent = λ e. absurd cc
random_write_fed address number memory fault.NameTwice = λ e. absurd cc
random_write_fed address number memory fault.Failed = λ e. absurd cc
random_write_fed address number memory fault.TooFar = λ e. absurd cc
random_write_fed address number memory fault.NoMemory = λ e. absurd cc
random_write_fed address number memory fault.WrongSize = λ e. absurd cc

size_fed : (address : ℕ) (memory : List ℕ) (size : Option ℕ) → IsFed (size_stored_as address memory size)
size_fed address memory None = λ e. absurd cc
size_fed address memory (Some size) = λ e. absurd cc

set_fed : (call : SettingCall) (argument dma user : ℕ) → IsFed (set_by call argument dma user)
set_fed setting.Version argument dma user = λ e. absurd cc
set_fed setting.ResetDisks argument dma user = λ e. absurd cc
set_fed setting.SelectDisk argument dma user = tested (argument % 256 == 0) _ (Err stop.UnknownDrive) (λ e. absurd cc) (λ e. absurd cc)
set_fed setting.LoginVector argument dma user = λ e. absurd cc
set_fed setting.CurrentDisk argument dma user = λ e. absurd cc
set_fed setting.SetDma argument dma user = λ e. absurd cc
set_fed setting.UserCode argument dma user = λ e. absurd cc

-- ---- calls of the disk

-- a stop before the disk is used
judged_fed : {D : Type 0} (judged : Result ⊤ Stop) (old new : D) (before now : List ℕ) (result : Result ℕ Stop) (asked : Type 0) → IsFed judged → (asked → IsFed result) → Unless judged old new before now result asked → IsFed result
judged_fed (Err why) old new before now result asked first second h = λ e. first (let is : ◌≡◌ {A = Result ℕ Stop} (Err why) (Err stop.EndOfInput) = sym h.0 ∙ e in let same : why ≡ stop.EndOfInput = cc in ap (λ w. Err w) same)
judged_fed (Ok go) old new before now result asked first second h = second h

in_turn_fed : {D : Type 0} (next : Option Position) (full : ℕ) (old new : D) (before now : List ℕ) (result : Result ℕ Stop) (asked : Position → Type 0) → ((p : Position) → asked p → IsFed result) → InTurn next full old new before now result asked → IsFed result
in_turn_fed (Some p) full old new before now result asked second h = second p h
in_turn_fed None full old new before now result asked second h = λ e. absurd (let is : ◌≡◌ {A = Result ℕ Stop} (Ok full) (Err stop.EndOfInput) = sym h.0 ∙ e in cc)

within_fed : {D : Type 0} (b : Bool) (old new : D) (before now : List ℕ) (result : Result ℕ Stop) (asked : Type 0) → (asked → IsFed result) → Within b old new before now result asked → IsFed result
within_fed true old new before now result asked second h = second h
within_fed false old new before now result asked second h = λ e. absurd (let is : ◌≡◌ {A = Result ℕ Stop} (Ok 6) (Err stop.EndOfInput) = sym h.0 ∙ e in cc)

ends_fed : (row : Result Done Stop) (before now : List ℕ) (result : Result ℕ Stop) → IsFed row → Ends row before now result → IsFed result
ends_fed row before now (Ok value) fed h = λ e. absurd cc
ends_fed row before now (Err why) fed h = λ e. fed (h.0 ∙ (let is : ◌≡◌ {A = Result ℕ Stop} (Err why) (Err stop.EndOfInput) = e in let same : why ≡ stop.EndOfInput = cc in ap (λ w. Err w) same))

-- ---- what the answer says

same_stop : {A : Type 0} (why : Stop) → ◌≡◌ {A = Result ℕ Stop} (Err why) (Err stop.EndOfInput) → ◌≡◌ {A = Result A Stop} (Err why) (Err stop.EndOfInput)
same_stop {A} why e = let same : why ≡ stop.EndOfInput = cc in ap (λ w. Err w) same

no_stop : (value : ℕ) → ◌≢◌ {A = Result ℕ Stop} (Ok value) (Err stop.EndOfInput)
no_stop value = λ e. absurd cc

no_reply_stop : (value : Reply) → ◌≢◌ {A = Result Reply Stop} (Ok value) (Err stop.EndOfInput)
no_reply_stop value = λ e. absurd cc

stopped : (outcome : Result ℕ Stop) (result : Result Reply Stop) → result ≡ answered outcome → result ≡ Err stop.EndOfInput → outcome ≡ Err stop.EndOfInput
stopped (Ok value) result is e = absurd (no_reply_stop (reply.Value value) (sym is ∙ e))
stopped (Err why) result is e = let both : ◌≡◌ {A = Result Reply Stop} (Err why) (Err stop.EndOfInput) = sym is ∙ e in let same : why ≡ stop.EndOfInput = cc in ap (λ w. Err w) same

stopped_too : (outcome : Result ⊤ Stop) (result : Result Reply Stop) → result ≡ nothing_answered outcome → result ≡ Err stop.EndOfInput → outcome ≡ Err stop.EndOfInput
stopped_too (Ok done) result is e = absurd (no_reply_stop (reply.Value 0) (sym is ∙ e))
stopped_too (Err why) result is e = let both : ◌≡◌ {A = Result Reply Stop} (Err why) (Err stop.EndOfInput) = sym is ∙ e in let same : why ≡ stop.EndOfInput = cc in ap (λ w. Err w) same

any_fed : (input : List ℕ) (old new : Screen) (outcome : Result ℕ Stop) → old.dialog.input ≡ input → TakesAny input old new outcome → IsFed outcome
any_fed [] old new outcome is h = λ e. no_stop 0 (sym h.0 ∙ e)
any_fed (byte ∷ input) old new outcome is h = λ e. absurd (let none = (subst (λ o. TakesRaw old new o) e h).0.0 in let no : byte ∷ input ≡ [] = sym is ∙ none in cc)

direct_fed : (asks : Bool) (old new : Screen) (byte : ℕ) (outcome : Result ℕ Stop) → Asked asks old new byte outcome → IsFed outcome
direct_fed true old new byte outcome h = any_fed old.dialog.input old new outcome refl h
direct_fed false old new byte outcome h = λ e. subst (λ o. PutsDirect old new byte o) e h

setting_fed : (call : SettingCall) (argument dma user new_dma new_user : ℕ) (outcome : Result ℕ Stop) → SettingAnswers call argument dma user new_dma new_user outcome → IsFed outcome
setting_fed call argument dma user new_dma new_user (Ok value) h = λ e. absurd cc
setting_fed call argument dma user new_dma new_user (Err why) h = λ e. set_fed call argument dma user (h.0 ∙ same_stop why e)

seen_stop : (old new : Cpu) (given : Result Reply Stop) (result : Result After Stop) → result ≡ Err stop.EndOfInput → CallerSees old new given result → given ≡ Err stop.EndOfInput
seen_stop old new (Ok (reply.Value value)) result e seen = absurd (let no : ◌≡◌ {A = Result After Stop} (Ok after.Return) (Err stop.EndOfInput) = sym seen.0 ∙ e in cc)
seen_stop old new (Ok reply.WarmBoot) result e seen = absurd (let no : ◌≡◌ {A = Result After Stop} (Ok after.WarmBoot) (Err stop.EndOfInput) = sym seen.0 ∙ e in cc)
seen_stop old new (Err why) result e seen = let both : ◌≡◌ {A = Result After Stop} (Err why) (Err stop.EndOfInput) = sym seen.0 ∙ e in let same : why ≡ stop.EndOfInput = cc in ap (λ w. Err w) same

input_stop : (old new : Screen) (cpu shown : Cpu) (outcome : Result ℕ Stop) (result : Result After Stop) → result ≡ Err stop.EndOfInput → InputAnswers old new cpu shown outcome result → outcome ≡ Err stop.EndOfInput
input_stop old new cpu shown (Ok byte) result e given = absurd (let no : ◌≡◌ {A = Result After Stop} (Ok after.Return) (Err stop.EndOfInput) = sym given.0 ∙ e in cc)
input_stop old new cpu shown (Err why) result e given = let both : ◌≡◌ {A = Result After Stop} (Err why) (Err stop.EndOfInput) = sym given.0 ∙ e in let same : why ≡ stop.EndOfInput = cc in ap (λ w. Err w) same

put_fed : (old new : Screen) (byte : ℕ) (outcome : Result ⊤ Stop) (result : Result After Stop) → result ≡ output_answered outcome → result ≡ Err stop.EndOfInput → PutsRaw old new byte outcome → ⊥
put_fed old new byte (Ok done) result is e puts = absurd (let no : ◌≡◌ {A = Result After Stop} (Ok after.Return) (Err stop.EndOfInput) = sym is ∙ e in cc)
put_fed old new byte (Err why) result is e puts =
    let both : ◌≡◌ {A = Result After Stop} (Err why) (Err stop.EndOfInput) = sym is ∙ e in let same : why ≡ stop.EndOfInput = cc in subst (λ w. PutsRaw old new byte (Err w)) same puts

came_stop : (answer : Result After Stop) (cpu : Cpu) (memory : List ℕ) (end : Option Why) (new : Machine) → end ≡ Some (why.Stopped stop.EndOfInput) → Comes answer cpu memory end new → answer ≡ Err stop.EndOfInput
came_stop (Ok after.Return) cpu memory end new e came = absurd (let no : ◌≡◌ {A = Option Why} None (Some (why.Stopped stop.EndOfInput)) = sym came.0 ∙ e in cc)
came_stop (Ok after.WarmBoot) cpu memory end new e came = absurd (let no : ◌≡◌ {A = Option Why} (Some why.Finished) (Some (why.Stopped stop.EndOfInput)) = sym came.0 ∙ e in cc)
came_stop (Err reason) cpu memory end new e came =
    let both : ◌≡◌ {A = Option Why} (Some (why.Stopped reason)) (Some (why.Stopped stop.EndOfInput)) = sym came.0 ∙ e in let same : reason ≡ stop.EndOfInput = cc in ap (λ w. Err w) same

no_call : (outcome : Step) → step_end outcome ≢ Some (why.Stopped stop.EndOfInput)
no_call step.Done = λ e. absurd cc
no_call step.Halted = λ e. absurd cc
no_call step.Undocumented = λ e. absurd cc

place_fed : (kind : DiskKind) (p : Position) → IsFed (place_judged kind p)
place_fed kind p = tested (is_bad kind p) (Err stop.BadFcb) (Ok tt) bad_fcb said_ok

sequential_fed : (kind : DiskKind) (fcb : List ℕ) → IsFed (sequential_judged kind fcb)
sequential_fed kind fcb = then_fed (file_judged fcb) (place_judged kind (place_of fcb)) (file_fed fcb) (place_fed kind (place_of fcb))

make_row_fed : (address : ℕ) (memory : List ℕ) (answer : Result ℕ DiskFault) → IsFed (make_answer address memory answer)
make_row_fed address memory (Ok k) = λ e. absurd cc
make_row_fed address memory (Err f) = make_fed address memory f

erase_row_fed : (answer : Result ℕ DiskFault) → IsFed (erase_answer answer)
erase_row_fed (Ok count) = λ e. absurd cc
erase_row_fed (Err f) = erase_fed f

rename_row_fed : (answer : Result ⊤ DiskFault) → IsFed (rename_answer answer)
rename_row_fed (Ok done) = λ e. absurd cc
rename_row_fed (Err f) = rename_fed f

module _ {S : Type 0} (sectors : S → Image) (faults : S → ℕ) where
  read_row_fed : (disk : Mounted S) (user dma address : ℕ) (old new : Position) (memory : List ℕ) (answer : Result (List ℕ) DiskFault) → IsFed (read_next sectors disk user dma address old new memory answer)
  read_row_fed disk user dma address old new memory (Ok bytes) = λ e. absurd cc
  read_row_fed disk user dma address old new memory (Err f) = read_fed memory f

  write_row_fed : (disk : Mounted S) (user address : ℕ) (old new : Position) (memory : List ℕ) (answer : Result ⊤ DiskFault) → IsFed (write_next sectors disk user address old new memory answer)
  write_row_fed disk user address old new memory (Ok done) = λ e. absurd cc
  write_row_fed disk user address old new memory (Err f) = write_fed memory f

  read_at_fed : (disk : Mounted S) (user dma address number : ℕ) (memory : List ℕ) (answer : Result (List ℕ) DiskFault) → IsFed (read_at sectors disk user dma address number memory answer)
  read_at_fed disk user dma address number memory (Ok bytes) = λ e. absurd cc
  read_at_fed disk user dma address number memory (Err f) = random_read_fed address number memory f

  write_at_fed : (disk : Mounted S) (user address number : ℕ) (memory : List ℕ) (answer : Result ⊤ DiskFault) → IsFed (write_at sectors disk user address number memory answer)
  write_at_fed disk user address number memory (Ok done) = λ e. absurd cc
  write_at_fed disk user address number memory (Err f) = random_write_fed address number memory f

  search_call_fed : (call : SearchCall) (argument : ℕ) (disk : Mounted S) (user dma : ℕ) (old new : Option Search) (before now : List ℕ) (result : Result ℕ Stop) → SearchAnswers sectors call argument disk user dma old new before now result → IsFed result
  search_call_fed searching.First argument disk user dma old new before now (Ok value) h = λ e. absurd cc
  search_call_fed searching.First argument disk user dma old new before now (Err why) h = λ e. sought_fed (fcb_at argument before) (h.0 ∙ same_stop why e)
  search_call_fed searching.Next argument disk user dma old new before now result h = λ e. no_stop _ (sym h.0 ∙ e)

  file_call_fed : (call : FileCall) (argument : ℕ) (old new : Mounted S) (user : ℕ) (before now : List ℕ) (result : Result ℕ Stop) → FileAnswers sectors faults call argument old new user before now result → IsFed result
  file_call_fed file.Open argument old new user before now result h =
      let fcb = fcb_at argument before in
      ends_fed (open_answer sectors old user argument before) before now result (then_fed (drive_judged fcb) _ (drive_fed fcb) (λ e. absurd cc)) h.1
  file_call_fed file.Close argument old new user before now result h =
      let fcb = fcb_at argument before in
      λ e. then_fed (file_judged fcb) (Ok (code_of (extent_entry sectors old user fcb))) (file_fed fcb) (λ e. absurd cc) (sym h.2 ∙ e)
  file_call_fed file.Erase argument old new user before now result h =
      let fcb = fcb_at argument before in
      let asked : Type 0 = (answer : Result ℕ DiskFault) × IsErased sectors faults old new user (name_of fcb) answer × (result ≡ erase_answer answer) in
      judged_fed (drive_judged fcb) old new before before result asked (drive_fed fcb) (λ (a : asked) e. erase_row_fed a.0 (sym a.2 ∙ e)) h.1
  file_call_fed file.Make argument old new user before now result h =
      let fcb = fcb_at argument before in
      let asked : Type 0 = (answer : Result ℕ DiskFault) × IsCreated sectors faults old new user (letters (name_of fcb)) answer × Ends (make_answer argument before answer) before now result in
      judged_fed (file_judged fcb) old new before now result asked (file_fed fcb) (λ (a : asked). ends_fed (make_answer argument before a.0) before now result (make_row_fed argument before a.0) a.2) h
  file_call_fed file.Rename argument old new user before now result h =
      let fcb = fcb_at argument before in
      let asked : Type 0 = (answer : Result ⊤ DiskFault) × IsRenamed sectors faults old new user (letters (name_of fcb)) (letters (new_name_of fcb)) answer × (result ≡ rename_answer answer) in
      judged_fed (names_judged fcb) old new before before result asked (names_fed fcb) (λ (a : asked) e. rename_row_fed a.0 (sym a.2 ∙ e)) h.1

  record_call_fed : (call : RecordCall) (argument : ℕ) (old new : Mounted S) (user dma : ℕ) (before now : List ℕ) (result : Result ℕ Stop) → RecordAnswers sectors faults call argument old new user dma before now result → IsFed result
  record_call_fed records.ReadNext argument old new user dma before now result h =
      let fcb = fcb_at argument before in
      let next = turned old.kind (place_of fcb) in
      let asked : Position → Type 0 = λ p. (answer : Result (List ℕ) DiskFault) × IsRecordRead sectors faults old new user (letters (name_of fcb)) (record_at old.kind p) answer × Ends (read_next sectors new user dma argument (place_of fcb) p before answer) before now result in
      judged_fed (sequential_judged old.kind fcb) old new before now result (InTurn next 1 old new before now result asked) (sequential_fed old.kind fcb)
      (in_turn_fed next 1 old new before now result asked (λ p (a : asked p). ends_fed (read_next sectors new user dma argument (place_of fcb) p before a.0) before now result (read_row_fed new user dma argument (place_of fcb) p before a.0) a.2)) h
  record_call_fed records.WriteNext argument old new user dma before now result h =
      let fcb = fcb_at argument before in
      let next = turned old.kind (place_of fcb) in
      let asked : Position → Type 0 = λ p. (answer : Result ⊤ DiskFault) × IsRecordWritten sectors faults old new user (letters (name_of fcb)) (record_at old.kind p) (bytes_at dma 128 before) answer × Ends (write_next sectors new user argument (place_of fcb) p before answer) before now result in
      judged_fed (sequential_judged old.kind fcb) old new before now result (InTurn next 2 old new before now result asked) (sequential_fed old.kind fcb)
      (in_turn_fed next 2 old new before now result asked (λ p (a : asked p). ends_fed (write_next sectors new user argument (place_of fcb) p before a.0) before now result (write_row_fed new user argument (place_of fcb) p before a.0) a.2)) h
  record_call_fed records.ReadRandom argument old new user dma before now result h =
      let fcb = fcb_at argument before in
      let asked : Type 0 = (answer : Result (List ℕ) DiskFault) × IsRecordRead sectors faults old new user (letters (name_of fcb)) (random_of fcb) answer × Ends (read_at sectors new user dma argument (random_of fcb) before answer) before now result in
      judged_fed (file_judged fcb) old new before now result (Within (can_have_record old.kind fcb) old new before now result asked) (file_fed fcb)
      (within_fed (can_have_record old.kind fcb) old new before now result asked (λ (a : asked). ends_fed (read_at sectors new user dma argument (random_of fcb) before a.0) before now result (read_at_fed new user dma argument (random_of fcb) before a.0) a.2)) h
  record_call_fed records.WriteRandom argument old new user dma before now result h =
      let fcb = fcb_at argument before in
      let asked : Type 0 = (answer : Result ⊤ DiskFault) × IsRecordWritten sectors faults old new user (letters (name_of fcb)) (random_of fcb) (bytes_at dma 128 before) answer × Ends (write_at sectors new user argument (random_of fcb) before answer) before now result in
      judged_fed (file_judged fcb) old new before now result (Within (can_have_record old.kind fcb) old new before now result asked) (file_fed fcb)
      (within_fed (can_have_record old.kind fcb) old new before now result asked (λ (a : asked). ends_fed (write_at sectors new user argument (random_of fcb) before a.0) before now result (write_at_fed new user argument (random_of fcb) before a.0) a.2)) h
  record_call_fed records.FileSize argument old new user dma before now result h =
      let fcb = fcb_at argument before in
      let size = file_size sectors old user (letters (name_of fcb)) in
      ends_fed (size_stored sectors old user argument before) before now result (then_fed (file_judged fcb) (size_stored_as argument before size) (file_fed fcb) (size_fed argument before size)) h.1
  record_call_fed records.SetRandom argument old new user dma before now result h =
      let fcb = fcb_at argument before in
      ends_fed (record_number_stored old.kind argument before) before now result (then_fed (file_judged fcb) _ (file_fed fcb) (λ e. absurd cc)) h.1

  -- ---- a step

  answer_lacks : (f : Function) (old : RunState S Dialog) (new : System S Dialog) (now : List ℕ) (result : Result Reply Stop) → result ≡ Err stop.EndOfInput
      → Answers sectors faults (λ (d : Dialog). d) f (de old.machine.cpu.main) old.system new old.machine.memory now result → CallLacks (Some f) old
  answer_lacks function.SystemReset old new now result e h = absurd (no_reply_stop reply.WarmBoot (sym h.2 ∙ e))
  answer_lacks (function.Console console.Input) old new now result e (kept, (same, (outcome, is, speaks))) =
      let s = screen (λ (d : Dialog). d) old.system.terminal in
      (subst (λ o. Speaks s (screen (λ (d : Dialog). d) new.terminal) (taken_talk s) o) (stopped outcome result is e) speaks).0
  answer_lacks (function.Console console.Output) old new now result e (kept, (same, (outcome, is, speaks))) =
      let s = screen (λ (d : Dialog). d) old.system.terminal in
      absurd (said_ok (subst (λ o. Speaks s (screen (λ (d : Dialog). d) new.terminal) (put_talk s (de old.machine.cpu.main % 256)) o) (stopped_too outcome result is e) speaks).0)
  answer_lacks (function.Console console.Direct) old new now result e (kept, (same, (outcome, is, directs))) =
      absurd (direct_fed (de old.machine.cpu.main % 256 == 0xFF) (screen (λ (d : Dialog). d) old.system.terminal) (screen (λ (d : Dialog). d) new.terminal) (de old.machine.cpu.main % 256) outcome directs (stopped outcome result is e))
  answer_lacks (function.Console console.PrintString) old new now result e (kept, (same, (outcome, is, speaks))) =
      let s = screen (λ (d : Dialog). d) old.system.terminal in
      absurd (said_ok (subst (λ o. Speaks s (screen (λ (d : Dialog). d) new.terminal) (printed s (de old.machine.cpu.main) old.machine.memory) o) (stopped_too outcome result is e) speaks).0)
  answer_lacks (function.Console console.ReadLine) old new now result e (kept, reads) =
      let s = screen (λ (d : Dialog). d) old.system.terminal in
      (subst (λ r. ReadsLine (typed_line (line_room old) s) (de old.machine.cpu.main) s (screen (λ (d : Dialog). d) new.terminal) old.machine.memory now r) e reads).1
  answer_lacks (function.Console console.Status) old new now result e (kept, (same, still, is)) = absurd (no_reply_stop _ (sym is ∙ e))
  answer_lacks (function.Setting call) old new now result e (kept, same, (outcome, is, set)) =
      absurd (setting_fed call (de old.machine.cpu.main) old.system.dma old.system.user new.dma new.user outcome set (stopped outcome result is e))
  answer_lacks (function.Search call) old new now result e (kept, (outcome, is, h)) =
      absurd (search_call_fed call (de old.machine.cpu.main) old.system.disk old.system.user old.system.dma old.system.search new.search old.machine.memory now outcome h (stopped outcome result is e))
  answer_lacks (function.File call) old new now result e (kept, (outcome, is, h)) =
      absurd (file_call_fed call (de old.machine.cpu.main) old.system.disk new.disk old.system.user old.machine.memory now outcome h (stopped outcome result is e))
  answer_lacks (function.Record call) old new now result e (kept, (outcome, is, h)) =
      absurd (record_call_fed call (de old.machine.cpu.main) old.system.disk new.disk old.system.user old.system.dma old.machine.memory now outcome h (stopped outcome result is e))

  call_lacks : (f : Option Function) (old : RunState S Dialog) (new : System S Dialog) (shown : Cpu) (now : List ℕ) (result : Result After Stop) → result ≡ Err stop.EndOfInput
      → KnownAnswers sectors faults (λ (d : Dialog). d) f old.system new old.machine.cpu shown old.machine.memory now result → CallLacks f old
  call_lacks None old new shown now result e h = absurd (let no : ◌≡◌ {A = Result After Stop} (Err (stop.UnsupportedFunction old.machine.cpu.main.c)) (Err stop.EndOfInput) = sym h.0 ∙ e in cc)
  call_lacks (Some f) old new shown now result e (given, answers, seen) = answer_lacks f old new now given (seen_stop old.machine.cpu shown given result e seen) answers

  entry_lacks : (entry : Option BiosEntry) (n : ℕ) (old : RunState S Dialog) (new : System S Dialog) (shown : Cpu) (result : Result After Stop) → result ≡ Err stop.EndOfInput
      → KnownEntry (λ (d : Dialog). d) entry old.system new n old.machine.cpu shown result → EntryLacks entry old
  entry_lacks None n old new shown result e h = absurd (let no : ◌≡◌ {A = Result After Stop} (Err (stop.UnsupportedBios n)) (Err stop.EndOfInput) = sym h.0 ∙ e in cc)
  entry_lacks (Some bios.ConsoleStatus) n old new shown result e (kept, (same, is, shows)) = absurd (let no : ◌≡◌ {A = Result After Stop} (Ok after.Return) (Err stop.EndOfInput) = sym is ∙ e in cc)
  entry_lacks (Some bios.ConsoleInput) n old new shown result e (kept, (outcome, takes, given)) =
      let s = screen (λ (d : Dialog). d) old.system.terminal in
      let t = screen (λ (d : Dialog). d) new.terminal in
      (subst (λ o. TakesRaw s t o) (input_stop s t old.machine.cpu shown outcome result e given) takes).0.0
  entry_lacks (Some bios.ConsoleOutput) n old new shown result e (kept, (outcome, puts, is, shows)) =
      absurd (put_fed (screen (λ (d : Dialog). d) old.system.terminal) (screen (λ (d : Dialog). d) new.terminal) old.machine.cpu.main.c outcome result is e puts)

  lacked_at : (place : Place) (old new : RunState S Dialog) (end : Option Why) → end ≡ Some (why.Stopped stop.EndOfInput) → TurnAt sectors faults (λ (d : Dialog). d) place old end new → LacksAt place old
  lacked_at Call old new end e (answer, cpu, memory, answers, came) =
      call_lacks (function_of old.machine.cpu.main.c) old new.system cpu memory answer (came_stop answer cpu memory end new.machine e came) answers
  lacked_at (Entry n) old new end e (answer, cpu, answers, came) =
      entry_lacks (bios_entry_of n) n old new.system cpu answer (came_stop answer cpu old.machine.memory end new.machine e came) answers
  lacked_at Program old new end e (outcome, steps, same, is) = absurd (no_call outcome (sym is ∙ e))

  -- A step that ends the run for want of input lacked it.
  pub lacked : (old new : RunState S Dialog) (end : Option Why) → end ≡ Some (why.Stopped stop.EndOfInput) → IsTurn sectors faults (λ (d : Dialog). d) old end new → LacksInput old
  lacked old new end e turn = lacked_at (place_at_pc old.machine.cpu.pc) old new end e turn
