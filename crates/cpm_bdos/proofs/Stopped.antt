-- What a stop leaves as it was.
use Rattle.std.proofs.Common.{◌≡◌, ℕ, Bool, true, false, List, Option, Some, None, Result, Ok, Err, ap}
use Rattle.cpm_console.specs.Dialog.{Dialog}
use Rattle.cpm_console.specs.Line.{Transcript}
use Rattle.cpm_console.specs.Screen.{Screen}
use Rattle.cpm_disk.specs.Calls.{Mounted}
use Rattle.cpm_disk.specs.Image.{Image}
use Rattle.cpm_bdos.specs.Console.Lines.{ReadsLine}
use Rattle.cpm_bdos.specs.declared.console.reply.Reply.TheVariants.{Value, WarmBoot}
use Rattle.cpm_image.specs.declared.directory.fault.DiskFault.{DiskFault}
use Rattle.cpm_image.specs.Directory.Letters.{letters}
use Rattle.cpm_disk.specs.Operations.{IsCreated, IsRecordRead, IsRecordWritten}
use Rattle.cpm_disk.specs.Control.Bytes.{bytes_at}
use Rattle.cpm_disk.specs.Control.Fcbs.{fcb_at, file_judged, name_of, random_of}
use Rattle.cpm_disk.specs.Control.Stops.{Ends, Unless}
use Rattle.cpm_bdos.specs.Files.Changes.{make_answer}
use Rattle.cpm_disk.specs.declared.control.stop.Stop.{Stop}
use Rattle.cpm_disk.specs.declared.control.stop.Stop.TheVariants as stop
use Rattle.std.specs.Prelude.{⊤}
use Rattle.cpm_bdos.specs.declared.files.search.Search.{Search}
use Rattle.cpm_bdos.specs.Records.Random.{Within, can_have_record, read_at, write_at}
use Rattle.cpm_bdos.specs.Records.Sequential.{InTurn, read_next, sequential_judged, write_next}
use Rattle.cpm_bdos.specs.Records.Places.{place_of, record_at, turned}
use Rattle.cpm_bdos.specs.declared.records.place.Place.{Place}
use Rattle.cpm_bdos.specs.declared.function.Function.{Function}
use Rattle.cpm_bdos.specs.declared.function.Function.TheVariants as function
use Rattle.cpm_bdos.specs.declared.function.ConsoleCall.{ConsoleCall}
use Rattle.cpm_bdos.specs.declared.function.ConsoleCall.TheVariants as console
use Rattle.cpm_bdos.specs.declared.function.SearchCall.{SearchCall}
use Rattle.cpm_bdos.specs.declared.function.SearchCall.TheVariants as searching
use Rattle.cpm_bdos.specs.declared.function.FileCall.{FileCall}
use Rattle.cpm_bdos.specs.declared.function.FileCall.TheVariants as file
use Rattle.cpm_bdos.specs.declared.function.RecordCall.{RecordCall}
use Rattle.cpm_bdos.specs.declared.function.RecordCall.TheVariants as records
use Rattle.cpm_bdos.specs.Answer.{Answers, ConsoleAnswers, FileAnswers, RecordAnswers, SearchAnswers, SettingAnswers, answered}
use Rattle.cpm_bdos.specs.System.{IsKeptAtStop, System}

unless_kept : {D : Type 0} (judged : Result ⊤ Stop) (old new : D) (before now : List ℕ) (why : Stop) (asked : Type 0) → (asked → now ≡ before) → Unless judged old new before now (Err why) asked → now ≡ before
unless_kept (Err e) old new before now why asked rest h = h.2
unless_kept (Ok go) old new before now why asked rest h = rest h

turn_kept : {D : Type 0} (next : Option Place) (full : ℕ) (old new : D) (before now : List ℕ) (why : Stop) (asked : Place → Type 0) → ((p : Place) → asked p → now ≡ before) → InTurn next full old new before now (Err why) asked → now ≡ before
turn_kept (Some p) full old new before now why asked rest h = rest p h
turn_kept None full old new before now why asked rest h = h.2

within_kept : {D : Type 0} (b : Bool) (old new : D) (before now : List ℕ) (why : Stop) (asked : Type 0) → (asked → now ≡ before) → Within b old new before now (Err why) asked → now ≡ before
within_kept true old new before now why asked rest h = rest h
within_kept false old new before now why asked rest h = h.2

line_kept : (t : Transcript) (argument : ℕ) (old new : Screen) (before now : List ℕ) (why : Stop) → ReadsLine t argument old new before now (Err why) → now ≡ before
line_kept t argument old new before now stop.EndOfInput h = h.2
line_kept t argument old new before now stop.ConsoleFault h = h.1
line_kept t argument old new before now (stop.UnsupportedFunction n) h = absurd h
line_kept t argument old new before now stop.FileReadOnly h = absurd h
line_kept t argument old new before now stop.BadFcb h = absurd h
line_kept t argument old new before now stop.DiskFault h = absurd h
line_kept t argument old new before now stop.UnknownDrive h = absurd h
line_kept t argument old new before now (stop.UnsupportedBios n) h = absurd h

console_kept : (call : ConsoleCall) (argument : ℕ) (old new : Screen) (before now : List ℕ) (why : Stop) → ConsoleAnswers call argument old new before now (Err why) → now ≡ before
console_kept console.Input argument old new before now why h = h.0
console_kept console.Output argument old new before now why h = h.0
console_kept console.Direct argument old new before now why h = h.0
console_kept console.PrintString argument old new before now why h = h.0
console_kept console.ReadLine argument old new before now why h = line_kept _ argument old new before now why h
console_kept console.Status argument old new before now why h = h.0

file_kept : {S : Type 0} (sectors : S → Image) (faults : S → ℕ) (call : FileCall) (argument : ℕ) (old new : Mounted S) (user : ℕ) (before now : List ℕ) (why : Stop)
    → FileAnswers sectors faults call argument old new user before now (Err why) → now ≡ before
file_kept sectors faults file.Open argument old new user before now why h = h.1.1
file_kept sectors faults file.Close argument old new user before now why h = h.1
file_kept sectors faults file.Erase argument old new user before now why h = h.0
file_kept sectors faults file.Make argument old new user before now why h =
    let fcb = fcb_at argument before in
    let asked : Type 0 = (reply : Result ℕ DiskFault) × IsCreated sectors faults old new user (letters (name_of fcb)) reply × Ends (make_answer argument before reply) before now (Err why) in
    unless_kept (file_judged fcb) old new before now why asked (λ (a : asked). a.2.1) h
file_kept sectors faults file.Rename argument old new user before now why h = h.0

record_kept : {S : Type 0} (sectors : S → Image) (faults : S → ℕ) (call : RecordCall) (argument : ℕ) (old new : Mounted S) (user dma : ℕ) (before now : List ℕ) (why : Stop)
    → RecordAnswers sectors faults call argument old new user dma before now (Err why) → now ≡ before
record_kept sectors faults records.ReadNext argument old new user dma before now why h =
    let fcb = fcb_at argument before in
    let next = turned old.kind (place_of fcb) in
    let asked : Place → Type 0 = λ p. (reply : Result (List ℕ) DiskFault) × IsRecordRead sectors faults old new user (letters (name_of fcb)) (record_at old.kind p) reply × Ends (read_next sectors new user dma argument (place_of fcb) p before reply) before now (Err why) in
    unless_kept (sequential_judged old.kind fcb) old new before now why (InTurn next 1 old new before now (Err why) asked)
    (turn_kept next 1 old new before now why asked (λ p (a : asked p). a.2.1)) h
record_kept sectors faults records.WriteNext argument old new user dma before now why h =
    let fcb = fcb_at argument before in
    let next = turned old.kind (place_of fcb) in
    let asked : Place → Type 0 = λ p. (reply : Result ⊤ DiskFault) × IsRecordWritten sectors faults old new user (letters (name_of fcb)) (record_at old.kind p) (bytes_at dma 128 before) reply × Ends (write_next sectors new user argument (place_of fcb) p before reply) before now (Err why) in
    unless_kept (sequential_judged old.kind fcb) old new before now why (InTurn next 2 old new before now (Err why) asked)
    (turn_kept next 2 old new before now why asked (λ p (a : asked p). a.2.1)) h
record_kept sectors faults records.ReadRandom argument old new user dma before now why h =
    let fcb = fcb_at argument before in
    let asked : Type 0 = (reply : Result (List ℕ) DiskFault) × IsRecordRead sectors faults old new user (letters (name_of fcb)) (random_of fcb) reply × Ends (read_at sectors new user dma argument (random_of fcb) before reply) before now (Err why) in
    unless_kept (file_judged fcb) old new before now why (Within (can_have_record old.kind fcb) old new before now (Err why) asked)
    (within_kept (can_have_record old.kind fcb) old new before now why asked (λ (a : asked). a.2.1)) h
record_kept sectors faults records.WriteRandom argument old new user dma before now why h =
    let fcb = fcb_at argument before in
    let asked : Type 0 = (reply : Result ⊤ DiskFault) × IsRecordWritten sectors faults old new user (letters (name_of fcb)) (random_of fcb) (bytes_at dma 128 before) reply × Ends (write_at sectors new user argument (random_of fcb) before reply) before now (Err why) in
    unless_kept (file_judged fcb) old new before now why (Within (can_have_record old.kind fcb) old new before now (Err why) asked)
    (within_kept (can_have_record old.kind fcb) old new before now why asked (λ (a : asked). a.2.1)) h
record_kept sectors faults records.FileSize argument old new user dma before now why h = h.1.1
record_kept sectors faults records.SetRandom argument old new user dma before now why h = h.1.1

search_kept : {S : Type 0} (sectors : S → Image) (call : SearchCall) (argument : ℕ) (disk : Mounted S) (user dma : ℕ) (old new : Option Search) (before now : List ℕ) (why : Stop)
    → SearchAnswers sectors call argument disk user dma old new before now (Err why) → (new ≡ old) × (now ≡ before)
search_kept sectors searching.First argument disk user dma old new before now why h = (h.1, h.2)
search_kept sectors searching.Next argument disk user dma old new before now why h =
    absurd (let e : Err why ≡ Ok _ = h.0 in cc)

-- If a function stops, the memory, the DMA address, the user and the search are as before.
pub answer_kept : {S C : Type 0} (sectors : S → Image) (faults : S → ℕ) (dialog : C → Dialog) (f : Function) (argument : ℕ) (old new : System S C) (before now : List ℕ) (why : Stop)
    → Answers sectors faults dialog f argument old new before now (Err why) → IsKeptAtStop old new before now
answer_kept sectors faults dialog function.SystemReset argument old new before now why h = absurd (let e : Err why ≡ Ok WarmBoot = h.2 in cc)
answer_kept sectors faults dialog (function.Console call) argument old new before now why h = record {
  memory = console_kept call argument _ _ before now why h.1;
  dma = ap (λ s. s.dma) h.0;
  user = ap (λ s. s.user) h.0;
  search = ap (λ s. s.search) h.0;
}
answer_kept {S} {C} sectors faults dialog (function.Setting call) argument old new before now why h = by_setting h.2.0 h.2.1 h.2.2 where
  by_setting : (outcome : Result ℕ Stop) → Err why ≡ answered outcome → SettingAnswers call argument old.dma old.user new.dma new.user outcome → IsKeptAtStop old new before now
  by_setting (Ok value) e set = absurd (let no_stop : Err why ≡ Ok (Value value) = e in cc)
  by_setting (Err other) e set = record { memory = h.1; dma = set.1; user = set.2; search = ap (λ s. s.search) h.0 }
answer_kept sectors faults dialog (function.Search call) argument old new before now why h = by_search h.1.0 h.1.1 h.1.2 where
  by_search : (outcome : Result ℕ Stop) → Err why ≡ answered outcome → SearchAnswers sectors call argument old.disk old.user old.dma old.search new.search before now outcome → IsKeptAtStop old new before now
  by_search (Ok value) e sought = absurd (let no_stop : Err why ≡ Ok (Value value) = e in cc)
  by_search (Err other) e sought =
      let kept = search_kept sectors call argument old.disk old.user old.dma old.search new.search before now other sought in
      record { memory = kept.1; dma = ap (λ s. s.dma) h.0; user = ap (λ s. s.user) h.0; search = kept.0 }
answer_kept sectors faults dialog (function.File call) argument old new before now why h = by_file h.1.0 h.1.1 h.1.2 where
  by_file : (outcome : Result ℕ Stop) → Err why ≡ answered outcome → FileAnswers sectors faults call argument old.disk new.disk old.user before now outcome → IsKeptAtStop old new before now
  by_file (Ok value) e done = absurd (let no_stop : Err why ≡ Ok (Value value) = e in cc)
  by_file (Err other) e done =
      record { memory = file_kept sectors faults call argument old.disk new.disk old.user before now other done; dma = ap (λ s. s.dma) h.0; user = ap (λ s. s.user) h.0; search = ap (λ s. s.search) h.0 }
answer_kept sectors faults dialog (function.Record call) argument old new before now why h = by_record h.1.0 h.1.1 h.1.2 where
  by_record : (outcome : Result ℕ Stop) → Err why ≡ answered outcome → RecordAnswers sectors faults call argument old.disk new.disk old.user old.dma before now outcome → IsKeptAtStop old new before now
  by_record (Ok value) e done = absurd (let no_stop : Err why ≡ Ok (Value value) = e in cc)
  by_record (Err other) e done =
      record { memory = record_kept sectors faults call argument old.disk new.disk old.user old.dma before now other done; dma = ap (λ s. s.dma) h.0; user = ap (λ s. s.user) h.0; search = ap (λ s. s.search) h.0 }
