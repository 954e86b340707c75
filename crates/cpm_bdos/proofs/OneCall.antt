-- Two calls of systems that look alike answer the same and leave systems that look alike.
use Rattle.std.proofs.Common.{◌≡◌, ◌<◌, ◌%◌, ◌==◌, ℕ, Bool, true, false, List, [], ◌∷◌, map, slice_index, Option, Some, None, Result, Ok, Err, refl, sym, ap, subst, ◌∙◌, arith}
use Rattle.std.specs.Prelude.{⊤, if◌then◌else◌}
use Rattle.z80_cpu.specs.State.{de}
use Rattle.z80_cpu.specs.declared.registers.Cpu.{Cpu}
use Rattle.cpm_console.specs.Dialog.{Dialog, Put}
use Rattle.cpm_console.specs.Line.{line_transcript, typed_line}
use Rattle.cpm_console.specs.Screen.{Screen, screen}
use Rattle.cpm_console.specs.Text.{before_dollar, bytes_from, text_shown}
use Rattle.cpm_image.specs.declared.directory.entry.TheConstants.{USERS}
use Rattle.cpm_image.specs.Directory.Letters.{letters}
use Rattle.cpm_image.specs.Directory.Rules.{IsSound}
use Rattle.cpm_disk.specs.Calls.{Mounted}
use Rattle.cpm_disk.specs.Image.{Image, directory}
use Rattle.cpm_disk.specs.Control.Bytes.{memory_byte}
use Rattle.cpm_disk.specs.Control.Fcbs.{drive_judged, fcb_at, file_judged, name_of}
use Rattle.cpm_disk.specs.Control.Files.{entry_found, with_entry}
use Rattle.cpm_disk.specs.Control.Stops.{done, unless_stopped}
use Rattle.cpm_disk.specs.declared.control.stop.Stop.{Stop}
use Rattle.cpm_disk.specs.declared.control.stop.Stop.TheVariants as stop
use Rattle.cpm_bdos.specs.Alike.{AlikeDisks, AlikeScreens, AlikeSystems, HasNotFailed, SameImage}
use Rattle.cpm_bdos.specs.Answer.{Answers, CallerSees, ConsoleAnswers, EntryAnswers, FileAnswers, InputAnswers, KnownAnswers, KnownEntry, RecordAnswers, SearchAnswers, SettingAnswers, answered, nothing_answered, output_answered, with_accumulator, with_value}
use Rattle.cpm_bdos.specs.Console.Raw.{readiness}
use Rattle.cpm_bdos.specs.Console.Texts.{printed, put_talk, taken_from, taken_talk, talk}
use Rattle.cpm_bdos.specs.Files.Opening.{code_of, extent_entry, fcb_extent_number, open_answer, open_pattern}
use Rattle.cpm_bdos.specs.Files.Searching.{search_answer, sought_by, with_searched}
use Rattle.cpm_bdos.specs.Records.Numbers.{record_number_stored, size_stored, size_stored_as}
use Rattle.cpm_bdos.specs.Settings.{set_by, settings}
use Rattle.cpm_bdos.specs.System.{System}
use Rattle.cpm_bdos.specs.declared.console.reply.Reply.{Reply}
use Rattle.cpm_bdos.specs.declared.console.reply.Reply.TheVariants as reply
use Rattle.cpm_bdos.specs.declared.files.search.Search.{Search}
use Rattle.cpm_bdos.specs.declared.function.BiosEntry.{BiosEntry}
use Rattle.cpm_bdos.specs.declared.function.BiosEntry.TheVariants as bios
use Rattle.cpm_bdos.specs.declared.function.Function.{Function}
use Rattle.cpm_bdos.specs.declared.function.Function.TheVariants as function
use Rattle.cpm_bdos.specs.declared.function.ConsoleCall.{ConsoleCall}
use Rattle.cpm_bdos.specs.declared.function.ConsoleCall.TheVariants as console
use Rattle.cpm_bdos.specs.declared.function.FileCall.{FileCall}
use Rattle.cpm_bdos.specs.declared.function.FileCall.TheVariants as file
use Rattle.cpm_bdos.specs.declared.function.RecordCall.{RecordCall}
use Rattle.cpm_bdos.specs.declared.function.RecordCall.TheVariants as records
use Rattle.cpm_bdos.specs.declared.function.SearchCall.{SearchCall}
use Rattle.cpm_bdos.specs.declared.function.SearchCall.TheVariants as searching
use Rattle.cpm_bdos.specs.declared.function.SettingCall.{SettingCall}
use Rattle.cpm_bdos.specs.declared.function.SettingCall.TheVariants as setting
use Rattle.cpm_bdos.specs.declared.outcome.After.{After}
use Rattle.cpm_bdos.specs.declared.outcome.After.TheVariants as after
use Rattle.cpm_bdos.specs.declared.setting.Settings.{Settings}
use Rattle.cpm_bdos.proofs.OneDisk.{alike_as, beside}
use Rattle.cpm_bdos.proofs.OneFile.{as_beside, one_end, one_erase, one_made, one_read_at, one_read_next, one_rename, one_write_at, one_write_next, same_entry, same_extent, same_found, same_search, same_searched, same_size, same_with_searched}
use Rattle.cpm_bdos.proofs.OneScreen.{one_direct, one_line, one_put, one_raw, one_talk, alike_as as alike_screens}

-- the outcome of a call that did not fail
outcome_good : (outcome : Result ℕ Stop) (r : Result Reply Stop) → r ≡ answered outcome → HasNotFailed r → HasNotFailed outcome
outcome_good outcome r is good = (λ e. good.0 (is ∙ ap answered e), λ e. good.1 (is ∙ ap answered e))

done_good : (outcome : Result ⊤ Stop) (r : Result Reply Stop) → r ≡ nothing_answered outcome → HasNotFailed r → HasNotFailed outcome
done_good outcome r is good = (λ e. good.0 (is ∙ ap nothing_answered e), λ e. good.1 (is ∙ ap nothing_answered e))

one_console : (viewed : Option (List ℕ × List ℕ)) (call : ConsoleCall) (argument : ℕ) (a b x y : Screen) (before now left : List ℕ) (r s : Result Reply Stop) → AlikeScreens viewed a b → HasNotFailed r → HasNotFailed s
    → ConsoleAnswers call argument a x before now r → ConsoleAnswers call argument b y before left s → (s ≡ r) × (left ≡ now) × AlikeScreens viewed x y
one_console viewed console.Input argument a b x y before now left r s alike good fine one two =
    let talks : taken_talk b ≡ taken_talk a = ap (λ c. taken_from c b.dialog.input) alike.column ∙ ap (taken_from a.column) alike.dialog.input in
    let both = one_talk viewed a b x y (taken_talk a) (taken_talk b) one.1.0 two.1.0 alike talks (outcome_good one.1.0 r one.1.1 good) (outcome_good two.1.0 s two.1.1 fine) one.1.2 two.1.2 in
    (two.1.1 ∙ ap answered both.0 ∙ sym one.1.1, two.0 ∙ sym one.0, both.1)
one_console viewed console.Output argument a b x y before now left r s alike good fine one two =
    let talks : put_talk b (argument % 256) ≡ put_talk a (argument % 256) = ap (λ c. talk (map Put (text_shown c (argument % 256 ∷ []))) (Ok tt)) alike.column in
    let both = one_talk viewed a b x y (put_talk a (argument % 256)) (put_talk b (argument % 256)) one.1.0 two.1.0 alike talks (done_good one.1.0 r one.1.1 good) (done_good two.1.0 s two.1.1 fine) one.1.2 two.1.2 in
    (two.1.1 ∙ ap nothing_answered both.0 ∙ sym one.1.1, two.0 ∙ sym one.0, both.1)
one_console viewed console.Direct argument a b x y before now left r s alike good fine one two =
    let both = one_direct viewed a b x y (argument % 256) one.1.0 two.1.0 alike (outcome_good one.1.0 r one.1.1 good) (outcome_good two.1.0 s two.1.1 fine) one.1.2 two.1.2 in
    (two.1.1 ∙ ap answered both.0 ∙ sym one.1.1, two.0 ∙ sym one.0, both.1)
one_console viewed console.PrintString argument a b x y before now left r s alike good fine one two =
    let talks : printed b argument before ≡ printed a argument before = ap (λ c. talk (map Put (text_shown c (before_dollar (bytes_from (slice_index before) argument 65536)))) (Ok tt)) alike.column in
    let both = one_talk viewed a b x y (printed a argument before) (printed b argument before) one.1.0 two.1.0 alike talks (done_good one.1.0 r one.1.1 good) (done_good two.1.0 s two.1.1 fine) one.1.2 two.1.2 in
    (two.1.1 ∙ ap nothing_answered both.0 ∙ sym one.1.1, two.0 ∙ sym one.0, both.1)
one_console viewed console.ReadLine argument a b x y before now left r s alike good fine one two =
    let room = memory_byte argument before in
    let lines : typed_line room b ≡ typed_line room a = ap (λ c. line_transcript room (record { bytes = []; start = c; column = c }) b.dialog.input) alike.column ∙ ap (line_transcript room (record { bytes = []; start = a.column; column = a.column })) alike.dialog.input in
    one_line viewed (typed_line room a) (typed_line room b) argument a b x y before now left r s alike lines good fine one two
one_console viewed console.Status argument a b x y before now left r s alike good fine one two = (
  two.2 ∙ ap (λ i. Ok (reply.Value (readiness i))) alike.dialog.input ∙ sym one.2,
  two.0 ∙ sym one.0,
  alike_screens viewed a b x y one.1 two.1 alike,
)

-- the user stays below 32
within_of : (y z : Settings) → y.user < USERS → ◌≡◌ {A = Result Settings Stop} (Ok y) (Ok z) → z.user < USERS
within_of y z low same = let e : y ≡ z = cc in subst (λ (v : Settings). v.user < USERS) e low

drive_within : (known : Bool) (dma user : ℕ) (z : Settings) → user < USERS → ◌≡◌ {A = Result Settings Stop} (if known then Ok (settings 0 dma user) else Err stop.UnknownDrive) (Ok z) → z.user < USERS
drive_within true dma user z low is = within_of (settings 0 dma user) z low is
drive_within false dma user z low is = absurd (let none : ◌≡◌ {A = Result Settings Stop} (Err stop.UnknownDrive) (Ok z) = is in cc)

user_within : (asks : Bool) (byte dma user : ℕ) → user < USERS → (if asks then settings user dma user else settings 0 dma (byte % 32)).user < USERS
user_within true byte dma user low = low
user_within false byte dma user low = omega arith

set_within : (call : SettingCall) (argument dma user : ℕ) (z : Settings) → user < USERS → set_by call argument dma user ≡ Ok z → z.user < USERS
set_within setting.Version argument dma user z low is = within_of (settings 0x0022 dma user) z low is
set_within setting.ResetDisks argument dma user z low is = within_of (settings 0 _ user) z low is
set_within setting.SelectDisk argument dma user z low is = drive_within (argument % 256 == 0) dma user z low is
set_within setting.LoginVector argument dma user z low is = within_of (settings 0x0001 dma user) z low is
set_within setting.CurrentDisk argument dma user z low is = within_of (settings 0 dma user) z low is
set_within setting.SetDma argument dma user z low is = within_of (settings 0 argument user) z low is
set_within setting.UserCode argument dma user z low is = within_of _ z (user_within (argument % 256 == 0xFF) (argument % 256) dma user low) is

-- functions 12, 13, 14, 24, 25, 26 and 32
one_setting : (call : SettingCall) (argument dma user d e u v : ℕ) (r s : Result ℕ Stop) → user < USERS → SettingAnswers call argument dma user d u r → SettingAnswers call argument dma user e v s → (s ≡ r) × (e ≡ d) × (v ≡ u) × (u < USERS)
one_setting call argument dma user d e u v (Ok a) (Ok b) low one two =
    let same : settings b e v ≡ settings a d u = both (settings b e v) (settings a d u) (sym two ∙ one) in
    (ap (λ (z : Settings). Ok z.value) same, ap (λ (z : Settings). z.dma) same, ap (λ (z : Settings). z.user) same, set_within call argument dma user (settings a d u) low one)
  where
    both : (y z : Settings) → ◌≡◌ {A = Result Settings Stop} (Ok y) (Ok z) → y ≡ z
    both y z e = cc
one_setting call argument dma user d e u v (Ok a) (Err why) low one two = absurd (let none : ◌≡◌ {A = Result Settings Stop} (Ok (settings a d u)) (Err why) = sym one ∙ two.0 in cc)
one_setting call argument dma user d e u v (Err why) (Ok b) low one two = absurd (let none : ◌≡◌ {A = Result Settings Stop} (Err why) (Ok (settings b e v)) = sym one.0 ∙ two in cc)
one_setting call argument dma user d e u v (Err why) (Err cause) low one two =
    (ap Err (both (sym two.0 ∙ one.0)), two.1 ∙ sym one.1, two.2 ∙ sym one.2, subst (λ k. k < USERS) (sym one.2) low)
  where
    both : ◌≡◌ {A = Result Settings Stop} (Err cause) (Err why) → cause ≡ why
    both e = cc

module _ {S : Type 0} (sectors : S → Image) (faults : S → ℕ) (old : Mounted S) (device : S) (same : SameImage old.kind (sectors old.device) (sectors device)) where
  -- functions 17 and 18
  one_search : (call : SearchCall) (argument user dma : ℕ) (last x y : Option Search) (before now left : List ℕ) (r s : Result ℕ Stop)
      → SearchAnswers sectors call argument old user dma last x before now r → SearchAnswers sectors call argument (beside old device) user dma last y before left s → (s ≡ r) × (left ≡ now) × (y ≡ x)
  one_search searching.Next argument user dma last x y before now left r s one two =
      let found : y ≡ x = two.1 ∙ same_search sectors old device same.entries_are last ∙ sym one.1 in
      (two.0 ∙ ap (λ f. Ok (search_answer f)) found ∙ sym one.0, two.2 ∙ ap (λ f. with_searched sectors (beside old device) dma f before) found ∙ same_with_searched sectors old device same.entries_are dma x before ∙ sym one.2, found)
  one_search searching.First argument user dma last x y before now left (Ok v) (Ok w) one two =
      let found : y ≡ x = two.1 ∙ same_searched sectors old device same.entries_are (sought_by (fcb_at argument before)) user 0 ∙ sym one.1 in
      (ap Ok (two.2 ∙ ap search_answer found ∙ sym one.2), two.3 ∙ ap (λ f. with_searched sectors (beside old device) dma f before) found ∙ same_with_searched sectors old device same.entries_are dma x before ∙ sym one.3, found)
  one_search searching.First argument user dma last x y before now left (Ok v) (Err why) one two = absurd (let none : ◌≡◌ {A = Result ⊤ Stop} (Ok tt) (Err why) = sym one.0 ∙ two.0 in cc)
  one_search searching.First argument user dma last x y before now left (Err why) (Ok w) one two = absurd (let none : ◌≡◌ {A = Result ⊤ Stop} (Err why) (Ok tt) = sym one.0 ∙ two.0 in cc)
  one_search searching.First argument user dma last x y before now left (Err why) (Err cause) one two =
      (ap Err (both (sym two.0 ∙ one.0)), two.2 ∙ sym one.2, two.1 ∙ sym one.1)
    where
      both : ◌≡◌ {A = Result ⊤ Stop} (Err cause) (Err why) → cause ≡ why
      both e = cc

  same_code : (user : ℕ) (fcb : List ℕ) → extent_entry sectors (beside old device) user fcb ≡ extent_entry sectors old user fcb
  same_code user fcb = rw (same_extent sectors old device same.entries_are user (letters (name_of fcb)) (fcb_extent_number old.kind fcb)) refl

  one_file : (call : FileCall) (argument : ℕ) (new there : Mounted S) (user : ℕ) (before now left : List ℕ) (r s : Result ℕ Stop) → IsSound old.kind (directory old.kind (sectors old.device)) → user < USERS → HasNotFailed r → HasNotFailed s
      → FileAnswers sectors faults call argument old new user before now r → FileAnswers sectors faults call argument (beside old device) there user before left s → (s ≡ r) × (left ≡ now) × AlikeDisks sectors new there
  one_file file.Open argument new there user before now left r s sound low good fine one two =
      let fcb = fcb_at argument before in
      let found = same_found sectors old device same.entries_are user (open_pattern fcb) 0 in
      let rows : open_answer sectors (beside old device) user argument before ≡ open_answer sectors old user argument before =
      ap (λ o. unless_stopped (drive_judged fcb) (done (code_of o) (with_entry sectors (beside old device) 1 argument o before))) found
      ∙ ap (λ m. unless_stopped (drive_judged fcb) (done (code_of (entry_found sectors old user (open_pattern fcb) 0)) m)) (same_entry sectors old device same.entries_are 1 argument _ _ before refl) in
      let both = one_end _ _ before now left r s rows one.1 two.1 in
      (both.0, both.1, alike_as sectors old (beside old device) new there (sym one.0) (sym two.0) (record { kind = refl; failed = refl; image = same; sound = sound }))
  one_file file.Close argument new there user before now left r s sound low good fine one two = (
    two.2 ∙ ap (λ o. unless_stopped (file_judged (fcb_at argument before)) (Ok (code_of o))) (same_code user (fcb_at argument before)) ∙ sym one.2,
    two.1 ∙ sym one.1,
    alike_as sectors old (beside old device) new there (sym one.0) (sym two.0) (record { kind = refl; failed = refl; image = same; sound = sound }),
  )
  one_file file.Erase argument new there user before now left r s sound low good fine one two =
      let both = one_erase sectors faults old new there device user before r s same sound low good fine argument one.1 two.1 in (both.0, two.0 ∙ sym one.0, both.2)
  one_file file.Make argument new there user before now left r s sound low good fine one two = one_made sectors faults old new there device user before now left r s same sound low good fine argument one two
  one_file file.Rename argument new there user before now left r s sound low good fine one two =
      let both = one_rename sectors faults old new there device user before r s same sound low good fine argument one.1 two.1 in (both.0, two.0 ∙ sym one.0, both.2)

  one_record : (call : RecordCall) (argument : ℕ) (new there : Mounted S) (user dma : ℕ) (before now left : List ℕ) (r s : Result ℕ Stop) → IsSound old.kind (directory old.kind (sectors old.device)) → user < USERS → HasNotFailed r → HasNotFailed s
      → RecordAnswers sectors faults call argument old new user dma before now r → RecordAnswers sectors faults call argument (beside old device) there user dma before left s → (s ≡ r) × (left ≡ now) × AlikeDisks sectors new there
  one_record records.ReadNext argument new there user dma before now left r s sound low good fine one two = one_read_next sectors faults old new there device user before now left r s same sound low good fine dma argument one two
  one_record records.WriteNext argument new there user dma before now left r s sound low good fine one two = one_write_next sectors faults old new there device user before now left r s same sound low good fine dma argument one two
  one_record records.ReadRandom argument new there user dma before now left r s sound low good fine one two = one_read_at sectors faults old new there device user before now left r s same sound low good fine dma argument one two
  one_record records.WriteRandom argument new there user dma before now left r s sound low good fine one two = one_write_at sectors faults old new there device user before now left r s same sound low good fine dma argument one two
  one_record records.FileSize argument new there user dma before now left r s sound low good fine one two =
      let fcb = fcb_at argument before in
      let rows : size_stored sectors (beside old device) user argument before ≡ size_stored sectors old user argument before =
      ap (λ o. unless_stopped (file_judged fcb) (size_stored_as argument before o)) (same_size sectors old device same.entries_are user (letters (name_of fcb))) in
      let both = one_end _ _ before now left r s rows one.1 two.1 in
      (both.0, both.1, alike_as sectors old (beside old device) new there (sym one.0) (sym two.0) (record { kind = refl; failed = refl; image = same; sound = sound }))
  one_record records.SetRandom argument new there user dma before now left r s sound low good fine one two =
      let both = one_end (record_number_stored old.kind argument before) (record_number_stored old.kind argument before) before now left r s refl one.1 two.1 in
      (both.0, both.1, alike_as sectors old (beside old device) new there (sym one.0) (sym two.0) (record { kind = refl; failed = refl; image = same; sound = sound }))

-- what an entry of the BIOS that takes a byte answers, and the registers after it
input_answer : Result ℕ Stop → Result After Stop
input_answer (Ok byte) = Ok after.Return
input_answer (Err why) = Err why

input_cpu : Cpu → Result ℕ Stop → Cpu
input_cpu cpu (Ok byte) = with_accumulator byte cpu
input_cpu cpu (Err why) = cpu

inputs : (a x : Screen) (cpu shown : Cpu) (outcome : Result ℕ Stop) (r : Result After Stop) → InputAnswers a x cpu shown outcome r → (r ≡ input_answer outcome) × (shown ≡ input_cpu cpu outcome)
unfolding input_answer input_cpu
inputs a x cpu shown (Ok byte) r h = h
inputs a x cpu shown (Err why) r h = h

input_good : (outcome : Result ℕ Stop) (r : Result After Stop) → r ≡ input_answer outcome → HasNotFailed r → HasNotFailed outcome
unfolding input_answer
input_good outcome r is good = (λ e. good.0 (is ∙ ap input_answer e), λ e. good.1 (is ∙ ap input_answer e))

output_good : (outcome : Result ⊤ Stop) (r : Result After Stop) → r ≡ output_answered outcome → HasNotFailed r → HasNotFailed outcome
output_good outcome r is good = (λ e. good.0 (is ∙ ap output_answered e), λ e. good.1 (is ∙ ap output_answered e))

one_entry : (viewed : Option (List ℕ × List ℕ)) (entry : BiosEntry) (a b x y : Screen) (cpu shown seen : Cpu) (r s : Result After Stop) → AlikeScreens viewed a b → HasNotFailed r → HasNotFailed s
    → EntryAnswers entry a x cpu shown r → EntryAnswers entry b y cpu seen s → (s ≡ r) × (seen ≡ shown) × AlikeScreens viewed x y
one_entry viewed bios.ConsoleStatus a b x y cpu shown seen r s alike good fine one two = (
  two.1 ∙ sym one.1,
  two.2 ∙ ap (λ i. with_accumulator (readiness i) cpu) alike.dialog.input ∙ sym one.2,
  alike_screens viewed a b x y one.0 two.0 alike,
)
one_entry viewed bios.ConsoleInput a b x y cpu shown seen r s alike good fine one two =
    let p = inputs a x cpu shown one.0 r one.2 in
    let q = inputs b y cpu seen two.0 s two.2 in
    let both = one_raw viewed a b x y one.0 two.0 alike (input_good one.0 r p.0 good) (input_good two.0 s q.0 fine) one.1 two.1 in
    (q.0 ∙ ap input_answer both.0 ∙ sym p.0, q.1 ∙ ap (input_cpu cpu) both.0 ∙ sym p.1, both.1)
one_entry viewed bios.ConsoleOutput a b x y cpu shown seen r s alike good fine one two =
    let both = one_put viewed a b x y cpu.main.c one.0 two.0 alike (output_good one.0 r one.2 good) (output_good two.0 s two.2 fine) one.1 two.1 in
    (two.2 ∙ ap output_answered both.0 ∙ sym one.2, two.3 ∙ sym one.3, both.1)

module _ {S C : Type 0} (sectors : S → Image) (faults : S → ℕ) (dialog : C → Dialog) (viewed : Option (List ℕ × List ℕ)) (old other new there : System S C) (alike : AlikeSystems sectors dialog viewed old other) where
  abbrev Same : {A : Type 0} → A → A → List ℕ → List ℕ → Type 0
  Same r s now left = (s ≡ r) × (left ≡ now) × AlikeSystems sectors dialog viewed new there

  disk_is : beside old.disk other.disk.device ≡ other.disk
  disk_is = as_beside sectors old.disk other.disk alike.disk

  -- what a call of the console leaves
  console_left : new ≡ record old { terminal = new.terminal } → there ≡ record other { terminal = there.terminal } → AlikeScreens viewed (screen dialog new.terminal) (screen dialog there.terminal) → AlikeSystems sectors dialog viewed new there
  console_left one two screens = record {
    disk = alike_as sectors old.disk other.disk new.disk there.disk (sym (ap (λ s. s.disk) one)) (sym (ap (λ s. s.disk) two)) alike.disk;
    screen = screens;
    dma = ap (λ s. s.dma) two ∙ alike.dma ∙ sym (ap (λ s. s.dma) one);
    user = ap (λ s. s.user) two ∙ alike.user ∙ sym (ap (λ s. s.user) one);
    search = ap (λ s. s.search) two ∙ alike.search ∙ sym (ap (λ s. s.search) one);
    within = subst (λ u. u < USERS) (sym (ap (λ s. s.user) one)) alike.within;
  }

  -- what a call of the disk leaves
  disk_left : new ≡ record old { disk = new.disk } → there ≡ record other { disk = there.disk } → AlikeDisks sectors new.disk there.disk → AlikeSystems sectors dialog viewed new there
  disk_left one two disks = record {
    disk = disks;
    screen = alike_screens viewed (screen dialog old.terminal) (screen dialog other.terminal) (screen dialog new.terminal) (screen dialog there.terminal) (ap (λ s. screen dialog s.terminal) one) (ap (λ s. screen dialog s.terminal) two) alike.screen;
    dma = ap (λ s. s.dma) two ∙ alike.dma ∙ sym (ap (λ s. s.dma) one);
    user = ap (λ s. s.user) two ∙ alike.user ∙ sym (ap (λ s. s.user) one);
    search = ap (λ s. s.search) two ∙ alike.search ∙ sym (ap (λ s. s.search) one);
    within = subst (λ u. u < USERS) (sym (ap (λ s. s.user) one)) alike.within;
  }

  pub one_function : (f : Function) (argument : ℕ) (before now left : List ℕ) (r s : Result Reply Stop) → HasNotFailed r → HasNotFailed s
      → Answers sectors faults dialog f argument old new before now r → Answers sectors faults dialog f argument other there before left s → Same r s now left
  one_function function.SystemReset argument before now left r s good fine one two =
      (two.2 ∙ sym one.2, two.1 ∙ sym one.1, subst (AlikeSystems sectors dialog viewed new) (sym two.0) (subst (λ m. AlikeSystems sectors dialog viewed m other) (sym one.0) alike))
  one_function (function.Console call) argument before now left r s good fine one two =
      let both = one_console viewed call argument (screen dialog old.terminal) (screen dialog other.terminal) (screen dialog new.terminal) (screen dialog there.terminal) before now left r s alike.screen good fine one.1 two.1 in
      (both.0, both.1, console_left one.0 two.0 both.2)
  one_function (function.Setting call) argument before now left r s good fine one two =
      let set = subst (λ d. SettingAnswers call argument d other.user there.dma there.user two.2.0) alike.dma two.2.2 in
      let both = one_setting call argument old.dma old.user new.dma there.dma new.user there.user one.2.0 two.2.0 alike.within one.2.2 (subst (λ u. SettingAnswers call argument old.dma u there.dma there.user two.2.0) alike.user set) in (
        two.2.1 ∙ ap answered both.0 ∙ sym one.2.1,
        two.1 ∙ sym one.1,
        record {
          disk = alike_as sectors old.disk other.disk new.disk there.disk (sym (ap (λ s. s.disk) one.0)) (sym (ap (λ s. s.disk) two.0)) alike.disk;
          screen = alike_screens viewed (screen dialog old.terminal) (screen dialog other.terminal) (screen dialog new.terminal) (screen dialog there.terminal) (ap (λ s. screen dialog s.terminal) one.0) (ap (λ s. screen dialog s.terminal) two.0) alike.screen;
          dma = both.1;
          user = both.2;
          search = ap (λ s. s.search) two.0 ∙ alike.search ∙ sym (ap (λ s. s.search) one.0);
          within = both.3;
        },
      )
  one_function (function.Search call) argument before now left r s good fine one two =
      let on_disk = subst (λ d. SearchAnswers sectors call argument d other.user other.dma other.search there.search before left two.1.0) (sym disk_is) two.1.2 in
      let by_user = subst (λ u. SearchAnswers sectors call argument (beside old.disk other.disk.device) u other.dma other.search there.search before left two.1.0) alike.user on_disk in
      let with_dma = subst (λ d. SearchAnswers sectors call argument (beside old.disk other.disk.device) old.user d other.search there.search before left two.1.0) alike.dma by_user in
      let last = subst (λ l. SearchAnswers sectors call argument (beside old.disk other.disk.device) old.user old.dma l there.search before left two.1.0) alike.search with_dma in
      let both = one_search sectors faults old.disk other.disk.device alike.disk.image call argument old.user old.dma old.search new.search there.search before now left one.1.0 two.1.0 one.1.2 last in (
        two.1.1 ∙ ap answered both.0 ∙ sym one.1.1,
        both.1,
        record {
          disk = alike_as sectors old.disk other.disk new.disk there.disk (sym (ap (λ s. s.disk) one.0)) (sym (ap (λ s. s.disk) two.0)) alike.disk;
          screen = alike_screens viewed (screen dialog old.terminal) (screen dialog other.terminal) (screen dialog new.terminal) (screen dialog there.terminal) (ap (λ s. screen dialog s.terminal) one.0) (ap (λ s. screen dialog s.terminal) two.0) alike.screen;
          dma = ap (λ s. s.dma) two.0 ∙ alike.dma ∙ sym (ap (λ s. s.dma) one.0);
          user = ap (λ s. s.user) two.0 ∙ alike.user ∙ sym (ap (λ s. s.user) one.0);
          search = both.2;
          within = subst (λ u. u < USERS) (sym (ap (λ s. s.user) one.0)) alike.within;
        },
      )
  one_function (function.File call) argument before now left r s good fine one two =
      let on_disk = subst (λ d. FileAnswers sectors faults call argument d there.disk other.user before left two.1.0) (sym disk_is) two.1.2 in
      let by_user = subst (λ u. FileAnswers sectors faults call argument (beside old.disk other.disk.device) there.disk u before left two.1.0) alike.user on_disk in
      let both = one_file sectors faults old.disk other.disk.device alike.disk.image call argument new.disk there.disk old.user before now left one.1.0 two.1.0 alike.disk.sound alike.within (outcome_good one.1.0 r one.1.1 good) (outcome_good two.1.0 s two.1.1 fine) one.1.2 by_user in
      (two.1.1 ∙ ap answered both.0 ∙ sym one.1.1, both.1, disk_left one.0 two.0 both.2)
  one_function (function.Record call) argument before now left r s good fine one two =
      let on_disk = subst (λ d. RecordAnswers sectors faults call argument d there.disk other.user other.dma before left two.1.0) (sym disk_is) two.1.2 in
      let by_user = subst (λ u. RecordAnswers sectors faults call argument (beside old.disk other.disk.device) there.disk u other.dma before left two.1.0) alike.user on_disk in
      let with_dma = subst (λ d. RecordAnswers sectors faults call argument (beside old.disk other.disk.device) there.disk old.user d before left two.1.0) alike.dma by_user in
      let both = one_record sectors faults old.disk other.disk.device alike.disk.image call argument new.disk there.disk old.user old.dma before now left one.1.0 two.1.0 alike.disk.sound alike.within (outcome_good one.1.0 r one.1.1 good) (outcome_good two.1.0 s two.1.1 fine) one.1.2 with_dma in
      (two.1.1 ∙ ap answered both.0 ∙ sym one.1.1, both.1, disk_left one.0 two.0 both.2)

  -- the answer of a call, and the registers after it
  seen_answer : Result Reply Stop → Result After Stop
  seen_answer (Ok (reply.Value value)) = Ok after.Return
  seen_answer (Ok reply.WarmBoot) = Ok after.WarmBoot
  seen_answer (Err why) = Err why

  seen_cpu : Cpu → Result Reply Stop → Cpu
  seen_cpu cpu (Ok (reply.Value value)) = with_value value cpu
  seen_cpu cpu (Ok reply.WarmBoot) = cpu
  seen_cpu cpu (Err why) = cpu

  sees : (cpu shown : Cpu) (r : Result Reply Stop) (result : Result After Stop) → CallerSees cpu shown r result → (result ≡ seen_answer r) × (shown ≡ seen_cpu cpu r)
  unfolding seen_answer seen_cpu
  sees cpu shown (Ok (reply.Value value)) result h = h
  sees cpu shown (Ok reply.WarmBoot) result h = h
  sees cpu shown (Err why) result h = h

  seen_good : (cpu shown : Cpu) (r : Result Reply Stop) (result : Result After Stop) → CallerSees cpu shown r result → HasNotFailed result → HasNotFailed r
  seen_good cpu shown (Ok v) result h good = (λ e. absurd (let none : ◌≡◌ {A = Result Reply Stop} (Ok v) (Err stop.DiskFault) = e in cc), λ e. absurd (let none : ◌≡◌ {A = Result Reply Stop} (Ok v) (Err stop.ConsoleFault) = e in cc))
  seen_good cpu shown (Err why) result h good = (λ e. good.0 (h.0 ∙ both stop.DiskFault e), λ e. good.1 (h.0 ∙ both stop.ConsoleFault e)) where
    both : (cause : Stop) → ◌≡◌ {A = Result Reply Stop} (Err why) (Err cause) → ◌≡◌ {A = Result After Stop} (Err why) (Err cause)
    both cause e = let same : why ≡ cause = cc in ap Err same

  pub one_known : (f : Option Function) (cpu shown seen : Cpu) (before now left : List ℕ) (r s : Result After Stop) → HasNotFailed r → HasNotFailed s
      → KnownAnswers sectors faults dialog f old new cpu shown before now r → KnownAnswers sectors faults dialog f other there cpu seen before left s
      → (s ≡ r) × (seen ≡ shown) × (left ≡ now) × AlikeSystems sectors dialog viewed new there
  one_known (Some f) cpu shown seen before now left r s good fine one two =
      let both = one_function f (de cpu.main) before now left one.0 two.0 (seen_good cpu shown one.0 r one.2 good) (seen_good cpu seen two.0 s two.2 fine) one.1 two.1 in
      let p = sees cpu shown one.0 r one.2 in
      let q = sees cpu seen two.0 s two.2 in
      (q.0 ∙ ap seen_answer both.0 ∙ sym p.0, q.1 ∙ ap (seen_cpu cpu) both.0 ∙ sym p.1, both.1, both.2)
  one_known None cpu shown seen before now left r s good fine one two =
      (two.0 ∙ sym one.0, two.2 ∙ sym one.2, two.3 ∙ sym one.3, subst (AlikeSystems sectors dialog viewed new) (sym two.1) (subst (λ m. AlikeSystems sectors dialog viewed m other) (sym one.1) alike))

  pub one_known_entry : (entry : Option BiosEntry) (number : ℕ) (cpu shown seen : Cpu) (r s : Result After Stop) → HasNotFailed r → HasNotFailed s
      → KnownEntry dialog entry old new number cpu shown r → KnownEntry dialog entry other there number cpu seen s
      → (s ≡ r) × (seen ≡ shown) × AlikeSystems sectors dialog viewed new there
  one_known_entry (Some entry) number cpu shown seen r s good fine one two =
      let both = one_entry viewed entry (screen dialog old.terminal) (screen dialog other.terminal) (screen dialog new.terminal) (screen dialog there.terminal) cpu shown seen r s alike.screen good fine one.1 two.1 in
      (both.0, both.1, console_left one.0 two.0 both.2)
  one_known_entry None number cpu shown seen r s good fine one two =
      (two.0 ∙ sym one.0, two.2 ∙ sym one.2, subst (AlikeSystems sectors dialog viewed new) (sym two.1) (subst (λ m. AlikeSystems sectors dialog viewed m other) (sym one.1) alike))
