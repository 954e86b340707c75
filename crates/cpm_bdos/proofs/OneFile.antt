-- A call on files of disks that look alike has one answer, leaves one memory, and leaves disks that look alike.
use Rattle.std.proofs.Common.{◌≡◌, ◌≢◌, ◌<◌, ◌≤◌, ◌+◌, ◌*◌, ◌/◌, ◌%◌, length-drop, length-take-le, ℕ, Bool, true, false, List, length, take, drop, replicate, position, Option, Some, None, Result, Ok, Err, refl, sym, ap, subst, ◌∙◌, arith}
use Rattle.std.specs.Prelude.{⊤, if◌then◌else◌}
use Rattle.std.proofs.lemmas.List.{length-map}
use Rattle.std.proofs.lemmas.List.FromFn.{length-map-range_with_len}
use Rattle.cpm_image.specs.declared.kind.DiskKind.{DiskKind}
use Rattle.cpm_image.specs.declared.directory.entry.Entry.{Entry}
use Rattle.cpm_image.specs.declared.directory.entry.TheConstants.{USERS}
use Rattle.cpm_image.specs.declared.directory.fault.DiskFault.{DiskFault}
use Rattle.cpm_image.specs.declared.directory.fault.DiskFault.TheVariants as fault
use Rattle.cpm_image.specs.declared.directory.pattern.Pattern.{Pattern}
use Rattle.cpm_image.specs.Directory.Entries.{at, bytes_of, is_extent_of}
use Rattle.cpm_image.specs.Directory.Letters.{letters}
use Rattle.cpm_image.specs.Directory.Rules.{IsSound}
use Rattle.cpm_image.specs.Directory.Searches.{found_from, size}
use Rattle.cpm_disk.specs.Calls.{Mounted}
use Rattle.cpm_image.proofs.EntryBytes.{letters-letters}
use Rattle.cpm_disk.specs.Image.{Image, directory}
use Rattle.cpm_disk.specs.Operations.{IsCreated, IsErased, IsRecordRead, IsRecordWritten, IsRenamed}
use Rattle.cpm_disk.specs.Control.Bytes.{bytes_at, memory_byte, with_bytes}
use Rattle.cpm_disk.specs.Control.Fcbs.{drive_judged, fcb_at, file_judged, name_of, names_judged, new_name_of, random_of}
use Rattle.cpm_disk.specs.Control.Files.{entry_bytes, entry_found, extent_found, file_size, with_entry}
use Rattle.cpm_disk.specs.Control.Stops.{Done, Ends, Unless, done}
use Rattle.cpm_disk.specs.declared.control.stop.Stop.{Stop}
use Rattle.cpm_disk.specs.declared.control.stop.Stop.TheVariants as stop
use Rattle.cpm_bdos.specs.Alike.{AlikeDisks, HasNotFailed, SameImage}
use Rattle.cpm_bdos.specs.Files.Changes.{ErasesFiles, Makes, RenamesFile, erase_answer, make_answer, rename_answer}
use Rattle.cpm_bdos.specs.Files.Searching.{next_found, next_search, searched, with_searched}
use Rattle.cpm_bdos.specs.Records.Entries.{with_extent_entry}
use Rattle.cpm_bdos.specs.Records.Places.{place_of, record_at, turned}
use Rattle.cpm_bdos.specs.Records.Random.{ReadsAt, Within, WritesAt, can_have_record, read_at, with_place_of, write_at}
use Rattle.cpm_bdos.specs.Records.Sequential.{InTurn, ReadsNext, WritesNext, read_next, sequential_judged, with_place, write_next}
use Rattle.cpm_bdos.specs.declared.records.place.Place.{Place}
use Rattle.cpm_bdos.specs.declared.files.search.Search.{Search}
use Rattle.cpm_bdos.specs.declared.files.search.Sought.{Sought}
use Rattle.cpm_bdos.specs.declared.files.search.Sought.TheVariants.{Every, Matching}
use Rattle.cpm_bdos.proofs.OneDisk.{IsAnswered, alike_as, beside, one_created, one_erased, one_read, one_renamed, one_written}

-- a call ends as its row says, so it has one answer and leaves one memory
pub one_end : (row other : Result Done Stop) (before now left : List ℕ) (r s : Result ℕ Stop) → other ≡ row → Ends row before now r → Ends other before left s → (s ≡ r) × (left ≡ now)
one_end row other before now left (Ok v) (Ok w) e one two = done_same v w now left (sym one ∙ sym e ∙ two) where
  done_same : (v w : ℕ) (now left : List ℕ) → done v now ≡ done w left → ◌≡◌ {A = Result ℕ Stop} (Ok w) (Ok v) × (left ≡ now)
  done_same v w now left same =
      let both : ◌≡◌ {A = Done} (record { value = v; memory = now }) (record { value = w; memory = left }) = cc in
      (sym (ap (λ (d : Done). Ok d.value) both), sym (ap (λ (d : Done). d.memory) both))
one_end row other before now left (Ok v) (Err why) e one two = absurd (let no : done v now ≡ Err why = sym one ∙ sym e ∙ two.0 in cc)
one_end row other before now left (Err why) (Ok w) e one two = absurd (let no : ◌≡◌ {A = Result Done Stop} (Err why) (done w left) = sym one.0 ∙ sym e ∙ two in cc)
one_end row other before now left (Err why) (Err cause) e one two =
    (err_same (sym two.0 ∙ e ∙ one.0), two.1 ∙ sym one.1)
  where
    err_same : ◌≡◌ {A = Result Done Stop} (Err cause) (Err why) → ◌≡◌ {A = Result ℕ Stop} (Err cause) (Err why)
    err_same same = let e : cause ≡ why = cc in ap Err e

-- The answers of questions to a disk depend on its format, whether it has failed, and its directory.
module _ {S : Type 0} (sectors : S → Image) (disk : Mounted S) (device : S) (same : directory disk.kind (sectors device) ≡ directory disk.kind (sectors disk.device)) where
  pub same_found : (user : ℕ) (pattern : Pattern) (from : ℕ) → entry_found sectors (beside disk device) user pattern from ≡ entry_found sectors disk user pattern from
  same_found user pattern from = ap (λ (es : List Entry). if disk.failed then None else found_from user pattern from es) same

  pub same_extent : (user : ℕ) (name : List ℕ) (number : ℕ) → extent_found sectors (beside disk device) user name number ≡ extent_found sectors disk user name number
  same_extent user name number = ap (λ (es : List Entry). if disk.failed then None else position (is_extent_of user name number) es) same

  pub same_bytes_of : (k : ℕ) → entry_bytes sectors (beside disk device) k ≡ entry_bytes sectors disk k
  same_bytes_of k = ap (λ (es : List Entry). if disk.failed then replicate 32 0xE5 else bytes_of (at es k)) same

  pub same_size : (user : ℕ) (name : List ℕ) → file_size sectors (beside disk device) user name ≡ file_size sectors disk user name
  same_size user name = ap (λ (es : List Entry). if disk.failed then None else size user name es) same

  pub same_entry : (offset address : ℕ) (found other : Option ℕ) (memory : List ℕ) → other ≡ found → with_entry sectors (beside disk device) offset address other memory ≡ with_entry sectors disk offset address found memory
  same_entry offset address found other memory e = ap (λ o. with_entry sectors (beside disk device) offset address o memory) e ∙ by_entry found where
    by_entry : (o : Option ℕ) → with_entry sectors (beside disk device) offset address o memory ≡ with_entry sectors disk offset address o memory
    by_entry None = refl
    by_entry (Some k) = ap (λ bytes. with_bytes (address + offset) (drop offset bytes) memory) (same_bytes_of k)

  pub same_extent_entry : (user : ℕ) (name : List ℕ) (number address : ℕ) (memory : List ℕ) → with_extent_entry sectors (beside disk device) user name number address memory ≡ with_extent_entry sectors disk user name number address memory
  same_extent_entry user name number address memory = same_entry 15 address _ _ memory (same_extent user name _)

  same_next : (sought : Sought) (user from : ℕ) → next_found sectors (beside disk device) sought user from ≡ next_found sectors disk sought user from
  same_next (Matching pattern) user from = same_found user pattern from
  same_next Every user from = refl

  pub same_searched : (sought : Sought) (user from : ℕ) → searched sectors (beside disk device) sought user from ≡ searched sectors disk sought user from
  same_searched sought user from = rw (same_next sought user from) refl

  pub same_search : (last : Option Search) → next_search sectors (beside disk device) last ≡ next_search sectors disk last
  same_search None = refl
  same_search (Some last) = same_searched last.sought last.user (last.found + 1)

  pub same_with_searched : (dma : ℕ) (search : Option Search) (memory : List ℕ) → with_searched sectors (beside disk device) dma search memory ≡ with_searched sectors disk dma search memory
  same_with_searched dma None memory = refl
  same_with_searched dma (Some search) memory = let k = search.found / 4 * 4 in rw (same_bytes_of (k + 3), same_bytes_of (k + 2), same_bytes_of (k + 1), same_bytes_of k) refl

-- A disk that looks like another has the same format and state, and the same directory.
pub as_beside : {S : Type 0} (sectors : S → Image) (a b : Mounted S) → AlikeDisks sectors a b → beside a b.device ≡ b
as_beside {S} sectors a b alike = ap (λ k. made b.device k a.failed) (sym alike.kind) ∙ ap (λ f. made b.device b.kind f) (sym alike.failed) where
  made : S → DiskKind → Bool → Mounted S
  made device kind failed = record { device = device; kind = kind; failed = failed }

-- what an answer says after a record was read or written, on disks that look alike
module _ {S : Type 0} (sectors : S → Image) (new there : Mounted S) (user : ℕ) where
  over : {A : Type 0} (f : Mounted S → A) → AlikeDisks sectors new there → ((m : Mounted S) → m ≡ there → directory new.kind (sectors there.device) ≡ directory new.kind (sectors new.device) → f (beside new there.device) ≡ f new) → f there ≡ f new
  over f alike step = ap f (sym (as_beside sectors new there alike)) ∙ step there refl alike.image.entries_are

  read_next_as : (dma address : ℕ) (from to : Place) (memory : List ℕ) → AlikeDisks sectors new there → (reply : Result (List ℕ) DiskFault)
      → read_next sectors there user dma address from to memory reply ≡ read_next sectors new user dma address from to memory reply
  read_next_as dma address from to memory alike (Err refusal) = refl
  read_next_as dma address from to memory alike (Ok bytes) =
      over (λ m. read_next sectors m user dma address from to memory (Ok bytes)) alike
      (λ m e same. ap (done 0) (same_extent_entry sectors new there.device same user (letters (name_of (fcb_at address memory))) (record_at new.kind to) address (with_place address from to (with_bytes dma bytes memory))))

  write_next_as : (address : ℕ) (from to : Place) (memory : List ℕ) → AlikeDisks sectors new there → (reply : Result ⊤ DiskFault)
      → write_next sectors there user address from to memory reply ≡ write_next sectors new user address from to memory reply
  write_next_as address from to memory alike (Err refusal) = refl
  write_next_as address from to memory alike (Ok written) =
      over (λ m. write_next sectors m user address from to memory (Ok written)) alike
      (λ m e same. ap (done 0) (same_extent_entry sectors new there.device same user (letters (name_of (fcb_at address memory))) (record_at new.kind to) address (with_place address from to memory)))

  read_at_as : (dma address number : ℕ) (memory : List ℕ) → AlikeDisks sectors new there → (reply : Result (List ℕ) DiskFault)
      → read_at sectors there user dma address number memory reply ≡ read_at sectors new user dma address number memory reply
  read_at_as dma address number memory alike (Err refusal) = refl
  read_at_as dma address number memory alike (Ok bytes) =
      over (λ m. read_at sectors m user dma address number memory (Ok bytes)) alike
      (λ m e same. ap (done 0) (same_extent_entry sectors new there.device same user (letters (name_of (fcb_at address memory))) number address (with_place_of address number (with_bytes dma bytes memory))))

  write_at_as : (address number : ℕ) (memory : List ℕ) → AlikeDisks sectors new there → (reply : Result ⊤ DiskFault)
      → write_at sectors there user address number memory reply ≡ write_at sectors new user address number memory reply
  write_at_as address number memory alike (Err refusal) = refl
  write_at_as address number memory alike (Ok written) =
      over (λ m. write_at sectors m user address number memory (Ok written)) alike
      (λ m e same. ap (done 0) (same_extent_entry sectors new there.device same user (letters (name_of (fcb_at address memory))) number address (with_place_of address number memory)))

-- the row of a call that did not fail
not_failed : (row : Result Done Stop) (before now : List ℕ) (r : Result ℕ Stop) → HasNotFailed r → Ends row before now r → row ≢ Err stop.DiskFault
not_failed row before now (Ok v) good h e = absurd (let no : ◌≡◌ {A = Result Done Stop} (done v now) (Err stop.DiskFault) = sym h ∙ e in cc)
not_failed row before now (Err why) good h e = good.0 (ap Err (same (sym h.0 ∙ e))) where
  same : ◌≡◌ {A = Result Done Stop} (Err why) (Err stop.DiskFault) → why ≡ stop.DiskFault
  same both = cc

answered : {Y Z : Type 0} (reply : Result Y DiskFault) (f : Result Y DiskFault → Result Z Stop) → f (Err fault.Fault) ≡ Err stop.DiskFault → f (Err fault.Failed) ≡ Err stop.DiskFault → f reply ≢ Err stop.DiskFault → IsAnswered reply
answered reply f one two good = (λ e. good (ap f e ∙ one), λ e. good (ap f e ∙ two))

one_unless : {D : Type 0} (P : Type 0) (judged : Result ⊤ Stop) (old new other there : D) (before now left : List ℕ) (r s : Result ℕ Stop) (asked more : Type 0)
    → (new ≡ old → there ≡ other → P) → (asked → more → (s ≡ r) × (left ≡ now) × P)
    → Unless judged old new before now r asked → Unless judged other there before left s more → (s ≡ r) × (left ≡ now) × P
one_unless P (Err why) old new other there before now left r s asked more kept rest one two = (two.0 ∙ sym one.0, two.2 ∙ sym one.2, kept one.1 two.1)
one_unless P (Ok go) old new other there before now left r s asked more kept rest one two = rest one two

one_within : {D : Type 0} (P : Type 0) (test : Bool) (old new other there : D) (before now left : List ℕ) (r s : Result ℕ Stop) (asked more : Type 0)
    → (new ≡ old → there ≡ other → P) → (asked → more → (s ≡ r) × (left ≡ now) × P)
    → Within test old new before now r asked → Within test other there before left s more → (s ≡ r) × (left ≡ now) × P
one_within P true old new other there before now left r s asked more kept rest one two = rest one two
one_within P false old new other there before now left r s asked more kept rest one two = (two.0 ∙ sym one.0, two.2 ∙ sym one.2, kept one.1 two.1)

one_turn : {D : Type 0} (P : Type 0) (next : Option Place) (full : ℕ) (old new other there : D) (before now left : List ℕ) (r s : Result ℕ Stop) (asked more : Place → Type 0)
    → (new ≡ old → there ≡ other → P) → ((p : Place) → asked p → more p → (s ≡ r) × (left ≡ now) × P)
    → InTurn next full old new before now r asked → InTurn next full other there before left s more → (s ≡ r) × (left ≡ now) × P
one_turn P (Some p) full old new other there before now left r s asked more kept rest one two = rest p one two
one_turn P None full old new other there before now left r s asked more kept rest one two = (two.0 ∙ sym one.0, two.2 ∙ sym one.2, kept one.1 two.1)

length_bytes_at : (address count : ℕ) (memory : List ℕ) → length (bytes_at address count memory) ≡ count
unfolding bytes_at
length_bytes_at address count memory = length-map-range_with_len (λ i. memory_byte (address + i) memory) 0 count

length_name : (address n : ℕ) (memory : List ℕ) → n + 11 ≤ 36 → length (letters (take 11 (drop n (fcb_at address memory)))) ≡ 11
length_name address n memory room =
    let long = length_bytes_at address 36 memory in
    length-map (take 11 (drop n (fcb_at address memory))) (λ b. b % 128) ∙ length-take-le 11 (drop n (fcb_at address memory)) (subst (λ k. 11 ≤ k) (sym (length-drop n (fcb_at address memory))) (omega (arith, long, room)))

module _ {S : Type 0} (sectors : S → Image) (faults : S → ℕ) (old new there : Mounted S) (device : S) (user : ℕ) (before now left : List ℕ) (r s : Result ℕ Stop)
    (same : SameImage old.kind (sectors old.device) (sectors device)) (sound : IsSound old.kind (directory old.kind (sectors old.device))) (low : user < USERS) (good : HasNotFailed r) (fine : HasNotFailed s) where
  abbrev pub OneEnd : Type 0
  OneEnd = (s ≡ r) × (left ≡ now) × AlikeDisks sectors new there

  pub kept_alike : new ≡ old → there ≡ beside old device → AlikeDisks sectors new there
  kept_alike p q = alike_as sectors old (beside old device) new there (sym p) (sym q) (record { kind = refl; failed = refl; image = same; sound = sound })

  -- the row of the second call is that of the first
  end_of : (row other : Result Done Stop) → other ≡ row → AlikeDisks sectors new there → Ends row before now r → Ends other before left s → OneEnd
  end_of row other e alike one two = let both = one_end row other before now left r s e one two in (both.0, both.1, alike)

  pub one_made : (address : ℕ) → Makes sectors faults old new user address before now r → Makes sectors faults (beside old device) there user address before left s → OneEnd
  one_made address one two =
      let fcb = fcb_at address before in
      let name = letters (name_of fcb) in
      let f = make_answer address before in
      one_unless (AlikeDisks sectors new there) (file_judged fcb) old new (beside old device) there before now left r s
      ((reply : Result ℕ DiskFault) × IsCreated sectors faults old new user name reply × Ends (make_answer address before reply) before now r)
      ((reply : Result ℕ DiskFault) × IsCreated sectors faults (beside old device) there user name reply × Ends (make_answer address before reply) before left s)
      kept_alike
      (λ p q.
      let both = one_created sectors faults old new there device user name p.0 q.0 same sound low (letters-letters (name_of fcb))
      (answered p.0 f refl refl (not_failed (f p.0) before now r good p.2)) (answered q.0 f refl refl (not_failed (f q.0) before left s fine q.2)) p.1 q.1 in
      end_of (f p.0) (f q.0) (ap f both.0) both.1 p.2 q.2)
      one two

  pub one_read_next : (dma address : ℕ) → ReadsNext sectors faults old new user dma address before now r → ReadsNext sectors faults (beside old device) there user dma address before left s → OneEnd
  one_read_next dma address one two =
      let fcb = fcb_at address before in
      let place = place_of fcb in
      let name = letters (name_of fcb) in
      let asked : Place → Type 0 = λ next. (reply : Result (List ℕ) DiskFault) × IsRecordRead sectors faults old new user name (record_at old.kind next) reply × Ends (read_next sectors new user dma address place next before reply) before now r in
      let more : Place → Type 0 = λ next. (reply : Result (List ℕ) DiskFault) × IsRecordRead sectors faults (beside old device) there user name (record_at old.kind next) reply × Ends (read_next sectors there user dma address place next before reply) before left s in
      one_unless (AlikeDisks sectors new there) (sequential_judged old.kind fcb) old new (beside old device) there before now left r s
      (InTurn (turned old.kind place) 1 old new before now r asked)
      (InTurn (turned old.kind place) 1 (beside old device) there before left s more)
      kept_alike
      (one_turn (AlikeDisks sectors new there) (turned old.kind place) 1 old new (beside old device) there before now left r s asked more kept_alike
      (λ next p q.
      let f = read_next sectors new user dma address place next before in
      let g = read_next sectors there user dma address place next before in
      let both = one_read sectors faults old new there device user name (record_at old.kind next) p.0 q.0 same sound low
      (answered p.0 f refl refl (not_failed (f p.0) before now r good p.2)) (answered q.0 g refl refl (not_failed (g q.0) before left s fine q.2)) p.1 q.1 in
      end_of (f p.0) (g q.0) (ap g both.0 ∙ read_next_as sectors new there user dma address place next before both.1 p.0) both.1 p.2 q.2))
      one two

  pub one_write_next : (dma address : ℕ) → WritesNext sectors faults old new user dma address before now r → WritesNext sectors faults (beside old device) there user dma address before left s → OneEnd
  one_write_next dma address one two =
      let fcb = fcb_at address before in
      let place = place_of fcb in
      let name = letters (name_of fcb) in
      let bytes = bytes_at dma 128 before in
      let asked : Place → Type 0 = λ next. (reply : Result ⊤ DiskFault) × IsRecordWritten sectors faults old new user name (record_at old.kind next) bytes reply × Ends (write_next sectors new user address place next before reply) before now r in
      let more : Place → Type 0 = λ next. (reply : Result ⊤ DiskFault) × IsRecordWritten sectors faults (beside old device) there user name (record_at old.kind next) bytes reply × Ends (write_next sectors there user address place next before reply) before left s in
      one_unless (AlikeDisks sectors new there) (sequential_judged old.kind fcb) old new (beside old device) there before now left r s
      (InTurn (turned old.kind place) 2 old new before now r asked)
      (InTurn (turned old.kind place) 2 (beside old device) there before left s more)
      kept_alike
      (one_turn (AlikeDisks sectors new there) (turned old.kind place) 2 old new (beside old device) there before now left r s asked more kept_alike
      (λ next p q.
      let f = write_next sectors new user address place next before in
      let g = write_next sectors there user address place next before in
      let both = one_written sectors faults old new there device user name (record_at old.kind next) bytes p.0 q.0 same sound low
      (answered p.0 f refl refl (not_failed (f p.0) before now r good p.2)) (answered q.0 g refl refl (not_failed (g q.0) before left s fine q.2)) p.1 q.1 in
      end_of (f p.0) (g q.0) (ap g both.0 ∙ write_next_as sectors new there user address place next before both.1 p.0) both.1 p.2 q.2))
      one two

  pub one_read_at : (dma address : ℕ) → ReadsAt sectors faults old new user dma address before now r → ReadsAt sectors faults (beside old device) there user dma address before left s → OneEnd
  one_read_at dma address one two =
      let fcb = fcb_at address before in
      let name = letters (name_of fcb) in
      let number = random_of fcb in
      let asked : Type 0 = (reply : Result (List ℕ) DiskFault) × IsRecordRead sectors faults old new user name number reply × Ends (read_at sectors new user dma address number before reply) before now r in
      let more : Type 0 = (reply : Result (List ℕ) DiskFault) × IsRecordRead sectors faults (beside old device) there user name number reply × Ends (read_at sectors there user dma address number before reply) before left s in
      one_unless (AlikeDisks sectors new there) (file_judged fcb) old new (beside old device) there before now left r s
      (Within (can_have_record old.kind fcb) old new before now r asked)
      (Within (can_have_record old.kind fcb) (beside old device) there before left s more)
      kept_alike
      (one_within (AlikeDisks sectors new there) (can_have_record old.kind fcb) old new (beside old device) there before now left r s asked more kept_alike
      (λ p q.
      let f = read_at sectors new user dma address number before in
      let g = read_at sectors there user dma address number before in
      let both = one_read sectors faults old new there device user name number p.0 q.0 same sound low
      (answered p.0 f refl refl (not_failed (f p.0) before now r good p.2)) (answered q.0 g refl refl (not_failed (g q.0) before left s fine q.2)) p.1 q.1 in
      end_of (f p.0) (g q.0) (ap g both.0 ∙ read_at_as sectors new there user dma address number before both.1 p.0) both.1 p.2 q.2))
      one two

  pub one_write_at : (dma address : ℕ) → WritesAt sectors faults old new user dma address before now r → WritesAt sectors faults (beside old device) there user dma address before left s → OneEnd
  one_write_at dma address one two =
      let fcb = fcb_at address before in
      let name = letters (name_of fcb) in
      let number = random_of fcb in
      let bytes = bytes_at dma 128 before in
      let asked : Type 0 = (reply : Result ⊤ DiskFault) × IsRecordWritten sectors faults old new user name number bytes reply × Ends (write_at sectors new user address number before reply) before now r in
      let more : Type 0 = (reply : Result ⊤ DiskFault) × IsRecordWritten sectors faults (beside old device) there user name number bytes reply × Ends (write_at sectors there user address number before reply) before left s in
      one_unless (AlikeDisks sectors new there) (file_judged fcb) old new (beside old device) there before now left r s
      (Within (can_have_record old.kind fcb) old new before now r asked)
      (Within (can_have_record old.kind fcb) (beside old device) there before left s more)
      kept_alike
      (one_within (AlikeDisks sectors new there) (can_have_record old.kind fcb) old new (beside old device) there before now left r s asked more kept_alike
      (λ p q.
      let f = write_at sectors new user address number before in
      let g = write_at sectors there user address number before in
      let both = one_written sectors faults old new there device user name number bytes p.0 q.0 same sound low
      (answered p.0 f refl refl (not_failed (f p.0) before now r good p.2)) (answered q.0 g refl refl (not_failed (g q.0) before left s fine q.2)) p.1 q.1 in
      end_of (f p.0) (g q.0) (ap g both.0 ∙ write_at_as sectors new there user address number before both.1 p.0) both.1 p.2 q.2))
      one two

-- functions 19 and 23, which leave the memory
module _ {S : Type 0} (sectors : S → Image) (faults : S → ℕ) (old new there : Mounted S) (device : S) (user : ℕ) (memory : List ℕ) (r s : Result ℕ Stop)
    (same : SameImage old.kind (sectors old.device) (sectors device)) (sound : IsSound old.kind (directory old.kind (sectors old.device))) (low : user < USERS) (good : HasNotFailed r) (fine : HasNotFailed s) where
  pub one_erase : (address : ℕ) → ErasesFiles sectors faults old new user address memory r → ErasesFiles sectors faults (beside old device) there user address memory s → (s ≡ r) × (memory ≡ memory) × AlikeDisks sectors new there
  one_erase address one two =
      let fcb = fcb_at address memory in
      one_unless (AlikeDisks sectors new there) (drive_judged fcb) old new (beside old device) there memory memory memory r s
      ((reply : Result ℕ DiskFault) × IsErased sectors faults old new user (name_of fcb) reply × (r ≡ erase_answer reply))
      ((reply : Result ℕ DiskFault) × IsErased sectors faults (beside old device) there user (name_of fcb) reply × (s ≡ erase_answer reply))
      (kept_alike sectors faults old new there device user memory memory memory r s same sound low good fine)
      (λ p q.
      let both = one_erased sectors faults old new there device user (name_of fcb) p.0 q.0 same sound low
      (answered p.0 erase_answer refl refl (λ e. good.0 (p.2 ∙ e))) (answered q.0 erase_answer refl refl (λ e. fine.0 (q.2 ∙ e))) p.1 q.1 in
      (q.2 ∙ ap erase_answer both.0 ∙ sym p.2, refl, both.1))
      one two

  pub one_rename : (address : ℕ) → RenamesFile sectors faults old new user address memory r → RenamesFile sectors faults (beside old device) there user address memory s → (s ≡ r) × (memory ≡ memory) × AlikeDisks sectors new there
  one_rename address one two =
      let fcb = fcb_at address memory in
      let from = letters (name_of fcb) in
      let to = letters (new_name_of fcb) in
      one_unless (AlikeDisks sectors new there) (names_judged fcb) old new (beside old device) there memory memory memory r s
      ((reply : Result ⊤ DiskFault) × IsRenamed sectors faults old new user from to reply × (r ≡ rename_answer reply))
      ((reply : Result ⊤ DiskFault) × IsRenamed sectors faults (beside old device) there user from to reply × (s ≡ rename_answer reply))
      (kept_alike sectors faults old new there device user memory memory memory r s same sound low good fine)
      (λ p q.
      let both = one_renamed sectors faults old new there device user from to p.0 q.0 same sound low
      (length_name address 1 memory (omega arith) ∙ sym (length_name address 17 memory (omega arith))) (letters-letters (new_name_of fcb))
      (answered p.0 rename_answer refl refl (λ e. good.0 (p.2 ∙ e))) (answered q.0 rename_answer refl refl (λ e. fine.0 (q.2 ∙ e))) p.1 q.1 in
      (q.2 ∙ ap rename_answer both.0 ∙ sym p.2, refl, both.1))
      one two
