-- Functions 17 and 18: search the directory. (CP/M 2.2 Interface Guide.)
use Rattle.std.specs.Prelude.{◌≡◌, ◌+◌, ◌*◌, ◌/◌, ◌==◌, ℕ, nat_lt, List, Option, Some, None, option_map, Result, Ok, Err, if◌then◌else◌, ⊤}
use Rattle.cpm_image.specs.Kind.{entry_count}
use Rattle.cpm_image.specs.declared.directory.layout.TheConstants.{ENTRY_BYTES, RECORD_ENTRIES}
use Rattle.cpm_disk.specs.Calls.{Mounted}
use Rattle.cpm_disk.specs.Image.{Image}
use Rattle.cpm_disk.specs.declared.control.stop.Stop.{Stop}
use Rattle.cpm_disk.specs.Control.Bytes.{with_bytes}
use Rattle.cpm_disk.specs.Control.Fcbs.{drive_judged, drive_of, extent_of, fcb_at, name_of, question}
use Rattle.cpm_disk.specs.Control.Files.{entry_bytes, entry_found}
use Rattle.cpm_bdos.specs.declared.files.search.Search.{Search}
use Rattle.cpm_bdos.specs.declared.files.search.Sought.{Sought}
use Rattle.cpm_bdos.specs.declared.files.search.Sought.TheVariants.{Every, Matching}
use Rattle.cpm_bdos.specs.Files.Opening.{code_of}

-- If the drive is `?`, every entry is searched for, even free ones. Otherwise S2 is taken as 0, but an EX of `?` matches every EX and S2.
abbrev pub sought_judged : List ℕ → Result ⊤ Stop
sought_judged fcb = if drive_of fcb == question then Ok tt else drive_judged fcb

abbrev pub sought_by : List ℕ → Sought
sought_by fcb = if drive_of fcb == question then Every
    else Matching (record { name = name_of fcb; extent = extent_of fcb; high = if extent_of fcb == question then question else 0 })

-- the first entry from number `from` on that the search looks for
abbrev pub next_found : {S : Type 0} → (S → Image) → Mounted S → Sought → ℕ → ℕ → Option ℕ
next_found sectors disk (Matching pattern) user from = entry_found sectors disk user pattern from
next_found sectors disk Every user from = if nat_lt from (entry_count disk.kind) then Some from else None

-- the search after it has found that entry
abbrev pub searched : {S : Type 0} → (S → Image) → Mounted S → Sought → ℕ → ℕ → Option Search
searched sectors disk sought user from = option_map (λ k. record { sought = sought; user = user; found = k }) (next_found sectors disk sought user from)

-- Function 18 continues after the last entry found. A search that finds none has ended.
abbrev pub next_search : {S : Type 0} → (S → Image) → Mounted S → Option Search → Option Search
next_search sectors disk (Some last) = searched sectors disk last.sought last.user (last.found + 1)
next_search sectors disk None = None

-- The directory record from entry `first` on, which has four entries, is copied to the DMA buffer.
abbrev pub with_directory_record : {S : Type 0} → (S → Image) → Mounted S → ℕ → ℕ → List ℕ → List ℕ
with_directory_record sectors disk dma first memory =
    with_bytes (dma + 3 * ENTRY_BYTES) (entry_bytes sectors disk (first + 3))
    (with_bytes (dma + 2 * ENTRY_BYTES) (entry_bytes sectors disk (first + 2))
    (with_bytes (dma + ENTRY_BYTES) (entry_bytes sectors disk (first + 1))
    (with_bytes dma (entry_bytes sectors disk first) memory)))

abbrev pub with_searched : {S : Type 0} → (S → Image) → Mounted S → ℕ → Option Search → List ℕ → List ℕ
with_searched sectors disk dma (Some search) memory = with_directory_record sectors disk dma (search.found / RECORD_ENTRIES * RECORD_ENTRIES) memory
with_searched sectors disk dma None memory = memory

-- the number modulo 4 of the entry that was found, or FFH
abbrev pub search_answer : Option Search → ℕ
search_answer (Some search) = code_of (Some search.found)
search_answer None = code_of None

-- function 17: the search after it, its answer, and the memory; a stop leaves search and memory as they were
abbrev pub SearchesFirst : {S : Type 0} → (S → Image) → Mounted S → ℕ → ℕ → ℕ → Option Search → Option Search → List ℕ → List ℕ → Result ℕ Stop → Type 0
SearchesFirst sectors disk user dma address old new before now (Ok value) =
    let fcb = fcb_at address before in
    (sought_judged fcb ≡ Ok tt) × (new ≡ searched sectors disk (sought_by fcb) user 0) × (value ≡ search_answer new) × (now ≡ with_searched sectors disk dma new before)
SearchesFirst sectors disk user dma address old new before now (Err why) =
    (sought_judged (fcb_at address before) ≡ Err why) × (new ≡ old) × (now ≡ before)
