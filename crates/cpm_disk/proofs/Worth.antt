-- What the answer of a call guarantees.
use Rattle.std.proofs.Common.{◌≡◌, ◌<◌, ◌≤◌, ℕ, not, List, length, Result, Ok, Err, IfOk, OnOk, sym, subst}
use Rattle.std.proofs.lemmas.List.Quantifiers.{position-Some}
use Rattle.cpm_image.specs.declared.directory.entry.TheConstants.{USERS}
use Rattle.cpm_image.specs.Kind.{directory_records, record_count}
use Rattle.cpm_image.specs.declared.kind.DiskKind.{DiskKind}
use Rattle.cpm_image.specs.declared.directory.entry.Entry.{Entry}
use Rattle.cpm_image.specs.declared.directory.fault.DiskFault.{DiskFault}
use Rattle.cpm_image.specs.declared.directory.fault.DiskFault.TheVariants as fault
use Rattle.cpm_image.specs.Directory.Entries.{blank, is_free, new_extent}
use Rattle.cpm_image.specs.Directory.Letters.{letters}
use Rattle.cpm_image.specs.Directory.Rules.{IsSound}
use Rattle.cpm_image.specs.Directory.Searches.{file_is_read_only, free_entry, is_file}
use Rattle.cpm_disk.specs.declared.placement.Placement.{Placement}
use Rattle.cpm_disk.specs.Kept.{IsKeptBy, IsGoodPut, StaysSound}
use Rattle.cpm_disk.specs.Steps.{◌>>=◌, after_renaming, creation, some_or, reading, renaming, unless, writing}
use Rattle.cpm_disk.proofs.Kept.{creation_keeps, renaming_keeps}
use Rattle.cpm_disk.proofs.RecordPlaces.{reading_within}
use Rattle.cpm_disk.proofs.Placements.{writing_keeps}
use Rattle.cpm_disk.proofs.Results.{bind_ok, given_ok, unless_ok}

pub created : (kind : DiskKind) (user : ℕ) (name : List ℕ) (entries : List Entry) (r : Result (ℕ × Entry) DiskFault) → user < USERS → letters name ≡ name → r ≡ creation user name entries → IsSound kind entries → IfOk r (IsGoodPut kind entries)
created kind user name entries (Err e) low seven is sound = tt
created kind user name entries (Ok put) low seven is sound =
    let (new_file, is_1) = unless_ok (is_file user name entries) fault.Exists (some_or (free_entry entries) fault.DirectoryFull >>= λ k. Ok (k, new_extent user name 0)) put (sym is) in
    let (k, free, last) = bind_ok (some_or (free_entry entries) fault.DirectoryFull) (λ k. Ok (k, new_extent user name 0)) put is_1 in
    let found = given_ok (free_entry entries) fault.DirectoryFull k free in
    let same : ◌≡◌ {A = ℕ × Entry} (k, new_extent user name 0) put = cc in
    let here = position-Some is_free entries k blank found in
    subst (IsGoodPut kind entries) same (record { within = here.0; free = here.1; sound = creation_keeps kind user name entries k low seven sound new_file found })

pub renamed_soundly : (kind : DiskKind) (user : ℕ) (old new : List ℕ) (entries : List Entry) (r : Result (Unit {0}) DiskFault) → user < USERS → length old ≡ length new → letters new ≡ new → r ≡ renaming user old new entries → IsSound kind entries → OnOk r (StaysSound kind entries (after_renaming user old new entries))
renamed_soundly kind user old new entries (Err e) low long seven is sound = tt
renamed_soundly kind user old new entries (Ok x) low long seven is sound =
    let (there, is_1) = unless_ok (not (is_file user old entries)) fault.NotFound (unless (is_file user new entries) fault.Exists (unless (file_is_read_only user old entries) fault.ReadOnly (Ok tt))) x (sym is) in
    let (new_file, is_2) = unless_ok (is_file user new entries) fault.Exists (unless (file_is_read_only user old entries) fault.ReadOnly (Ok tt)) x is_1 in
    renaming_keeps kind user old new entries low long seven sound new_file

pub located : (kind : DiskKind) (user : ℕ) (name : List ℕ) (number : ℕ) (entries : List Entry) (r : Result ℕ DiskFault) → user < USERS → r ≡ reading kind user name number entries → IsSound kind entries → IfOk r (λ n. (directory_records kind ≤ n) × (n < record_count kind))
located kind user name number entries (Err e) low is sound = tt
located kind user name number entries (Ok n) low is sound = reading_within kind user name number entries n low sound (sym is)

pub placed_soundly : (kind : DiskKind) (user : ℕ) (name : List ℕ) (number : ℕ) (entries : List Entry) (r : Result Placement DiskFault) → user < USERS → r ≡ writing kind user name number entries → IsSound kind entries → IfOk r (IsKeptBy kind user name entries)
placed_soundly kind user name number entries (Err e) low is sound = tt
placed_soundly kind user name number entries (Ok p) low is sound = writing_keeps kind user name number entries p low sound (sym is)
