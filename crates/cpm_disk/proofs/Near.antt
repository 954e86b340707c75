-- If one entry of a file's extent is known, it decides where a record is read and written, because an extent of a file has only one
-- entry.
use Rattle.std.proofs.Common.{[], get_or, IfSome, Option, None, ◌≡◌, ◌⊎◌, ◌<◌, ◌/◌, ◌%◌, ℕ, true, false, List, length, Some, find, position, refl, sym, ap, ◌∙◌, arith, nat_lt, nat_eq, inl, inr, lt-ltb, eqb-true, slice_get}
use Rattle.std.proofs.lemmas.Bool.{and_parts, cases_Bool}
use Rattle.std.proofs.lemmas.Option.{slice_get-get_or}
use Rattle.std.proofs.lemmas.List.{get_or_default}
use Rattle.std.proofs.lemmas.List.Quantifiers.{position-Some}
use Rattle.std.proofs.lemmas.List.Folds.{find_at, list_any_at}
use Rattle.std.proofs.lemmas.List.Sums.{position_or_len_is}
use Rattle.std.specs.List.{position_or_len}
use Rattle.cpm_image.specs.declared.directory.entry.TheConstants.{USERS}
use Rattle.cpm_image.specs.Kind.{file_records}
use Rattle.cpm_image.specs.declared.kind.DiskKind.{DiskKind}
use Rattle.cpm_image.specs.declared.directory.entry.Entry.{Entry}
use Rattle.cpm_image.specs.Directory.Entries.{at, blank, extent_number, is_extent_of, is_of}
use Rattle.cpm_image.specs.Directory.Rules.{IsSound}
use Rattle.cpm_image.specs.Directory.Searches.{file_is_read_only, is_file}
use Rattle.cpm_disk.specs.Near.{IsExtentAt}
use Rattle.cpm_disk.specs.Steps.{placing_in, reading, writing, written_place}
use Rattle.cpm_disk.proofs.Entries.{below_extent, of_file}

-- what it means that an entry is an extent of a file
parts : (user : ℕ) (name : List ℕ) (number : ℕ) (e : Entry) → is_extent_of user name number e ≡ true → (is_of user name e ≡ true) × (extent_number e ≡ number)
parts user name number e is = let two = and_parts (is_of user name e) (nat_eq (extent_number e) number) is in (two.0, eqb-true (extent_number e) number two.1)

-- no other entry is that of the extent
alone : (kind : DiskKind) (user : ℕ) (name : List ℕ) (number : ℕ) (entries : List Entry) (j k : ℕ) → user < USERS → IsSound kind entries → is_extent_of user name number (at entries j) ≡ true → is_extent_of user name number (at entries k) ≡ true → j ≡ k
alone kind user name number entries j k low sound one two =
    let (of_one, here) = parts user name number (at entries j) one in
    let (of_two, there) = parts user name number (at entries k) two in
    let (user_one, name_one) = of_file user name (at entries j) of_one in
    let (user_two, name_two) = of_file user name (at entries k) of_two in
    sound.named j k (below_extent (at entries j) (omega arith)) (below_extent (at entries k) (omega arith)) (user_one ∙ sym user_two, name_one ∙ sym name_two, here ∙ sym there)

-- so it is the first
first : (kind : DiskKind) (user : ℕ) (name : List ℕ) (number : ℕ) (entries : List Entry) (k : ℕ) → user < USERS → IsSound kind entries → k < length entries → is_extent_of user name number (at entries k) ≡ true → position_or_len (is_extent_of user name number) entries ≡ k
first kind user name number entries k low sound below is =
    position_or_len_is (is_extent_of user name number) entries k blank (omega arith) (λ j before. other j before (cases_Bool (is_extent_of user name number (at entries j)))) (λ _. is)
  where
    other : (j : ℕ) → j < k → (is_extent_of user name number (at entries j) ≡ true) ⊎ (is_extent_of user name number (at entries j) ≡ false) → is_extent_of user name number (at entries j) ≡ false
    other j before (inl passes) = let same = alone kind user name number entries j k low sound passes is in absurd (omega arith)
    other j before (inr fails) = fails

pub extent_position : (kind : DiskKind) (user : ℕ) (name : List ℕ) (number : ℕ) (entries : List Entry) (k : ℕ) → user < USERS → IsSound kind entries → IsExtentAt kind user name number entries k → position (is_extent_of user name (number / 128)) entries ≡ Some k
extent_position kind user name number entries k low sound known =
    let here = first kind user name (number / 128) entries k low sound known.within known.of_extent in
    let inside : nat_lt k (length entries) ≡ true = lt-ltb k (length entries) known.within in
    rw (here, inside) refl

pub extent_found : (kind : DiskKind) (user : ℕ) (name : List ℕ) (number : ℕ) (entries : List Entry) (k : ℕ) → user < USERS → IsSound kind entries → IsExtentAt kind user name number entries k → find (is_extent_of user name (number / 128)) entries ≡ Some (at entries k)
extent_found kind user name number entries k low sound known =
    let here = first kind user name (number / 128) entries k low sound known.within known.of_extent in
    find_at (is_extent_of user name (number / 128)) entries ∙ ap (slice_get entries) here ∙ slice_get-get_or entries k blank known.within

pub file_there : (kind : DiskKind) (user : ℕ) (name : List ℕ) (number : ℕ) (entries : List Entry) (k : ℕ) → IsExtentAt kind user name number entries k → is_file user name entries ≡ true
file_there kind user name number entries k known = list_any_at (is_of user name) entries k blank known.within (parts user name (number / 128) (at entries k) known.of_extent).0

-- what the code would read after the end of the list
abbrev pub past : Entry
past = record { user = 0; name = []; extent = 0; s1 = 0; s2 = 0; records = 0; blocks = [] }

-- only this entry decides where a record is read
pub read_at : (kind : DiskKind) (user : ℕ) (name : List ℕ) (number : ℕ) (entries : List Entry) (k : ℕ) → user < USERS → IsSound kind entries → IsExtentAt kind user name number entries k → written_place kind (number % 128) (get_or entries k past) ≡ reading kind user name number entries
read_at kind user name number entries k low sound known =
    let there = file_there kind user name number entries k known in
    let near : nat_lt number (file_records kind) ≡ true = lt-ltb number (file_records kind) known.near in
    let found = extent_found kind user name number entries k low sound known in
    ap (written_place kind (number % 128)) (get_or_default entries k past blank known.within) ∙ rw (there, near, found) refl

-- and where it is written
pub write_at : (kind : DiskKind) (user : ℕ) (name : List ℕ) (number : ℕ) (entries : List Entry) (k : ℕ) → user < USERS → IsSound kind entries → IsExtentAt kind user name number entries k → file_is_read_only user name entries ≡ false
    → placing_in kind k (get_or entries k past) (number % 128) entries ≡ writing kind user name number entries
write_at kind user name number entries k low sound known free =
    let there = file_there kind user name number entries k known in
    let near : nat_lt number (file_records kind) ≡ true = lt-ltb number (file_records kind) known.near in
    let found = extent_position kind user name number entries k low sound known in
    ap (λ e. placing_in kind k e (number % 128) entries) (get_or_default entries k past blank known.within) ∙ rw (there, free, near, found) refl

-- a search for an extent finds its entry
pub found_extent : (kind : DiskKind) (user : ℕ) (name : List ℕ) (number : ℕ) (entries : List Entry) (r : Option ℕ) → number < file_records kind → r ≡ position (is_extent_of user name (number / 128)) entries → IfSome r (IsExtentAt kind user name number entries)
found_extent kind user name number entries None near is = tt
found_extent kind user name number entries (Some k) near is = let here = position-Some (is_extent_of user name (number / 128)) entries k blank (sym is) in record { near = near; within = here.0; of_extent = here.1 }
