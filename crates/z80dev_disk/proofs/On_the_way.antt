-- A file that is put on a disk, record by record.
use Rattle.std.proofs.Common.{◌≡◌, ◌<◌, ◌≤◌, ◌+◌, ◌*◌, ◌/◌, ◌%◌, ◌==◌, ℕ, Bool, true, false, not, List, [], ◌∷◌, length, drop, take, Option, Some, None, Result, Ok, Err, find, nat_lt, position, refl, sym, ap, subst, ◌∙◌, inl, inr, arith, true≢false, if◌then◌else◌}
use Rattle.std.specs.List.{list_any}
use Rattle.std.proofs.lemmas.Bool.{cases_Bool, ltb-true, not-false}
use Rattle.std.proofs.lemmas.List.{drop-drop, length-drop}
use Rattle.cpm_image.specs.Kind.{block_records, file_records}
use Rattle.cpm_image.specs.declared.kind.DiskKind.{DiskKind}
use Rattle.cpm_image.specs.declared.kind.DiskKind.TheVariants.{EightInch, Megabyte}
use Rattle.cpm_image.specs.declared.directory.entry.Entry.{Entry}
use Rattle.cpm_image.specs.declared.directory.entry.TheConstants.{USERS}
use Rattle.cpm_image.specs.declared.directory.fault.DiskFault.{DiskFault}
use Rattle.cpm_image.specs.declared.directory.fault.DiskFault.TheVariants as fault
use Rattle.cpm_image.specs.Directory.Entries.{block, is_extent_of, is_of, new_extent, with_record}
use Rattle.cpm_image.specs.Directory.Rules.{IsSound}
use Rattle.cpm_image.specs.Directory.Searches.{file_is_read_only, free_block, free_entry, is_file}
use Rattle.cpm_disk.specs.Steps.{◌>>=◌, block_place, extent_place, found_or_new, some_or, unless, writing}
use Rattle.cpm_disk.specs.declared.placement.Placement.{Placement}
use Rattle.cpm_disk.proofs.Results.{unless_ok}
use Rattle.cpm_disk.specs.Calls.{Mounted, Written}
use Rattle.cpm_disk.specs.Files.{HasRecord, IsFile, IsNewFile, OthersAreSame}
use Rattle.cpm_disk.specs.Image.{Image, directory}
use Rattle.cpm_disk.specs.Operations.{IsCreated, IsRecordWritten}
use Rattle.z80dev_disk.specs.Put.{NamedFile, IsStopped, IsStored, MakesRoom, PutsFirstRecords, PutsOne, padded_record, is_replaced, record_to_put, records_to_put}
use Rattle.z80dev_disk.specs.Put.PutsFirstRecords.{made, more}
use Rattle.z80dev_disk.specs.Refusals.{RefusesStore}
use Rattle.z80dev_disk.proofs.Memory.{itself, never, refused_by}
use Rattle.z80dev_disk.proofs.Others.{both}
use Rattle.z80dev_disk.proofs.Records.{HoldsFirst, all_records, begins, goes_on}
use Rattle.z80dev_disk.proofs.Sizes.{size_is, there}

-- ---- refusals

-- why the disk refuses to write a record
abbrev RefusesRecord : DiskFault → Type 0
RefusesRecord fault.DirectoryFull = Unit {0}
RefusesRecord fault.DiskFull = Unit {0}
RefusesRecord fault.TooFar = Unit {0}
RefusesRecord why = ⊥

of_store : (why : DiskFault) → RefusesRecord why → RefusesStore why
of_store fault.DirectoryFull is = tt
of_store fault.DiskFull is = tt
of_store fault.TooFar is = tt
of_store _ is = absurd is

-- If the result is a refusal, it is one of these.
abbrev Only : {A : Type 0} → Result A DiskFault → Type 0
Only (Ok x) = Unit {0}
Only (Err why) = RefusesRecord why

only_unless : {A : Type 0} (test : Bool) (why : DiskFault) (rest : Result A DiskFault) → (test ≡ true → RefusesRecord why) → Only rest → Only (unless test why rest)
only_unless true why rest first other = first refl
only_unless false why rest first other = other

only_given : {A : Type 0} (o : Option A) (why : DiskFault) → (o ≡ None → RefusesRecord why) → Only (some_or o why)
only_given None why first = first refl
only_given (Some x) why first = tt

only_bind : {A B : Type 0} (r : Result A DiskFault) (f : A → Result B DiskFault) → Only r → ((x : A) → Only (f x)) → Only (r >>= f)
only_bind (Ok x) f first rest = rest x
only_bind (Err why) f first rest = first

-- the reasons why a file is not created
of_creation : (there : Bool) (free : Option ℕ) (put : ℕ → ℕ × Entry) (why : DiskFault) → unless there fault.Exists (some_or free fault.DirectoryFull >>= λ k. Ok (put k)) ≡ Err why
    → RefusesStore why × (why ≡ fault.Exists → there ≡ true)
of_creation true free put why is = let exists : fault.Exists ≡ why = cc in (subst RefusesStore exists tt, λ _. refl)
of_creation false None put why is = let full : fault.DirectoryFull ≡ why = cc in (subst RefusesStore full tt, λ exists. absurd (clash (full ∙ exists)))
  where
    clash : fault.DirectoryFull ≡ fault.Exists → ⊥
    clash same = cc
of_creation false (Some k) put why is = absurd cc

-- a search finds an entry if one passes the test
some_entry : (p : Entry → Bool) (xs : List Entry) → list_any p xs ≡ true → find p xs ≡ None → ⊥
some_entry p [] any none = absurd (true≢false (sym any))
some_entry p (x ∷ xs) any none = elim (cases_Bool (p x)) as (λ _. ⊥) [
  | inl is ↦ (let found = rw is at none in absurd cc)
  | inr not_this ↦ some_entry p xs (rw not_this at any) (rw not_this at none)
]

only_writing : (kind : DiskKind) (user : ℕ) (name : List ℕ) (n : ℕ) (entries : List Entry) → is_file user name entries ≡ true → file_is_read_only user name entries ≡ false → Only (writing kind user name n entries)
only_writing kind user name n entries is writable =
    only_unless (not (is_file user name entries)) fault.NotFound _ (λ none. absurd (true≢false (sym none ∙ ap not is)))
    (only_unless (file_is_read_only user name entries) fault.ReadOnly _ (λ only. absurd (true≢false (sym only ∙ writable)))
    (only_unless (not (nat_lt n (file_records kind))) fault.TooFar _ (λ _. tt)
    (only_bind {B = Placement} (extent_place user name (n / 128) entries) _ (entry_of (position (is_extent_of user name (n / 128)) entries)) (λ place.
    only_bind {B = Placement} (block_place kind place.1 (n % 128 / block_records kind) entries)
    (λ found. Ok (record { entry_number = place.0; entry = with_record kind place.1 (n % 128) found.0; block = found.0; is_new = found.1 })) (block_of place.1 (block kind place.1 (n % 128 / block_records kind) == 0)) (λ found. tt)))))
  where
    entry_of : (o : Option ℕ) → Only (found_or_new user name (n / 128) entries o)
    entry_of (Some k) = tt
    entry_of None =
        only_bind {B = ℕ × Entry} (some_or (free_entry entries) fault.DirectoryFull) _ (only_given (free_entry entries) fault.DirectoryFull (λ _. tt)) (λ k.
        only_bind {B = ℕ × Entry} (some_or (find (is_of user name) entries) fault.NotFound) (λ e. Ok (k, new_extent user e.name (n / 128))) (only_given (find (is_of user name) entries) fault.NotFound (λ none. absurd (some_entry (is_of user name) entries is none))) (λ e. tt))

    block_of : (e : Entry) (b : Bool) → Only {A = ℕ × Bool} (if b then (some_or (free_block kind entries) fault.DiskFull >>= λ c. Ok (c, true)) else Ok (block kind e (n % 128 / block_records kind), false))
    block_of e true = only_bind {B = ℕ × Bool} (some_or (free_block kind entries) fault.DiskFull) (λ c. Ok (c, true)) (only_given (free_block kind entries) fault.DiskFull (λ _. tt)) (λ c. tt)
    block_of e false = tt

one_of_them : {A : Type 0} (r : Result A DiskFault) (why : DiskFault) → Only r → r ≡ Err why → RefusesRecord why
one_of_them r why only is = subst Only is only

-- ---- the loop

-- the state of the loop in `store`: the first `number` records of the file are written, and `rest` is still to be written
pub record Putting (start : Mounted Image) (user : ℕ) (name file : List ℕ) (disk : Mounted Image) (number : ℕ) (rest : List ℕ) : Type 0 where
  pub same : disk.kind ≡ start.kind
  pub sound_disk : disk.failed ≡ false
  pub puts : PutsFirstRecords start.kind start.device user name file number disk.device
  pub holds : HoldsFirst start.kind disk.device user name file number
  pub others : OthersAreSame start.kind start.device disk.device (IsFile user name)
  pub sound : IsSound start.kind (directory start.kind disk.device)
  pub left : rest ≡ drop (128 * number) file
  pub near : 128 * number < length file + 128
  pub most : number ≤ 65536

module _ (start : Mounted Image) (user : ℕ) (name file : List ℕ) (low : user < USERS) where
  -- the loop begins with a file that has no records
  pub begun : (disk : Mounted Image) (number : ℕ) → IsCreated itself never start disk user name (Ok number) → IsNewFile disk.kind disk.device user name → OthersAreSame start.kind start.device disk.device (IsFile user name)
      → IsSound disk.kind (directory disk.kind disk.device) → Putting start user name file disk 0 file
  begun disk number (was, sound_disk, same, calm, put, asked, (number_is, changed)) new others sound = record {
    same = same;
    sound_disk = sound_disk;
    puts = made disk.device put asked changed;
    holds = begins start.kind disk.device user name file (subst (λ k. IsNewFile k disk.device user name) same new);
    others = others;
    sound = subst (λ k. IsSound k (directory k disk.device)) same sound;
    left = refl;
    near = omega arith;
    most = omega arith;
  }

  -- or the file is not created, and `store` is refused
  pub not_begun : (disk : Mounted Image) (why : DiskFault) → start.failed ≡ false → IsCreated itself never start disk user name (Err why)
      → IsStopped start.kind start.device user name file why × (why ≡ fault.Exists → is_file user name (directory start.kind start.device) ≡ true)
  not_begun disk why sound_disk done =
      let asked = (refused_by start disk _ _ why sound_disk done).0 in
      let (refuses, exists) = of_creation (is_file user name (directory start.kind start.device)) (free_entry (directory start.kind start.device)) (λ k. (k, new_extent user name 0)) why asked in
      ((refuses, inl asked), exists)

  module _ (disk : Mounted Image) (number : ℕ) (rest : List ℕ) (so_far : Putting start user name file disk number rest) where
    is_there : is_file user name (directory start.kind disk.device) ≡ true
    is_there = there start.kind disk.device user name file number low so_far.sound so_far.holds

    below_most : (kind : DiskKind) (n : ℕ) → n < file_records kind → n + 1 ≤ 65536
    below_most EightInch n less = omega (arith, less)
    below_most Megabyte n less = omega (arith, less)

    -- one turn of the loop writes one more record
    pub wrote : (new : Mounted Image) (bytes : List ℕ) → bytes ≡ padded_record (take 128 rest) → IsRecordWritten itself never disk new user name number bytes (Ok tt) → HasRecord disk.kind disk.device new.device user name number bytes
        → OthersAreSame disk.kind disk.device new.device (IsFile user name) → IsSound new.kind (directory new.kind new.device) → 0 < length rest
        → Putting start user name file new (number + 1) (drop 128 rest)
    wrote new bytes bytes_are (was, sound_disk, same, calm, p, asked, done) has others sound some =
        let kind_is : disk.kind ≡ start.kind = so_far.same in
        let record_is : bytes ≡ record_to_put file number = bytes_are ∙ ap (λ r. padded_record (take 128 r)) so_far.left in
        let asked_here = subst (λ k. writing k user name number (directory k disk.device) ≡ Ok p) kind_is asked in
        let written = subst (λ k. Written k disk.device new.device p (number % block_records k) (record_to_put file number)) kind_is (subst (λ b. Written disk.kind disk.device new.device p (number % block_records disk.kind) b) record_is done) in
        let holds = subst (λ k. HasRecord k disk.device new.device user name number (record_to_put file number)) kind_is (subst (HasRecord disk.kind disk.device new.device user name number) record_is has) in
        let limit = unless_ok (not (nat_lt number (file_records start.kind))) fault.TooFar _ p (unless_ok (file_is_read_only user name (directory start.kind disk.device)) fault.ReadOnly _ p (unless_ok (not (is_file user name (directory start.kind disk.device))) fault.NotFound _ p asked_here).1).1 in
        let below = ltb-true number (file_records start.kind) (not-false _ limit.0) in
        let long : 128 * number < length file = omega (arith, some, ap length so_far.left, length-drop (128 * number) file) in
        record {
          same = same ∙ kind_is;
          sound_disk = sound_disk;
          puts = more number disk.device new.device p so_far.puts asked_here written;
          holds = goes_on start.kind disk.device new.device user name file number so_far.holds holds;
          others = both start.kind start.device disk.device new.device (IsFile user name) so_far.others (subst (λ k. OthersAreSame k disk.device new.device (IsFile user name)) kind_is others);
          sound = subst (λ k. IsSound k (directory k new.device)) (same ∙ kind_is) sound;
          left = ap (drop 128) so_far.left ∙ drop-drop 128 (128 * number) file ∙ ap (λ n. drop n file) next;
          near = omega (arith, long);
          most = below_most start.kind number below;
        }
      where
        next : 128 * number + 128 ≡ 128 * (number + 1)
        next = omega arith

    -- or the record is not written, and `store` is refused
    pub not_written : (new : Mounted Image) (bytes : List ℕ) (why : DiskFault) → 0 < length rest → IsRecordWritten itself never disk new user name number bytes (Err why)
        → IsStopped start.kind start.device user name file why × (why ≡ fault.Exists → is_file user name (directory start.kind start.device) ≡ true)
    not_written new bytes why some done =
        let asked = (refused_by disk new _ _ why so_far.sound_disk done).0 in
        let asked_here = subst (λ k. writing k user name number (directory k disk.device) ≡ Err why) so_far.same asked in
        let long : 128 * number < length file = omega (arith, some, ap length so_far.left, length-drop (128 * number) file) in
        let within : number < records_to_put file = omega (arith, long) in
        let record_only : RefusesRecord why = one_of_them _ why (only_writing start.kind user name number (directory start.kind disk.device) is_there so_far.holds.read_only) asked_here in (
          (of_store why record_only, inr (number, disk.device, within, so_far.puts, asked_here)),
          λ exists. absurd (subst RefusesRecord exists record_only),
        )

    -- at the end of the loop all records are written
    pub finished : length rest ≡ 0 → IsStored start.kind start.device disk.device user name file
    finished none =
        let short : length file ≤ 128 * number = omega (arith, none, ap length so_far.left, length-drop (128 * number) file) in
        let all : number ≡ records_to_put file = omega (arith, short, so_far.near) in (
          subst (λ n. PutsFirstRecords start.kind start.device user name file n disk.device) all so_far.puts,
          record {
            records = λ k. all_records start.kind disk.device user name file number so_far.holds k ∙ ap (λ n. if nat_lt k n then Some (record_to_put file k) else None) all;
            size_is = size_is start.kind disk.device user name file number low so_far.sound so_far.holds ∙ ap Some all;
            read_only = so_far.holds.read_only;
            system = so_far.holds.system;
            others = so_far.others;
            sound = so_far.sound;
          },
        )

-- a file is put on the disk after the file that it replaces is erased
pub put_done : (kind same : DiskKind) (user : ℕ) (replaces : Bool) (file : NamedFile) (old mid new : Image) → same ≡ kind → MakesRoom (is_replaced user replaces file.0 (directory kind old)) kind user file.0 old mid
    → OthersAreSame kind old mid (IsFile user file.0) → IsStored same mid new user file.0 file.1 → PutsOne kind user replaces file old new
put_done kind same user replaces file old mid new is room others stored =
    let done = subst (λ k. IsStored k mid new user file.0 file.1) is stored in
    (mid, room, done, both kind old mid new (IsFile user file.0) others done.1.others)
