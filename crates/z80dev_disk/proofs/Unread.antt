-- If a record cannot be read, the file does not have it.
use Rattle.std.proofs.Common.{◌≡◌, ◌<◌, ◌/◌, ◌%◌, ℕ, true, false, not, List, Option, Some, None, Ok, Err, find, nat_lt, option_and_then, refl, sym, ap, ◌∙◌, inl, inr, if◌then◌else◌, lt-ltb}
use Rattle.std.proofs.lemmas.Bool.{cases_Bool}
use Rattle.cpm_image.specs.Kind.{file_records}
use Rattle.cpm_image.specs.declared.kind.DiskKind.{DiskKind}
use Rattle.cpm_image.specs.declared.directory.entry.Entry.{Entry}
use Rattle.cpm_image.specs.declared.directory.fault.DiskFault.{DiskFault}
use Rattle.cpm_image.specs.declared.directory.fault.DiskFault.TheVariants as fault
use Rattle.cpm_image.specs.Directory.Entries.{has_record, is_extent_of, place_on_disk}
use Rattle.cpm_image.specs.Directory.Searches.{is_file}
use Rattle.cpm_disk.specs.Steps.{◌>>=◌, some_or, reading, unless, written_place}
use Rattle.cpm_disk.specs.Calls.{Mounted}
use Rattle.cpm_disk.specs.Files.{file_record, in_block}
use Rattle.cpm_disk.specs.Image.{Image, directory}
use Rattle.cpm_disk.specs.Operations.{IsRecordRead}
use Rattle.z80dev_disk.proofs.Memory.{itself, never, refused_by}
use Rattle.z80dev_disk.proofs.Others.{no_extent}

module _ (kind : DiskKind) (image : Image) (user : ℕ) (name : List ℕ) (number : ℕ) where
  of_extent : (o : Option Entry) (why : DiskFault) → (some_or o fault.NoExtent >>= written_place kind (number % 128)) ≡ Err why → option_and_then (λ e. if has_record kind e (number % 128) then in_block kind image (number % 128) e else None) o ≡ None
  of_extent None why is = refl
  of_extent (Some e) why is = elim (cases_Bool (has_record kind e (number % 128))) as (λ _. (if has_record kind e (number % 128) then in_block kind image (number % 128) e else None) ≡ None) [
    | inl has ↦ (let read : unless (not true) fault.Unwritten (Ok (place_on_disk kind e (number % 128))) ≡ Err why = ap (λ b. unless (not b) fault.Unwritten (Ok (place_on_disk kind e (number % 128)))) (sym has) ∙ is in absurd cc)
    | inr without ↦ ap (λ b. if b then in_block kind image (number % 128) e else None) without
  ]

  unread : (why : DiskFault) → number < file_records kind → reading kind user name number (directory kind image) ≡ Err why → file_record kind image user name number ≡ None
  unread why within is = elim (cases_Bool (is_file user name (directory kind image))) as (λ _. file_record kind image user name number ≡ None) [
    | inl some ↦ (
        let extent = some_or (find (is_extent_of user name (number / 128)) (directory kind image)) fault.NoExtent >>= written_place kind (number % 128) in
        let low : nat_lt number (file_records kind) ≡ true = lt-ltb number (file_records kind) within in
        let rest : extent ≡ Err why = sym (ap (λ b. unless (not b) fault.NotFound (unless (not (nat_lt number (file_records kind))) fault.TooFar extent)) some ∙ ap (λ b. unless (not b) fault.TooFar extent) low) ∙ is in
        of_extent (find (is_extent_of user name (number / 128)) (directory kind image)) why rest)
    | inr none ↦ ap (λ o. option_and_then (λ e. if has_record kind e (number % 128) then in_block kind image (number % 128) e else None) o) (no_extent user name (number / 128) (directory kind image) none)
  ]

pub not_read : (disk new : Mounted Image) (user : ℕ) (name : List ℕ) (number : ℕ) (why : DiskFault) → disk.failed ≡ false → number < file_records disk.kind → IsRecordRead itself never disk new user name number (Err why)
    → file_record disk.kind disk.device user name number ≡ None
not_read disk new user name number why sound within done = unread disk.kind disk.device user name number why within (refused_by disk new _ _ why sound done).0
