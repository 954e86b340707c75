-- A record that a file has is in the blocks for files.
use Rattle.std.proofs.Common.{◌≡◌, ◌<◌, ◌≤◌, ◌/◌, ◌%◌, ◌==◌, ℕ, true, not, List, subst, sym, inl, inr, arith, nat_lt, Ok, find}
use Rattle.std.proofs.lemmas.Bool.{and_parts, eqb-false, not-true, not-false}
use Rattle.cpm_image.specs.declared.directory.entry.TheConstants.{USERS}
use Rattle.cpm_image.specs.Kind.{block_count, block_records, directory_records, file_records, first_block, record_count}
use Rattle.cpm_image.specs.declared.kind.DiskKind.{DiskKind}
use Rattle.cpm_image.specs.declared.kind.DiskKind.TheVariants.{EightInch, Megabyte}
use Rattle.cpm_image.specs.declared.directory.entry.Entry.{Entry}
use Rattle.cpm_image.specs.declared.directory.fault.DiskFault.TheVariants as fault
use Rattle.cpm_image.specs.Directory.Entries.{block, has_record, is_extent, is_extent_of, place_in_block, place_on_disk}
use Rattle.cpm_image.specs.Directory.Rules.{IsBlock, IsSound}
use Rattle.cpm_image.specs.Directory.Searches.{is_file}
use Rattle.cpm_disk.specs.Steps.{◌>>=◌, some_or, reading, written_place, unless}
use Rattle.cpm_disk.proofs.Results.{bind_ok, given_ok, unless_ok}
use Rattle.cpm_disk.proofs.Entries.{found_at}
use Rattle.cpm_disk.proofs.Placements.{extent_of_file}

-- the records of a block for files
pub place_within : (kind : DiskKind) (b i : ℕ) → first_block kind ≤ b → b < block_count kind → (directory_records kind ≤ place_in_block kind b i) × (place_in_block kind b i < record_count kind)
place_within EightInch b i from to = (omega arith, omega arith)
place_within Megabyte b i from to = (omega arith, omega arith)

pub reading_within : (kind : DiskKind) (user : ℕ) (name : List ℕ) (number : ℕ) (entries : List Entry) (n : ℕ) → user < USERS → IsSound kind entries → reading kind user name number entries ≡ Ok n → (directory_records kind ≤ n) × (n < record_count kind)
reading_within kind user name number entries n low sound is =
    let (there, is_1) = unless_ok (not (is_file user name entries)) fault.NotFound (unless (not (nat_lt number (file_records kind))) fault.TooFar (some_or (find (is_extent_of user name (number / 128)) entries) fault.NoExtent >>= written_place kind (number % 128))) n is in
    let (near, is_2) = unless_ok (not (nat_lt number (file_records kind))) fault.TooFar (some_or (find (is_extent_of user name (number / 128)) entries) fault.NoExtent >>= written_place kind (number % 128)) n is_1 in
    let (e, found, is_3) = bind_ok (some_or (find (is_extent_of user name (number / 128)) entries) fault.NoExtent) (written_place kind (number % 128)) n is_2 in
    let (written, is_4) = unless_ok (not (has_record kind e (number % 128))) fault.Unwritten (Ok (place_on_disk kind e (number % 128))) n is_3 in
    let is_found = given_ok (find (is_extent_of user name (number / 128)) entries) fault.NoExtent e found in
    let (k, below_k, is_at, passes) = found_at (is_extent_of user name (number / 128)) entries e is_found in
    let ext = extent_of_file user name (number / 128) e low passes in
    let parts = and_parts (nat_lt (number % 128) e.records) (not (block kind e (number % 128 / block_records kind) == 0)) (not-false (has_record kind e (number % 128)) written) in
    let present = eqb-false (block kind e (number % 128 / block_records kind)) 0 (not-true (block kind e (number % 128 / block_records kind) == 0) parts.1) in
    let rules = sound.blocks k (subst (λ x. is_extent x ≡ true) is_at ext) (number % 128 / block_records kind) in
    let range : (first_block kind ≤ block kind e (number % 128 / block_records kind)) × (block kind e (number % 128 / block_records kind) < block_count kind) = elim (subst (λ x. IsBlock kind (block kind x (number % 128 / block_records kind))) (sym is_at) rules) as (λ _. (first_block kind ≤ block kind e (number % 128 / block_records kind)) × (block kind e (number % 128 / block_records kind) < block_count kind)) [ inl none ↦ absurd (present none) | inr within ↦ within ] in
    let same : place_on_disk kind e (number % 128) ≡ n = cc in
    subst (λ m. (directory_records kind ≤ m) × (m < record_count kind)) same (place_within kind (block kind e (number % 128 / block_records kind)) (number % 128) range.0 range.1)
