-- What happens to a file when a record of it is written.
use Rattle.std.proofs.Common.{◌≡◌, ◌≢◌, ◌⊎◌, ◌<◌, ◌≤◌, ◌+◌, ◌*◌, ◌/◌, ◌%◌, ◌==◌, ℕ, max, Bool, true, false, ◌&&◌, not, List, find, position, replicate, slice_set, get_or, get_or-set_same, get_or-set_other, nat_lt, Option, Some, None, Ok, option_map, option_and_then, unwrap_or, refl, sym, ap, subst, ◌∙◌, inl, inr, arith, if◌then◌else◌, true≢false, eqb-true, eq-eqb, ne_eqb, ltb-true, nat_le, slice_index}
use Rattle.cpm_image.specs.Kind.{block_count, block_records, file_records, first_block}
use Rattle.cpm_image.specs.declared.kind.DiskKind.{DiskKind}
use Rattle.cpm_disk.proofs.Numbers.{number_below, outside_directory, same_block, same_record, slot_below, slot_of, some_files}
use Rattle.cpm_disk.proofs.RecordPlaces.{place_within}
use Rattle.cpm_image.proofs.Words.{new_block, number_of_new, numbers-with_block}
use Rattle.std.proofs.lemmas.Bool.{and_from, and_parts, cases_Bool, cases_eq, eqb-false, not-false}
use Rattle.std.proofs.lemmas.List.Quantifiers.{position-Some}
use Rattle.cpm_image.specs.declared.directory.entry.Entry.{Entry}
use Rattle.cpm_image.specs.declared.directory.fault.DiskFault.TheVariants as fault
use Rattle.cpm_image.specs.Directory.Entries.{block_numbers, blocks_of, with_block, extent_number, place_in_block, at, blank, block, is_extent, is_extent_of, is_free, is_of, is_read_only, is_system, new_extent, place_on_disk, with_record}
use Rattle.cpm_image.specs.Directory.Rules.{IsSound}
use Rattle.cpm_image.specs.Directory.Searches.{file_is_read_only, free_block, free_entry, is_file}
use Rattle.cpm_disk.proofs.Entries.{found_at, below_extent, blank_is_not_of, of_file}
use Rattle.cpm_disk.proofs.Placements.{IsBlockFor, IsPlace, block_found, none_placed, place_found}
use Rattle.cpm_disk.proofs.Results.{bind_ok, given_ok, unless_ok}
use Rattle.cpm_disk.specs.declared.placement.Placement.{Placement}
use Rattle.cpm_disk.specs.Kept.{IsKeptBy}
use Rattle.cpm_disk.specs.Steps.{block_place, extent_place, found_or_new, some_or, placing, unless, writing}
use Rattle.cpm_disk.specs.Calls.{HasWritten, Written}
use Rattle.cpm_disk.specs.Files.{HasRecord, count_of, block_record, in_block}
use Rattle.cpm_disk.specs.Image.{Image, IsOfBlock, IsOfDirectory, SameBut, directory, disk_record}
use Rattle.std.proofs.lemmas.List.Folds.{list_any_at}
use Rattle.std.specs.List.{list_any}
use Rattle.cpm_image.specs.declared.directory.entry.TheConstants.{USERS}
use Rattle.cpm_disk.proofs.Attributes.{any_put, any_same}
use Rattle.cpm_disk.proofs.Files.{Alike, find_alike, same_stored}
use Rattle.cpm_disk.proofs.Maps.{extent_found, find_none, range_of}
use Rattle.cpm_disk.proofs.Others.{not_free}
use Rattle.cpm_disk.proofs.Places.{length_directory}

-- the entry of an extent before a write: the one that the extent has, or a new one in place of a free one
abbrev pub Was : (kind : DiskKind) → List Entry → ℕ → List ℕ → ℕ → ℕ × Entry → Type 0
Was kind entries user name number place = ((at entries place.0 ≡ place.1) × (is_extent_of user name number place.1 ≡ true) × (find (is_extent_of user name number) entries ≡ Some place.1))
    ⊎ ((is_free (at entries place.0) ≡ true) × (find (is_extent_of user name number) entries ≡ None) × (place.1.records ≡ 0) × ((group : ℕ) → block kind place.1 group ≡ 0) × (extent_number place.1 ≡ number) × ((first : Entry) × (find (is_of user name) entries ≡ Some first) × (place.1.name ≡ first.name)))

was : (kind : DiskKind) (user : ℕ) (name : List ℕ) (number : ℕ) (entries : List Entry) (o : Option ℕ) (place : ℕ × Entry) → user < USERS → number < 2048 → IsSound kind entries → position (is_extent_of user name number) entries ≡ o → found_or_new user name number entries o ≡ Ok place → Was kind entries user name number place
was kind user name number entries (Some k) place low small sound found is =
    let here = position-Some (is_extent_of user name number) entries k blank found in
    let same : ◌≡◌ {A = ℕ × Entry} (k, at entries k) place = cc in
    subst (λ (p : ℕ × Entry). Was kind entries user name number p) same (inl (refl, here.1, extent_found kind entries user name number k low sound here.0 here.1))
was kind user name number entries None place low small sound none is =
    let (k, free, rest) = bind_ok (some_or (free_entry entries) fault.DirectoryFull) _ place is in
    let (e, first, last) = bind_ok (some_or (find (is_of user name) entries) fault.NotFound) _ place rest in
    let same : ◌≡◌ {A = ℕ × Entry} (k, new_extent user e.name number) place = cc in
    let here = position-Some is_free entries k blank (given_ok (free_entry entries) fault.DirectoryFull k free) in
    subst (λ (p : ℕ × Entry). Was kind entries user name number p) same
    (inr (here.1, find_none (is_extent_of user name number) entries (λ j _. none_placed (is_extent_of user name number) entries j (ap (λ b. b && (extent_number blank == number)) (blank_is_not_of user name low)) none), refl, (λ group. new_block kind user number group e.name), number_of_new user number e.name small, (e, given_ok (find (is_of user name) entries) fault.NotFound e first, refl)))

-- the block of the record: new, or the one that the entry had
abbrev pub Had : (kind : DiskKind) → Entry → ℕ → ℕ × Bool → Type 0
Had kind e group found = ((found.1 ≡ true) × (block kind e group ≡ 0)) ⊎ ((found.1 ≡ false) × (block kind e group ≡ found.0) × (0 < found.0))

had : (kind : DiskKind) (e : Entry) (group : ℕ) (entries : List Entry) (found : ℕ × Bool) → block_place kind e group entries ≡ Ok found → Had kind e group found
had kind e group entries found is = elim (cases_Bool (block kind e group == 0)) as (λ _. Had kind e group found) [
  | inl none ↦ (let (b, given_b, last) = bind_ok (some_or (free_block kind entries) fault.DiskFull) (λ b. Ok (b, true)) found (rw none at is) in
      let same : ◌≡◌ {A = ℕ × Bool} (b, true) found = cc in
      subst (λ (f : ℕ × Bool). Had kind e group f) same (inl (refl, eqb-true (block kind e group) 0 none)))
  | inr some ↦ (let same : ◌≡◌ {A = ℕ × Bool} (block kind e group, false) found = (let found_is = rw some at is in cc) in
      let present = eqb-false (block kind e group) 0 some in
      subst (λ (f : ℕ × Bool). Had kind e group f) same (inr (refl, refl, omega arith)))
]

-- no other group of the entry has the block
alone : (kind : DiskKind) (user : ℕ) (name : List ℕ) (entries : List Entry) (place : ℕ × Entry) (group b : ℕ) → IsPlace kind user name entries place → IsBlockFor kind entries place.1 group b → (other : ℕ) → other ≢ group → block kind place.1 other ≡ b → ⊥
alone kind user name entries place group b fits (inl old) other apart same = apart (sym (fits.fits.own group other (subst (λ n. 0 < n) (sym old.1) old.0) (old.1 ∙ sym same)))
alone kind user name entries place group b fits (inr new) other apart same = new.2 other same

-- the extent's number
extent_is : (kind : DiskKind) (entries : List Entry) (user : ℕ) (name : List ℕ) (number : ℕ) (place : ℕ × Entry) → Was kind entries user name number place → extent_number place.1 ≡ number
extent_is kind entries user name number place (inl old) = eqb-true (extent_number place.1) number (and_parts (is_of user name place.1) (extent_number place.1 == number) old.1).1
extent_is kind entries user name number place (inr new) = new.4

-- the count and the records of the extent before
count_was : (kind : DiskKind) (image : Image) (user : ℕ) (name : List ℕ) (number : ℕ) (place : ℕ × Entry) → Was kind (directory kind image) user name number place → unwrap_or (count_of kind image user name number) 0 ≡ place.1.records
count_was kind image user name number place (inl old) = ap (λ o. unwrap_or (option_map (λ e. e.records) o) 0) old.2
count_was kind image user name number place (inr new) = ap (λ o. unwrap_or (option_map (λ e. e.records) o) 0) new.1 ∙ sym new.2

stored_was : (kind : DiskKind) (image : Image) (user : ℕ) (name : List ℕ) (number i : ℕ) (place : ℕ × Entry) → Was kind (directory kind image) user name number place → block_record kind image user name number i ≡ in_block kind image i place.1
stored_was kind image user name number i place (inl old) = ap (option_and_then (in_block kind image i)) old.2
stored_was kind image user name number i place (inr new) = ap (option_and_then (in_block kind image i)) new.1 ∙ sym (ap (λ b. if b == 0 then None else Some (disk_record kind image (place_on_disk kind place.1 i))) (new.3 (i / block_records kind)))

-- the bytes of a record in a block that an entry names
stored_there : (kind : DiskKind) (image : Image) (e : Entry) (i b : ℕ) → block kind e (i / block_records kind) ≡ b → 0 < b → in_block kind image i e ≡ Some (disk_record kind image (place_in_block kind b i))
stored_there kind image e i b is some =
    ap (λ n. if n == 0 then None else Some (disk_record kind image (place_in_block kind n i))) is
    ∙ ap (λ t. if t then None else Some (disk_record kind image (place_in_block kind b i))) (ne_eqb b 0 (λ none. omega arith))

stored_not : (kind : DiskKind) (image : Image) (e : Entry) (i : ℕ) → block kind e (i / block_records kind) ≡ 0 → in_block kind image i e ≡ None
stored_not kind image e i none = ap (λ n. if n == 0 then None else Some (disk_record kind image (place_in_block kind n i))) none

-- the other records of the block
beside_it : (kind : DiskKind) (old new : Image) (user : ℕ) (name : List ℕ) (number i j b : ℕ) (is_new : Bool) (bytes : List ℕ) (place : ℕ × Entry) → Was kind (directory kind old) user name number place → Had kind place.1 (j / block_records kind) (b, is_new) → j % block_records kind ≢ i → HasWritten kind old new b i is_new bytes
    → disk_record kind new (block_records kind * b + j % block_records kind) ≡ unwrap_or (block_record kind old user name number j) (replicate 128 0)
beside_it kind old new user name number i j b is_new bytes place before (inl had_none) apart made =
    made.beside (j % block_records kind) (slot_below kind j) apart ∙ ap (λ t. if t then replicate 128 0 else disk_record kind old (block_records kind * b + j % block_records kind)) had_none.0
    ∙ sym (ap (λ o. unwrap_or o (replicate 128 0)) (stored_was kind old user name number j place before ∙ stored_not kind old place.1 j had_none.1))
beside_it kind old new user name number i j b is_new bytes place before (inr had_it) apart made =
    made.beside (j % block_records kind) (slot_below kind j) apart ∙ ap (λ t. if t then replicate 128 0 else disk_record kind old (block_records kind * b + j % block_records kind)) had_it.0
    ∙ sym (ap (λ o. unwrap_or o (replicate 128 0)) (stored_was kind old user name number j place before ∙ stored_there kind old place.1 j b had_it.1 had_it.2))

-- a record of an entry outside the block that is written
pub other_block : (kind : DiskKind) (old new : Image) (e : Entry) (i b : ℕ) → ((block kind e (i / block_records kind) ≡ 0 → ⊥) → (first_block kind ≤ block kind e (i / block_records kind)) × (block kind e (i / block_records kind) < block_count kind)) → (block kind e (i / block_records kind) ≡ b → ⊥) → SameBut kind (λ n. IsOfDirectory kind n ⊎ IsOfBlock kind b n) old new → in_block kind new i e ≡ in_block kind old i e
other_block kind old new e i b range apart rest = same_stored kind old new e i (λ some.
    let within = range some in
    let place = place_within kind (block kind e (i / block_records kind)) i within.0 within.1 in
    rest.records (place_on_disk kind e i) place.1 (λ of. elim of [ inl in_directory ↦ outside_directory kind (place_on_disk kind e i) place.0 in_directory | inr inside ↦ apart (same_block kind (block kind e (i / block_records kind)) b i inside) ]))

-- another number is another extent
not_extent : (user : ℕ) (name : List ℕ) (number other : ℕ) (e : Entry) → extent_number e ≡ number → other ≢ number → is_extent_of user name other e ≡ false
not_extent user name number other e is apart = elim (cases_Bool (is_extent_of user name other e)) as (λ _. is_extent_of user name other e ≡ false) [
  | inl of ↦ absurd (apart (sym (eqb-true (extent_number e) other (and_parts (is_of user name e) (extent_number e == other) of).1) ∙ is))
  | inr not_of ↦ not_of
]

-- an entry after record i is written, given the sixteen bytes of its blocks
abbrev pub with_bytes : Entry → ℕ → List ℕ → Entry
with_bytes e i bytes = record e { records = max e.records (i + 1); blocks = bytes }

pub record_put : (kind : DiskKind) (old new : Image) (user : ℕ) (name : List ℕ) (number : ℕ) (bytes : List ℕ) (place : ℕ × Entry) (b : ℕ) (is_new : Bool) (spelled : List ℕ) → block_numbers kind spelled ≡ slice_set (blocks_of kind place.1) (number % 128 / block_records kind) b → user < USERS → IsSound kind (directory kind old) → IsSound kind (directory kind new)
    → IsPlace kind user name (directory kind old) place → Was kind (directory kind old) user name (number / 128) place → Had kind place.1 (number % 128 / block_records kind) (b, is_new) → ((other : ℕ) → other ≢ number % 128 / block_records kind → block kind place.1 other ≡ b → ⊥) → first_block kind ≤ b → b < block_count kind
    → ((k group : ℕ) → k ≢ place.0 → is_extent (at (directory kind old) k) ≡ true → block kind (at (directory kind old) k) group ≡ b → ⊥)
    → block kind (with_bytes place.1 (number % 128) spelled) (number % 128 / block_records kind) ≡ b
    → directory kind new ≡ slice_set (directory kind old) place.0 (with_bytes place.1 (number % 128) spelled) → HasWritten kind old new b (number % block_records kind) is_new bytes → HasRecord kind old new user name number bytes
record_put kind old new user name number bytes place b is_new spelled numbers low sound sound_new fits before had_block lone files small elsewhere placed is made = record {
  count = ap (option_map (λ e. e.records)) found ∙ ap (λ n. Some (max n (number % 128 + 1))) (sym (count_was kind old user name (number / 128) place before));
  here = stored_here (number % 128) ∙ stored_there kind new entry (number % 128) b placed (let some = some_files kind in omega arith) ∙ ap (λ bs. Some bs) (ap (λ n. disk_record kind new (block_records kind * b + n)) (slot_of kind number) ∙ made.here);
  block = λ i below apart same_group. stored_here i ∙ stored_there kind new entry i b (ap (block kind entry) same_group ∙ placed) (let some = some_files kind in omega arith)
      ∙ ap (λ bs. Some bs) (beside_it kind old new user name (number / 128) (number % block_records kind) i b is_new bytes place before (subst (λ g. Had kind place.1 g (b, is_new)) (sym same_group) had_block) (λ same. apart (same_record kind i number same_group same)) made);
  extent = λ i below other_group. stored_here i ∙ same_slot i other_group
      ∙ other_block kind old new place.1 i b (λ some. range i some) (lone (i / block_records kind) other_group) made.rest
      ∙ sym (stored_was kind old user name (number / 128) i place before);
  counts = λ other apart. ap (option_map (λ e. e.records)) (found_other other apart);
  records = λ other i apart below. ap (option_and_then (in_block kind new i)) (found_other other apart) ∙ by_entry other i apart (find (is_extent_of user name other) (directory kind old)) refl;
  read_only = attribute is_read_only refl (λ e named. ap (λ n. nat_le 128 (slice_index n 8)) named);
  system = attribute is_system refl (λ e named. ap (λ n. nat_le 128 (slice_index n 9)) named);
}
  where
    entry : Entry
    entry = with_bytes place.1 (number % 128) spelled

    at_place : at (directory kind new) place.0 ≡ with_bytes place.1 (number % 128) spelled
    at_place = ap (λ es. at es place.0) is ∙ get_or-set_same (directory kind old) place.0 (with_bytes place.1 (number % 128) spelled) blank fits.within

    -- an attribute depends only on the name
    attribute : (q : Entry → Bool) → q (with_bytes place.1 (number % 128) spelled) ≡ q place.1 → ((e : Entry) → place.1.name ≡ e.name → q place.1 ≡ q e)
        → list_any (λ e. is_of user name e && q e) (directory kind new) ≡ list_any (λ e. is_of user name e && q e) (directory kind old)
    attribute q same by_name = ap (list_any (λ e. is_of user name e && q e)) is ∙ elim before as (λ _. list_any (λ e. is_of user name e && q e) (slice_set (directory kind old) place.0 (with_bytes place.1 (number % 128) spelled)) ≡ list_any (λ e. is_of user name e && q e) (directory kind old)) [
      | inl old_one ↦ any_same (λ e. is_of user name e && q e) (directory kind old) place.0 (with_bytes place.1 (number % 128) spelled) fits.within
          (ap (λ t. is_of user name place.1 && t) same ∙ ap (λ e. is_of user name e && q e) (sym old_one.0))
      | inr (free, none, zero_records, no_blocks, extent_too, (first, found_first, named)) ↦ any_put (λ e. is_of user name e && q e) (directory kind old) place.0 (with_bytes place.1 (number % 128) spelled) fits.within
          (ap (λ t. t && q (at (directory kind old) place.0)) (not_free user name (at (directory kind old) place.0) low free))
          (λ passes.
          let (j, below_j, is_first, of_first) = found_at (is_of user name) (directory kind old) first found_first in
          let has = (and_parts (is_of user name place.1) (q (with_bytes place.1 (number % 128) spelled)) passes).1 in
          list_any_at (λ e. is_of user name e && q e) (directory kind old) j blank below_j
          (subst (λ e. (is_of user name e && q e) ≡ true) is_first (and_from (is_of user name first) (q first) of_first (sym (by_name first named) ∙ sym same ∙ has))))
    ]

    number_is : extent_number place.1 ≡ number / 128
    number_is = extent_is kind (directory kind old) user name (number / 128) place before

    is_extent_here : is_extent_of user name (number / 128) (with_bytes place.1 (number % 128) spelled) ≡ true
    is_extent_here = and_from (is_of user name place.1) (extent_number place.1 == number / 128) fits.of_file (eq-eqb (extent_number place.1) (number / 128) number_is)

    found : find (is_extent_of user name (number / 128)) (directory kind new) ≡ Some (with_bytes place.1 (number % 128) spelled)
    found = extent_found kind (directory kind new) user name (number / 128) place.0 low sound_new (let long = length_directory kind old in let long_too = length_directory kind new in let within = fits.within in omega arith) (subst (λ x. is_extent_of user name (number / 128) x ≡ true) (sym at_place) is_extent_here) ∙ ap (λ e. Some e) at_place

    stored_here : (i : ℕ) → block_record kind new user name (number / 128) i ≡ in_block kind new i (with_bytes place.1 (number % 128) spelled)
    stored_here i = ap (option_and_then (in_block kind new i)) found

    same_slot : (i : ℕ) → i / block_records kind ≢ number % 128 / block_records kind → in_block kind new i (with_bytes place.1 (number % 128) spelled) ≡ in_block kind new i place.1
    same_slot i other_group = ap (λ n. if n == 0 then None else Some (disk_record kind new (place_in_block kind n i))) (ap (λ ns. get_or ns (i / block_records kind) 0) numbers ∙ get_or-set_other (blocks_of kind place.1) (number % 128 / block_records kind) (i / block_records kind) b 0 other_group)

    range : (i : ℕ) → (block kind place.1 (i / block_records kind) ≡ 0 → ⊥) → (first_block kind ≤ block kind place.1 (i / block_records kind)) × (block kind place.1 (i / block_records kind) < block_count kind)
    range i some = elim (fits.fits.blocks (i / block_records kind)) as (λ _. (first_block kind ≤ block kind place.1 (i / block_records kind)) × (block kind place.1 (i / block_records kind) < block_count kind)) [ inl none ↦ absurd (some none) | inr within ↦ within ]

    not_there : (other : ℕ) → other ≢ number / 128 → is_extent_of user name other (at (directory kind old) place.0) ≡ false
    not_there other apart = elim before as (λ _. is_extent_of user name other (at (directory kind old) place.0) ≡ false) [
      | inl had_it ↦ subst (λ x. is_extent_of user name other x ≡ false) (sym had_it.0) (not_extent user name (number / 128) other place.1 number_is apart)
      | inr free ↦ ap (λ t. t && (extent_number (at (directory kind old) place.0) == other)) (not_free user name (at (directory kind old) place.0) low free.0)
    ]

    found_other : (other : ℕ) → other ≢ number / 128 → find (is_extent_of user name other) (directory kind new) ≡ find (is_extent_of user name other) (directory kind old)
    found_other other apart = find_alike (is_extent_of user name other) (directory kind old) (directory kind new) (length_directory kind new ∙ sym (length_directory kind old)) (λ j _. elim (cases_eq j place.0) as (λ _. Alike (is_extent_of user name other) (at (directory kind old) j) (at (directory kind new) j)) [
      | inl here ↦ inr (
        subst (λ n. is_extent_of user name other (at (directory kind old) n) ≡ false) (sym here) (not_there other apart),
        subst (λ n. is_extent_of user name other (at (directory kind new) n) ≡ false) (sym here) (subst (λ x. is_extent_of user name other x ≡ false) (sym at_place) (not_extent user name (number / 128) other (with_bytes place.1 (number % 128) spelled) number_is apart)),
      )
      | inr away ↦ inl (ap (λ es. at es j) is ∙ get_or-set_other (directory kind old) place.0 j (with_bytes place.1 (number % 128) spelled) blank away)
    ])

    by_entry : (other i : ℕ) → other ≢ number / 128 → (o : Option Entry) → find (is_extent_of user name other) (directory kind old) ≡ o → option_and_then (in_block kind new i) o ≡ option_and_then (in_block kind old i) o
    by_entry other i apart None is_none = refl
    by_entry other i apart (Some e) is_e =
        let (k, below_k, is_at, passes) = found_at (is_extent_of user name other) (directory kind old) e is_e in
        let user_is = (of_file user name e (and_parts (is_of user name e) (extent_number e == other) passes).0).0 in
        let ext : is_extent (at (directory kind old) k) ≡ true = subst (λ x. is_extent x ≡ true) is_at (below_extent e (omega arith)) in
        let away : k ≢ place.0 = λ here. true≢false (sym (subst (λ x. is_extent_of user name other x ≡ true) is_at passes) ∙ subst (λ n. is_extent_of user name other (at (directory kind old) n) ≡ false) (sym here) (not_there other apart)) in
        other_block kind old new e i b (λ some. range_of kind (directory kind old) k e sound is_at (omega arith) (i / block_records kind) some) (λ same. elsewhere k (i / block_records kind) away ext (ap (λ x. block kind x (i / block_records kind)) (sym is_at) ∙ same)) made.rest

-- where a placement comes from: the entry of the extent as it was, and the block of the record
pub record Placed (kind : DiskKind) (entries : List Entry) (user : ℕ) (name : List ℕ) (number : ℕ) (p : Placement) : Type 0 where
  pub place : ℕ × Entry
  pub at_number : p.entry_number ≡ place.0
  pub entry : p.entry ≡ with_record kind place.1 (number % 128) p.block
  pub fits : IsPlace kind user name entries place
  pub was : Was kind entries user name (number / 128) place
  pub had : Had kind place.1 (number % 128 / block_records kind) (p.block, p.is_new)
  pub lone : (other : ℕ) → other ≢ number % 128 / block_records kind → block kind place.1 other ≡ p.block → ⊥

pub placed_of : (kind : DiskKind) (user : ℕ) (name : List ℕ) (number : ℕ) (entries : List Entry) (p : Placement) → user < USERS → IsSound kind entries → IsKeptBy kind user name entries p → writing kind user name number entries ≡ Ok p → Placed kind entries user name number p
placed_of kind user name number entries p low sound kept asked =
    let (there, is_1) = unless_ok (not (is_file user name entries)) fault.NotFound (unless (file_is_read_only user name entries) fault.ReadOnly (unless (not (nat_lt number (file_records kind))) fault.TooFar (placing kind user name number entries))) p asked in
    let (open_to, is_2) = unless_ok (file_is_read_only user name entries) fault.ReadOnly (unless (not (nat_lt number (file_records kind))) fault.TooFar (placing kind user name number entries)) p is_1 in
    let (near, is_3) = unless_ok (not (nat_lt number (file_records kind))) fault.TooFar (placing kind user name number entries) p is_2 in
    let (place, is_place, is_4) = bind_ok (extent_place user name (number / 128) entries) _ p is_3 in
    let (found, in_its_block, is_5) = bind_ok (block_place kind place.1 (number % 128 / block_records kind) entries) _ p is_4 in
    let below = ltb-true number (file_records kind) (not-false (nat_lt number (file_records kind)) near) in
    let fits = place_found kind user name (number / 128) entries (position (is_extent_of user name (number / 128)) entries) place low (omega arith) sound refl is_place in
    let blocks = block_found kind user name entries place (number % 128 / block_records kind) found fits in_its_block in
    let same : ◌≡◌ {A = Placement} (record { entry_number = place.0; entry = with_record kind place.1 (number % 128) found.0; block = found.0; is_new = found.1 }) p = cc in
    subst (λ (q : Placement). Placed kind entries user name number q) same (record {
      place = place;
      at_number = refl;
      entry = refl;
      fits = fits;
      was = was kind user name (number / 128) entries (position (is_extent_of user name (number / 128)) entries) place low (number_below kind number below) sound refl is_place;
      had = had kind place.1 (number % 128 / block_records kind) entries found in_its_block;
      lone = alone kind user name entries place (number % 128 / block_records kind) found.0 fits blocks.2;
    })

pub record_written : (kind : DiskKind) (old new : Image) (user : ℕ) (name : List ℕ) (number : ℕ) (bytes : List ℕ) (p : Placement) → user < USERS → IsSound kind (directory kind old) → IsSound kind (directory kind new) → IsKeptBy kind user name (directory kind old) p
    → block kind p.entry (number % 128 / block_records kind) ≡ p.block → writing kind user name number (directory kind old) ≡ Ok p → Written kind old new p (number % block_records kind) bytes → HasRecord kind old new user name number bytes
record_written kind old new user name number bytes p low sound sound_new kept placed asked made =
    let is = placed_of kind user name number (directory kind old) p low sound kept asked in
    record_put kind old new user name number bytes is.place p.block p.is_new (with_block kind is.place.1.blocks (number % 128 / block_records kind) p.block) (numbers-with_block kind is.place.1.blocks (number % 128 / block_records kind) p.block) low sound sound_new is.fits is.was is.had is.lone kept.block_from kept.block_to
    (λ k group away. kept.apart k group (λ same. away (same ∙ is.at_number)))
    (ap (λ (e : Entry). block kind e (number % 128 / block_records kind)) (sym is.entry) ∙ placed)
    (made.entries_are ∙ ap (λ n. slice_set (directory kind old) n p.entry) is.at_number ∙ ap (slice_set (directory kind old) is.place.0) is.entry)
    made.data_are
