-- Files that a call does not name are as they were.
use Rattle.std.proofs.Common.{◌≡◌, ◌≢◌, ◌<◌, ◌≤◌, ◌/◌, ◌%◌, ◌==◌, ℕ, true, false, ◌&&◌, ◌||◌, List, [], ◌∷◌, length, slice_set, get_or-set_same, get_or-set_other, refl, sym, ap, subst, ◌∙◌, inl, inr, arith, if◌then◌else◌, true≢false, eqb-true, nat_eq, Ok}
use Rattle.cpm_image.specs.Kind.{block_count, block_records, directory_records, entry_count, first_block, record_count}
use Rattle.cpm_image.specs.declared.kind.DiskKind.{DiskKind}
use Rattle.cpm_disk.proofs.Numbers.{outside_directory, same_block}
use Rattle.cpm_disk.proofs.RecordPlaces.{place_within}
use Rattle.std.proofs.lemmas.Bool.{and_parts, cases_Bool, cases_eq}
use Rattle.cpm_image.specs.declared.directory.entry.TheConstants.{USERS}
use Rattle.cpm_image.specs.declared.directory.entry.Entry.{Entry}
use Rattle.cpm_image.specs.Directory.Entries.{at, blank, block, erased, is_free, is_match, is_of, new_extent, place_on_disk, renamed}
use Rattle.cpm_image.specs.Directory.Letters.{byte_matches, letters, name_matches}
use Rattle.cpm_image.specs.Directory.Rules.{IsSound}
use Rattle.cpm_image.specs.Directory.Searches.{free_entry, is_file}
use Rattle.cpm_image.specs.declared.directory.fault.DiskFault.TheVariants as fault
use Rattle.cpm_disk.proofs.Entries.{below_extent, is_of_file, letters_with, of_file}
use Rattle.cpm_disk.proofs.Kept.{at_erasure, at_renaming, length_of_name}
use Rattle.cpm_disk.specs.declared.placement.Placement.{Placement}
use Rattle.cpm_disk.specs.Kept.{IsKeptBy, IsGoodPut}
use Rattle.cpm_disk.specs.Steps.{◌>>=◌, after_erasure, after_renaming, creation, some_or, erased_by, renamed_by}
use Rattle.cpm_disk.proofs.Results.{bind_ok, unless_ok}
use Rattle.cpm_disk.specs.Calls.{Changed, PartlyChanged, PartlyWritten, Written}
use Rattle.cpm_disk.specs.Files.{IsEither, IsFile, IsMatched, OthersAreSame, SameFile}
use Rattle.cpm_disk.specs.Image.{Image, IsOfBlock, directory, disk_record}
use Rattle.cpm_disk.proofs.StillMounted.{write_between}
use Rattle.cpm_disk.proofs.Files.{Alike, same_file}

-- a call that changes only the directory, and no entry of the file
pub beside : (kind : DiskKind) (old new : Image) (entries : List Entry) (user : ℕ) (name : List ℕ) → user < USERS → IsSound kind (directory kind old) → PartlyChanged kind old new entries
    → ((k : ℕ) → k < entry_count kind → Alike (is_of user name) (at (directory kind old) k) (at entries k)) → SameFile kind old new user name
beside kind old new entries user name low sound left alike = same_file kind old new user name
    (λ k below. elim (left.between k) as (λ _. Alike (is_of user name) (at (directory kind old) k) (at (directory kind new) k)) [
      | inl same ↦ inl same
      | inr after ↦ subst (Alike (is_of user name) (at (directory kind old) k)) (sym after) (alike k below)
    ])
    (λ k i below low_i of some.
    let ext = below_extent (at (directory kind old) k) (let user_is = (of_file user name (at (directory kind old) k) of).0 in omega arith) in
    let range : (first_block kind ≤ block kind (at (directory kind old) k) (i / block_records kind)) × (block kind (at (directory kind old) k) (i / block_records kind) < block_count kind) = elim (sound.blocks k ext (i / block_records kind)) [ inl none ↦ absurd (some none) | inr files ↦ files ] in
    let within = place_within kind (block kind (at (directory kind old) k) (i / block_records kind)) i range.0 range.1 in
    left.rest.records (place_on_disk kind (at (directory kind old) k) i) within.1 (outside_directory kind (place_on_disk kind (at (directory kind old) k) i) within.0))

pub whole_change : (kind : DiskKind) (old new : Image) (entries : List Entry) → Changed kind old new entries → PartlyChanged kind old new entries
whole_change kind old new entries made = record { between = λ k. inr (ap (λ es. at es k) made.entries_are); rest = made.rest }

-- a free entry does not belong to the file
pub not_free : (user : ℕ) (name : List ℕ) (e : Entry) → user < USERS → is_free e ≡ true → is_of user name e ≡ false
not_free user name e low free = elim (cases_Bool (is_of user name e)) as (λ _. is_of user name e ≡ false) [
  | inl of ↦ (let user_is = (of_file user name e of).0 in let free_is = eqb-true e.user 0xE5 free in absurd (omega arith))
  | inr not_of ↦ not_of
]

pub apart_from : (user : ℕ) (name : List ℕ) (other : ℕ) (others : List ℕ) (e : Entry) → is_of user name e ≡ true → ((other ≡ user) → (others ≡ name) → ⊥) → is_of other others e ≡ false
apart_from user name other others e of apart = elim (cases_Bool (is_of other others e)) as (λ _. is_of other others e ≡ false) [
  | inl too ↦ (let one = of_file user name e of in let two = of_file other others e too in absurd (apart (sym two.0 ∙ one.0) (sym two.1 ∙ one.1)))
  | inr not_of ↦ not_of
]

-- an entry is written over one that does not belong to the file, and does not belong to it itself
pub put_alike : (entries : List Entry) (number : ℕ) (e : Entry) (user : ℕ) (name : List ℕ) → number < length entries → is_of user name (at entries number) ≡ false → is_of user name e ≡ false → (k : ℕ) → Alike (is_of user name) (at entries k) (at (slice_set entries number e) k)
put_alike entries number e user name within before after k = elim (cases_eq k number) as (λ _. Alike (is_of user name) (at entries k) (at (slice_set entries number e) k)) [
  | inl here ↦ inr (
    subst (λ n. is_of user name (at entries n) ≡ false) (sym here) before,
    subst (λ n. is_of user name (at (slice_set entries number e) n) ≡ false) (sym here) (subst (λ x. is_of user name x ≡ false) (sym (get_or-set_same entries number e blank within)) after),
  )
  | inr other ↦ inl (get_or-set_other entries number k e blank other)
]

pub over_free : (kind : DiskKind) (entries : List Entry) (put : ℕ × Entry) (user : ℕ) (name : List ℕ) (other : ℕ) (others : List ℕ) → other < USERS → IsGoodPut kind entries put → is_of user name put.1 ≡ true → ((other ≡ user) → (others ≡ name) → ⊥) → (k : ℕ) → Alike (is_of other others) (at entries k) (at (slice_set entries put.0 put.1) k)
over_free kind entries put user name other others low is_put of apart = put_alike entries put.0 put.1 other others is_put.within (not_free other others (at entries put.0) low is_put.free) (apart_from user name other others put.1 of apart)

-- erasing entries that match a pattern
pub matches_letters : (pattern name : List ℕ) → name_matches pattern (letters name) ≡ name_matches pattern name
matches_letters [] [] = refl
matches_letters [] (b ∷ name) = refl
matches_letters (p ∷ pattern) [] = refl
matches_letters (p ∷ pattern) (b ∷ name) =
    let byte : b % 128 % 128 ≡ b % 128 = omega arith in
    ap (λ n. ((p == 0x3F) || (p % 128 == n)) && name_matches pattern (letters name)) byte ∙ ap (λ m. byte_matches p b && m) (matches_letters pattern name)

pub erased_alike : (entries : List Entry) (user : ℕ) (pattern : List ℕ) (other : ℕ) (others : List ℕ) → user < USERS → other < USERS → ((other ≡ user) → (name_matches pattern others ≡ true) → ⊥) → (k : ℕ) → Alike (is_of other others) (at entries k) (at (after_erasure user pattern entries) k)
erased_alike entries user pattern other others low low_other apart k =
    let after : at (after_erasure user pattern entries) k ≡ erased_by user pattern (at entries k) = at_erasure user pattern entries k low in
    elim (cases_Bool (is_match user pattern (at entries k))) as (λ _. Alike (is_of other others) (at entries k) (at (after_erasure user pattern entries) k)) [
      | inl matches ↦ (
          let gone : at (after_erasure user pattern entries) k ≡ erased (at entries k) = after ∙ ap (λ b. if b then erased (at entries k) else at entries k) matches in
          let parts = and_parts (nat_eq (at entries k).user user) (name_matches pattern (at entries k).name) matches in
          let before : is_of other others (at entries k) ≡ false = elim (cases_Bool (is_of other others (at entries k))) as (λ _. is_of other others (at entries k) ≡ false) [
            | inl of ↦ (let two = of_file other others (at entries k) of in
                absurd (apart (sym two.0 ∙ eqb-true (at entries k).user user parts.0) (ap (name_matches pattern) (sym two.1) ∙ matches_letters pattern (at entries k).name ∙ parts.1)))
            | inr not_of ↦ not_of
          ] in
          let now : is_of other others (erased (at entries k)) ≡ false = elim (cases_Bool (is_of other others (erased (at entries k)))) as (λ _. is_of other others (erased (at entries k)) ≡ false) [
            | inl of ↦ (let user_is : 0xE5 ≡ other = (of_file other others (erased (at entries k)) of).0 in absurd (omega arith))
            | inr not_of ↦ not_of
          ] in
          inr (before, subst (λ x. is_of other others x ≡ false) (sym gone) now))
      | inr kept ↦ inl (after ∙ ap (λ b. if b then erased (at entries k) else at entries k) kept)
    ]

pub renamed_alike : (entries : List Entry) (user : ℕ) (old new : List ℕ) (other : ℕ) (others : List ℕ) → user < USERS → other < USERS → length old ≡ length new → letters new ≡ new → ((other ≡ user) → (others ≡ old) → ⊥) → ((other ≡ user) → (others ≡ new) → ⊥) → (k : ℕ) → Alike (is_of other others) (at entries k) (at (after_renaming user old new entries) k)
renamed_alike entries user old new other others low low_other long seven apart_old apart_new k =
    let after : at (after_renaming user old new entries) k ≡ renamed_by user old new (at entries k) = at_renaming user old new entries k low in
    elim (cases_Bool (is_of user old (at entries k))) as (λ _. Alike (is_of other others) (at entries k) (at (after_renaming user old new entries) k)) [
      | inl of ↦ (
          let changed : at (after_renaming user old new entries) k ≡ renamed new (at entries k) = after ∙ ap (λ b. if b then renamed new (at entries k) else at entries k) of in
          let letters_are : letters (renamed new (at entries k)).name ≡ new = letters_with (at entries k).name new (length_of_name user old (at entries k) of ∙ long) seven in
          let now_of : is_of user new (renamed new (at entries k)) ≡ true = is_of_file user new (renamed new (at entries k)) (of_file user old (at entries k) of).0 letters_are in
          inr (
            apart_from user old other others (at entries k) of apart_old,
            subst (λ x. is_of other others x ≡ false) (sym changed) (apart_from user new other others (renamed new (at entries k)) now_of apart_new),
          ))
      | inr kept ↦ inl (after ∙ ap (λ b. if b then renamed new (at entries k) else at entries k) kept)
    ]

-- a write that was stopped leaves all records outside the directory and its block
untouched : (kind : DiskKind) (old new : Image) (p : Placement) (i : ℕ) (bytes : List ℕ) → PartlyWritten kind old new p i bytes → (n : ℕ) → n < record_count kind → directory_records kind ≤ n → (IsOfBlock kind p.block n → ⊥) → disk_record kind new n ≡ disk_record kind old n
untouched kind old new p i bytes (inl put) n below files beside_it = put.0.rest.records n below (λ of. elim of [ inl in_directory ↦ outside_directory kind n files in_directory | inr inside ↦ beside_it inside ])
untouched kind old new p i bytes (inr none) n below files beside_it = none.1.records n below beside_it

-- a record is written to an entry of one file, and to a block that no other entry has
pub beside_write : (kind : DiskKind) (old new : Image) (p : Placement) (i : ℕ) (bytes : List ℕ) (user : ℕ) (name : List ℕ) (other : ℕ) (others : List ℕ) → other < USERS → IsSound kind (directory kind old) → IsKeptBy kind user name (directory kind old) p → ((other ≡ user) → (others ≡ name) → ⊥) → PartlyWritten kind old new p i bytes → SameFile kind old new other others
beside_write kind old new p i bytes user name other others low sound kept apart left = same_file kind old new other others
    (λ k below. elim (write_between kind old new p i bytes left k) as (λ _. Alike (is_of other others) (at (directory kind old) k) (at (directory kind new) k)) [
      | inl same ↦ inl same
      | inr after ↦ subst (Alike (is_of other others) (at (directory kind old) k)) (sym after) (put_alike (directory kind old) p.entry_number p.entry other others kept.within before (apart_from user name other others p.entry kept.of_file apart) k)
    ])
    (λ k j below low_j of some.
    let ext = below_extent (at (directory kind old) k) (let user_is = (of_file other others (at (directory kind old) k) of).0 in omega arith) in
    let range : (first_block kind ≤ block kind (at (directory kind old) k) (j / block_records kind)) × (block kind (at (directory kind old) k) (j / block_records kind) < block_count kind) = elim (sound.blocks k ext (j / block_records kind)) [ inl none ↦ absurd (some none) | inr files ↦ files ] in
    let elsewhere : k ≢ p.entry_number = λ here. true≢false (sym of ∙ subst (λ n. is_of other others (at (directory kind old) n) ≡ false) (sym here) before) in
    let other_block : block kind (at (directory kind old) k) (j / block_records kind) ≢ p.block = λ same. kept.apart k (j / block_records kind) elsewhere ext same in
    let within = place_within kind (block kind (at (directory kind old) k) (j / block_records kind)) j range.0 range.1 in
    untouched kind old new p i bytes left (place_on_disk kind (at (directory kind old) k) j) within.1 within.0 (λ in_it. other_block (same_block kind (block kind (at (directory kind old) k) (j / block_records kind)) p.block j in_it)))
  where
    before : is_of other others (at (directory kind old) p.entry_number) ≡ false
    before = elim kept.was as (λ _. is_of other others (at (directory kind old) p.entry_number) ≡ false) [
      | inl of ↦ apart_from user name other others (at (directory kind old) p.entry_number) of apart
      | inr free ↦ not_free other others (at (directory kind old) p.entry_number) low free
    ]

pub created_entry : (user : ℕ) (name : List ℕ) (entries : List Entry) (put : ℕ × Entry) → creation user name entries ≡ Ok put → put.1 ≡ new_extent user name 0
created_entry user name entries put is =
    let (new_file, is_1) = unless_ok (is_file user name entries) fault.Exists (some_or (free_entry entries) fault.DirectoryFull >>= λ k. Ok (k, new_extent user name 0)) put is in
    let (k, free, last) = bind_ok (some_or (free_entry entries) fault.DirectoryFull) (λ k. Ok (k, new_extent user name 0)) put is_1 in
    let same : ◌≡◌ {A = ℕ × Entry} (k, new_extent user name 0) put = cc in
    sym (ap (λ (p : ℕ × Entry). p.1) same)

pub create_others : (kind : DiskKind) (old new : Image) (user : ℕ) (name : List ℕ) (put : ℕ × Entry) → letters name ≡ name → IsSound kind (directory kind old) → IsGoodPut kind (directory kind old) put → creation user name (directory kind old) ≡ Ok put → PartlyChanged kind old new (slice_set (directory kind old) put.0 put.1) → OthersAreSame kind old new (IsFile user name)
create_others kind old new user name put seven sound is_put asked left other others low apart =
    let of : is_of user name put.1 ≡ true = subst (λ e. is_of user name e ≡ true) (sym (created_entry user name (directory kind old) put asked)) (is_of_file user name (new_extent user name 0) refl seven) in
    beside kind old new (slice_set (directory kind old) put.0 put.1) other others low sound left (λ k _. over_free kind (directory kind old) put user name other others low is_put of (λ same_user same_name. apart (same_user, same_name)) k)

pub erase_others : (kind : DiskKind) (old new : Image) (user : ℕ) (pattern : List ℕ) → user < USERS → IsSound kind (directory kind old) → PartlyChanged kind old new (after_erasure user pattern (directory kind old)) → OthersAreSame kind old new (IsMatched user pattern)
erase_others kind old new user pattern low_user sound left other others low apart =
    beside kind old new (after_erasure user pattern (directory kind old)) other others low sound left (λ k _. erased_alike (directory kind old) user pattern other others low_user low (λ same_user matches. apart (same_user, matches)) k)

pub rename_others : (kind : DiskKind) (old new : Image) (user : ℕ) (from to : List ℕ) → user < USERS → length from ≡ length to → letters to ≡ to → IsSound kind (directory kind old) → PartlyChanged kind old new (after_renaming user from to (directory kind old)) → OthersAreSame kind old new (IsEither user from to)
rename_others kind old new user from to low_user long seven sound left other others low apart =
    beside kind old new (after_renaming user from to (directory kind old)) other others low sound left
    (λ k _. renamed_alike (directory kind old) user from to other others low_user low long seven (λ same_user same_name. apart (same_user, inl same_name)) (λ same_user same_name. apart (same_user, inr same_name)) k)

pub write_others : (kind : DiskKind) (old new : Image) (p : Placement) (i : ℕ) (bytes : List ℕ) (user : ℕ) (name : List ℕ) → IsSound kind (directory kind old) → IsKeptBy kind user name (directory kind old) p → PartlyWritten kind old new p i bytes → OthersAreSame kind old new (IsFile user name)
write_others kind old new p i bytes user name sound kept left other others low apart =
    beside_write kind old new p i bytes user name other others low sound kept (λ same_user same_name. apart (same_user, same_name)) left

pub whole_write : (kind : DiskKind) (old new : Image) (p : Placement) (i : ℕ) (bytes : List ℕ) → Written kind old new p i bytes → PartlyWritten kind old new p i bytes
whole_write kind old new p i bytes made = inl (made.data_are, λ k. inr (ap (λ es. at es k) made.entries_are))
